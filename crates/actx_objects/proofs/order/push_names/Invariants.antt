use Rattle.std.proofs.Common.{◌≡◌, ◌++◌, drop}
use Rattle.std.specs.List.{filter}
use Rattle.actx_objects.specs.Properties.{is_name}
use Rattle.actx_objects.proofs.order.push_names.Given as goal

abbrev pub invariant-loop-key : goal.invariant-loop-key
invariant-loop-key l = l.ordered.items ++ filter is_name (drop l.key-index l.keys) ≡ l.fn.ordered.items ++ filter is_name l.fn.keys
