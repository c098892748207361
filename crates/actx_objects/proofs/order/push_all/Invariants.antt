use Rattle.std.proofs.Common.{◌≡◌, ◌++◌, drop}
use Rattle.std.specs.List.{filter_map}
use Rattle.actx_objects.specs.Properties.{index_in}
use Rattle.actx_objects.proofs.order.push_all.Given as goal

abbrev pub invariant-loop-key : goal.invariant-loop-key
invariant-loop-key l = l.indices.items ++ filter_map index_in (drop l.key-index l.keys) ≡ l.fn.indices.items ++ filter_map index_in l.fn.keys
