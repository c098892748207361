use Rattle.std.proofs.Common.{◌≡◌, ◌++◌, drop, map}
use Rattle.actx_value.specs.declared.value.Key.TheVariants.{Index}
use Rattle.actx_objects.proofs.order.push_indices.Given as goal

abbrev pub invariant-loop-i : goal.invariant-loop-i
invariant-loop-i l = l.ordered.items ++ map Index (drop l.i-index l.indices) ≡ l.fn.ordered.items ++ map Index l.fn.indices
