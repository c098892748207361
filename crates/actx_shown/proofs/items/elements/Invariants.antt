use Rattle.std.proofs.Common.{◌≡◌, ◌++◌, drop, map, unwrap_or}
use Rattle.actx_value.specs.declared.value.Value.TheVariants.{Undefined}
use Rattle.actx_objects.specs.Objects.{own_of}
use Rattle.actx_shown.specs.Items.{alone, elements}
use Rattle.actx_shown.proofs.items.elements.Given as goal

abbrev pub invariant-loop-k : goal.invariant-loop-k
invariant-loop-k l = l.items.items ++ map (λ k. alone (unwrap_or (own_of l.texts.texts l.objects l.o k) Undefined)) (drop l.k-index l.k-items) ≡ elements l.texts.texts l.objects l.o
