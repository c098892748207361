use Rattle.std.proofs.Common.{◌≡◌, ◌++◌, drop, map}
use Rattle.actx_shown.specs.Items.{property, properties}
use Rattle.actx_shown.proofs.items.properties.Given as goal

abbrev pub invariant-loop-k : goal.invariant-loop-k
invariant-loop-k l = l.items.items ++ map (property l.texts.texts l.objects l.o) (drop l.k-index l.k-items) ≡ properties l.texts.texts l.objects l.o
