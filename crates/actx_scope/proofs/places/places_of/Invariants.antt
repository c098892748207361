use Rattle.actx_scope.proofs.Skips.{Noted}
use Rattle.actx_scope.proofs.places.places_of.Given as goal

abbrev pub invariant-loop-i : goal.invariant-loop-i
invariant-loop-i l = Noted l.map l.list l.i
