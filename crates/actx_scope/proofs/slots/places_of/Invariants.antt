use Rattle.std.proofs.Common.{◌≡◌, ◌++◌, map, drop}
use Rattle.actx_scope.specs.Checks.{place_slot, slots_of_uses}
use Rattle.actx_scope.proofs.slots.places_of.Given as goal

abbrev pub invariant-loop-found : goal.invariant-loop-found
invariant-loop-found l = map place_slot l.places ++ slots_of_uses (drop l.found-index l.uses) ≡ slots_of_uses l.uses
