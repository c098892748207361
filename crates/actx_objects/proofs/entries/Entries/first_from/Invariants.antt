use Rattle.std.proofs.Common.{◌≡◌, drop}
use Rattle.actx_objects.specs.Entries.{first_from}
use Rattle.actx_objects.proofs.SeenLemmas.{first_in}
use Rattle.actx_objects.proofs.entries.Entries.first_from.Given as goal

-- the rest of the slots gives what all give
abbrev pub invariant-loop-p : goal.invariant-loop-p
invariant-loop-p l = first_in l.place l.p (drop l.p l.self-inside.slots.items) ≡ first_from l.place l.self
