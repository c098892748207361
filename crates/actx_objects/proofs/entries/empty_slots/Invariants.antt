use Rattle.std.proofs.Common.{◌≡◌, ◌++◌, drop}
use Rattle.actx_objects.specs.Slots.{blanks}
use Rattle.actx_objects.proofs.entries.empty_slots.Given as goal

-- the slots up to here are empty, and the others are as they were
abbrev pub invariant-loop-p : goal.invariant-loop-p
invariant-loop-p l = l.slots.items ≡ blanks l.p ++ drop l.p l.fn.slots.items
