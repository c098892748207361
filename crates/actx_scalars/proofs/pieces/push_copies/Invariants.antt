use Rattle.std.proofs.Common.{◌≡◌, ◌++◌}
use Rattle.std.specs.List.{repeat}
use Rattle.actx_scalars.proofs.pieces.push_copies.Given as goal

-- so many copies stand at the end
abbrev pub invariant-loop-copy : goal.invariant-loop-copy
invariant-loop-copy l = l.units.items ≡ l.initial.units.items ++ repeat l._copy l.text
