use Rattle.std.proofs.Common.{◌≡◌, ◌≤◌, ◌-◌, ◌++◌, length}
use Rattle.actx_scalars.specs.Splits.{pieces_from}
use Rattle.actx_scalars.proofs.cut.pieces_between.Given as goal

-- the pieces up to here and those of the units that are left are all pieces
abbrev pub invariant-loop-count : goal.invariant-loop-count
invariant-loop-count l =
    (l.from ≤ length l.text) × (l.pieces.items ++ pieces_from (l.most - l._count) l.text l.separator l.from ≡ pieces_from l.most l.text l.separator 0)
