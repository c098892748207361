use Rattle.std.proofs.Common.{◌≡◌, take}
use Rattle.actx_scalars.specs.Splits.{units_apart}
use Rattle.actx_scalars.proofs.cut.units_apart.Given as goal

-- the units up to here are pieces
abbrev pub invariant-loop-i : goal.invariant-loop-i
invariant-loop-i l = l.pieces.items ≡ take l.i (units_apart l.text)
