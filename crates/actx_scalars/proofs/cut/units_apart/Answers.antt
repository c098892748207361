use Rattle.std.proofs.Common.{◌≡◌, ◌<◌, ◌+◌, [], ◌∷◌, ◌++◌, length, take, arith}
use Rattle.std.specs.List.{slice_range}
use Rattle.actx_scalars.specs.Splits.{units_apart}
use Rattle.actx_scalars.proofs.PieceLemmas.{apart_more}
use Rattle.actx_scalars.proofs.cut.units_apart.Goals as goal

pub loop-i-preserved : goal.loop-i-preserved
loop-i-preserved c =
    let within : c.loop-i.i < length c.args.text.now = omega arith in
    let more : take c.loop-i.i (units_apart c.args.text.now) ++ slice_range c.args.text.now c.loop-i.i (c.loop-i.i + 1) ∷ [] ≡ take (c.loop-i.i + 1) (units_apart c.args.text.now) = apart_more c.args.text.now c.loop-i.i within in
    cc (more, c.loop-i.invariant, c.in_ok-piece.ensures, c.in_ok-push.ensures.items)
