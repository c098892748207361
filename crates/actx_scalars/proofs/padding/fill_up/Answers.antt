use Rattle.std.proofs.Common.{◌≡◌, ◌<◌, length, max, arith}
use Rattle.actx_scalars.specs.Padding.{padded}
use Rattle.actx_scalars.proofs.BoundLemmas.{too_long}
use Rattle.actx_scalars.proofs.LengthLemmas.{length-padded}
use Rattle.actx_scalars.proofs.padding.fill_up.Goals as goal

pub returns-then-max-most : goal.returns-then-max-most
returns-then-max-most c =
    let long : length (padded c.args.side c.args.n c.args.fill.now c.args.text.now) ≡ max c.args.n (length c.args.text.now) = length-padded c.args.side c.args.n c.args.fill.now c.args.text.now c.requires in
    too_long (padded c.args.side c.args.n c.args.fill.now c.args.text.now) c.args.most (omega arith)
