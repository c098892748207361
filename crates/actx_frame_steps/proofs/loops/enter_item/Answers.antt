use Rattle.actx_frame_steps.proofs.OfLaws.{of_entered}
use Rattle.actx_frame_steps.proofs.loops.enter_item.Goals as goal

pub returns : goal.returns
returns c =
    let e = c.in_ok-target.ensures in
    record { leads = of_entered c.args.held c.args.walk c.args.item c.args.v c.in_ok-target.target c.inside-p.result e c.inside-p.ensures }
