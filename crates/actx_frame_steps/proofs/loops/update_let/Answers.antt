use Rattle.actx_frame_steps.proofs.LoopLaws.{updating_law}
use Rattle.actx_frame_steps.proofs.loops.update_let.Goals as goal

pub returns : goal.returns
returns c =
    let e = c.in_ok-update.ensures in
    rw c.under.ensures (record { leads = updating_law c.args.held c.moved-held.result c.args.v c.in_ok-update.update c.moved-held.ensures e })
