use Rattle.actx_frame_steps.proofs.LoopLaws.{do_turn_law}
use Rattle.actx_frame_steps.proofs.loops.enter_do_body.Goals as goal

pub returns : goal.returns
returns c =
    let e = c.in_ok-body.ensures in
    record { leads = do_turn_law c.args.held c.args.v c.in_ok-body.body e }
