use Rattle.actx_frame_steps.proofs.LoopLaws.{for_turn_law}
use Rattle.actx_frame_steps.proofs.loops.test_for.Goals as goal

pub returns : goal.returns
returns c =
    let e = c.in_ok-test.ensures in
    rw c.under.ensures (record { leads = for_turn_law c.args.held c.args.v c.in_ok-test.test e })
