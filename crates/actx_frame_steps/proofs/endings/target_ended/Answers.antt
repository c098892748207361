use Rattle.actx_frame_steps.proofs.EndingLaws.{target_bound}
use Rattle.actx_frame_steps.proofs.endings.target_ended.Goals as goal

pub returns-in_ok-body-in-Normal : goal.returns-in_ok-body-in-Normal
returns-in_ok-body-in-Normal c =
    let e = c.in_ok-body-in-Normal.ensures in
    rw c.in-Normal.is (record { leads = target_bound c.args.held c.args.p c.args.walk _ c.in_ok-body-in-Normal.body e })
