use Rattle.actx_frame_steps.proofs.PatternLaws.{copy_default}
use Rattle.actx_frame_steps.proofs.patterns.copy_element.Goals as goal

pub returns-in_ok-e-in-Some : goal.returns-in_ok-e-in-Some
returns-in_ok-e-in-Some c =
    let t = c.in_ok-target.ensures in
    let e = c.in_ok-e-in-Some.ensures in
    copy_default c.args.element.now c.in_ok-target.target c.in-Some.e c.in_ok-e-in-Some.e t c.in-Some.is e
