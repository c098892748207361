use Rattle.std.proofs.Common.{sym, ◌∙◌}
use Rattle.actx_frame_steps.proofs.EndingLaws.{for_again_law}
use Rattle.actx_frame_steps.proofs.endings.for_ended.Goals as goal

pub returns-in_ok-update-in-Again : goal.returns-in_ok-update-in-Again
returns-in_ok-update-in-Again c =
    let e = c.in_ok-update-in-Again.ensures in
    let h = sym c.body_end.ensures ∙ c.in-Again.is in
    rw c.under.ensures (record { leads = for_again_law c.args.held c.args.c c.in_ok-update-in-Again.update h e })
