use Rattle.std.proofs.Common.{◌≡◌, true, rules}
use Rattle.actx_value.specs.Truth.{truth_of}
use Rattle.actx_frame_steps.proofs.LoopLaws.{while_tested_yes}
use Rattle.actx_frame_steps.proofs.loops.while_tested.Goals as goal

pub returns : goal.returns
returns c =
    let h : truth_of c.args.v ≡ true = search rules in
    let e = c.in_ok-body.ensures in
    record { leads = while_tested_yes c.args.held c.args.v c.in_ok-body.body h e }
