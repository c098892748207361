use Rattle.std.proofs.Common.{◌<◌, length, rules}
use Rattle.actx_frame_steps.proofs.ElementLaws.{elements_more}
use Rattle.actx_frame_steps.proofs.patterns.next_element.Goals as goal

pub returns : goal.returns
returns c =
    let lt : c.args.held.at < length c.args.held.list.value.items = search rules in
    rw c.under-2.ensures (record { leads = elements_more c.args.held c.args.walk lt })
