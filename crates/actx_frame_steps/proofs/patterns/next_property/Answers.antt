use Rattle.std.proofs.Common.{◌<◌, length, rules}
use Rattle.actx_frame_steps.proofs.PatternLaws.{properties_more}
use Rattle.actx_frame_steps.proofs.patterns.next_property.Goals as goal

pub returns : goal.returns
returns c =
    let lt : c.args.held.at < length c.args.held.list.value.items = search rules in
    rw c.under-2.ensures (record { leads = properties_more c.args.held c.index.result.now lt (search rules) })
