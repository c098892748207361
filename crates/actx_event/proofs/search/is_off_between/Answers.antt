use Rattle.std.proofs.Common.{◌∙◌, sym}
use Rattle.actx_event.proofs.Searches.{off_found}
use Rattle.actx_event.proofs.search.is_off_between.Goals as goal

pub returns-then-switches_off : goal.returns-then-switches_off
returns-then-switches_off c =
    let l = c.loop-n in
    sym (off_found c.args.variable.0 c.args.log.now c.args.from l.n c.args.place c.event_at.result.now c.event_at.ensures c.if-from-n.true (sym c.switches_off.ensures ∙ c.if-switches_off.true) c.loop-n-test.true)
