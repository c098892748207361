use Rattle.std.proofs.Common.{◌∙◌, sym, ap}
use Rattle.std.specs.Option.{option_copied}
use Rattle.actx_event.specs.Walk.{default_of}
use Rattle.actx_event.specs.Numbers.{declaration_at}
use Rattle.actx_event.proofs.Searches.{default_found, copy_along}
use Rattle.actx_event.proofs.search.default_value.Goals as goal

pub returns-in-Some : goal.returns-in-Some
returns-in-Some c =
    let l = c.loop-n in
    let e = c.event_at.result.now in
    copy_along c.copy.result c.in-Some.default.now (default_of (declaration_at c.args.variable.0 c.args.log.now c.args.place))
    (sym (default_found c.args.variable.0 c.args.log.now l.n c.args.place e c.in-Some.default.now c.event_at.ensures l.invariant (sym c.default_declared.ensures ∙ ap option_copied c.in-Some.is) c.loop-n-test.true))
    c.copy.ensures
