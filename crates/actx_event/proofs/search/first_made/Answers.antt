use Rattle.std.proofs.Common.{◌≡◌, sym, Some}
use Rattle.actx_event.specs.Event.{number_made}
use Rattle.actx_event.proofs.Searches.{made_found}
use Rattle.actx_event.proofs.search.first_made.Goals as goal

pub returns-then-made-number : goal.returns-then-made-number
returns-then-made-number c =
    let l = c.loop-n in
    let e = c.event_at.result.now in
    let makes_it : number_made c.args.what e ≡ Some c.in-Some.made = cc (c.number_made.ensures, c.in-Some.is) in
    sym (made_found (number_made c.args.what) c.args.number c.in-Some.made c.args.log.now l.n c.args.place e c.event_at.ensures l.invariant makes_it (sym c.if-made-number.true) c.loop-n-test.true)
