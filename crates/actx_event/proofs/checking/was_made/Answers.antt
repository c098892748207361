use Rattle.std.proofs.Common.{◌≡◌, ◌∙◌, sym, ap, Some}
use Rattle.std.specs.Prelude.{is_some}
use Rattle.actx_event.specs.Event.{number_made, number_named}
use Rattle.actx_event.specs.Front.{front}
use Rattle.actx_event.specs.Valid.{was_made}
use Rattle.actx_event.proofs.Rules.{was_made_number}
use Rattle.actx_event.proofs.checking.was_made.Goals as goal

pub returns-in-Some : goal.returns-in-Some
returns-in-Some c =
    let makes = number_made c.args.what in
    let named : number_named c.args.what c.args.event.now ≡ Some c.in-Some.number = sym c.number_named.ensures ∙ c.in-Some.is in
    c.is_some.ensures ∙ (ap is_some c.first_made.ensures ∙ (was_made_number makes c.in-Some.number c.args.log.now c.args.n ∙ ap (λ o. was_made makes o (front c.args.log.now c.args.n)) (sym named)))
