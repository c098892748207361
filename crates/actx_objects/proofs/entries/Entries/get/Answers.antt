use Rattle.std.proofs.Common.{◌≡◌, ◌<◌, ℕ, List, Option, Some, None, length, slice_get, refl, sym, ap, ◌∙◌}
use Rattle.std.proofs.lemmas.Option.{slice_get_read, none-some}
use Rattle.actx_value.specs.declared.value.Value.{Value}
use Rattle.actx_objects.specs.declared.slot.Slot.{Slot}
use Rattle.actx_objects.specs.Keys.{value_eq}
use Rattle.actx_objects.specs.Pairs.{at_key}
use Rattle.actx_objects.proofs.SlotLemmas.{there, not_there, place_within, some_same}
use Rattle.actx_objects.proofs.entries.Entries.get.Goals as goal

pub returns-in-Some-index : goal.returns-in-Some-index
returns-in-Some-index c =
    let places : Value → Option ℕ = λ key. at_key value_eq key c.self.inside.places in
    let slots : List (Option Slot) = c.self.inside.slots.items in
    let h : places c.args.key ≡ Some c.in-Some.place = sym c.in-Some.ensures in
    let less : c.in-Some.place < length slots = place_within places slots c.self.inside.count c.self.invariant c.args.key c.in-Some.place h in
    let at : slice_get slots c.in-Some.place ≡ Some (Some c.in-Some-index.slot) = slice_get_read slots (length slots) c.in-Some.place c.index.result.now refl less c.index.ensures ∙ ap Some c.in-Some-index.is in
    rw (← c.self.view_is, c.from.ensures) (sym (there places slots c.self.inside.count c.self.invariant c.args.key c.in-Some.place h c.in-Some-index.slot at))

pub returns-in-None-index : goal.returns-in-None-index
returns-in-None-index c =
    let places : Value → Option ℕ = λ key. at_key value_eq key c.self.inside.places in
    let slots : List (Option Slot) = c.self.inside.slots.items in
    let h : places c.args.key ≡ Some c.in-Some.place = sym c.in-Some.ensures in
    let less : c.in-Some.place < length slots = place_within places slots c.self.inside.count c.self.invariant c.args.key c.in-Some.place h in
    let at : slice_get slots c.in-Some.place ≡ Some None = slice_get_read slots (length slots) c.in-Some.place c.index.result.now refl less c.index.ensures ∙ ap Some c.in-None-index.is in
    let own = c.self.invariant.held c.args.key c.in-Some.place h in
    absurd (none-some own.0 (some_same None (Some own.0) (sym at ∙ own.1)))

pub returns-in-None : goal.returns-in-None
returns-in-None c =
    let places : Value → Option ℕ = λ key. at_key value_eq key c.self.inside.places in
    rw (← c.self.view_is) (sym (not_there places c.self.inside.slots.items c.self.inside.count c.self.invariant c.args.key (sym c.in-None.ensures)))
