use Rattle.std.proofs.Common.{[], length, ap, ◌∙◌}
use Rattle.actx_objects.specs.Keys.{value_eq}
use Rattle.actx_objects.specs.Pairs.{at_key}
use Rattle.actx_objects.specs.Slots.{standing_from}
use Rattle.actx_objects.specs.Entries.{EntryList}
use Rattle.actx_objects.proofs.ClearLemmas.{blanks_found, none_in_blanks, length-blanks}
use Rattle.actx_objects.proofs.entries.Entries.clear.Goals as goal

pub invariant_of-self : goal.invariant_of-self
invariant_of-self c =
    rw c.empty_slots.ensures
    (blanks_found (length c.self.inside.slots.items) (λ key. at_key value_eq key c.clear.new.self) (λ key. ap (at_key value_eq key) c.clear.ensures))

pub returns : goal.returns
returns c =
    let slots = c.self.inside.slots.items in
    let emptied = c.empty_slots.ensures in
    let standing = ap (standing_from 0) emptied ∙ none_in_blanks 0 (length slots) in
    let places = ap length emptied ∙ length-blanks (length slots) in
    ap (λ ss. record { standing = ss; places = length c.empty_slots.new.slots.items }) standing
    ∙ ap (λ n. record { standing = []; places = n }) places
    ∙ ap (λ (es : EntryList). record { standing = []; places = es.places }) c.self.view_is
