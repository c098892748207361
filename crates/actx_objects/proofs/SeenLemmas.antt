-- What contracts see of slots after each change.
use Rattle.std.proofs.Common.{◌≡◌, ℕ, zero, suc, ◌+◌, ◌≤◌, cond, true, false, nat_le, List, [], ◌∷◌, ◌++◌, drop, length, slice_get, slice_set, Option, Some, None, is_some, refl, sym, ap, ◌∙◌, arith, length-append}
use Rattle.std.proofs.Math.ListN.{length-set}
use Rattle.std.proofs.lemmas.Bool.Decides.{nat_tests}
use Rattle.std.specs.List.{find}
use Rattle.std.specs.Option.{option_map, option_map_or}
use Rattle.actx_value.specs.declared.value.Value.{Value}
use Rattle.actx_objects.specs.declared.slot.Slot.{Slot}
use Rattle.actx_objects.specs.declared.entries.Placed.{Placed}
use Rattle.actx_objects.specs.Keys.{value_eq}
use Rattle.actx_objects.specs.Pairs.{with_key, without_key}
use Rattle.actx_objects.specs.Entries.{EntryList, with_entry, without_entry, triple_of}
use Rattle.actx_objects.specs.Slots.{entry_at, standing_from, IsFound}
use Rattle.actx_objects.proofs.DropLemmas.{drop_next}
use Rattle.actx_objects.proofs.PairLemmas.{length-without_key}
use Rattle.actx_objects.proofs.SlotLemmas.{there, there_with, there_without, not_there, not_there_with, not_there_without, pushed_slot}
use Rattle.actx_objects.proofs.FoundLemmas.{seen}

-- no more entries stand than there are slots
pub standing_fewer : (q : ℕ) (slots : List (Option Slot)) → length (standing_from q slots) ≤ length slots
standing_fewer q [] = omega arith
standing_fewer q (None ∷ slots) = let h : length (standing_from (suc q) slots) ≤ length slots = standing_fewer (suc q) slots in omega arith
standing_fewer q (Some s ∷ slots) = let h : length (standing_from (suc q) slots) ≤ length slots = standing_fewer (suc q) slots in omega arith

-- both parts of what is seen
abbrev pub list_of : List (Value × Placed) → ℕ → EntryList
list_of standing places = record { standing = standing; places = places }

both : (a b : List (Value × Placed)) (m n : ℕ) → a ≡ b → m ≡ n → list_of a m ≡ list_of b n
both a b m n h j = ap (λ l. list_of l m) h ∙ ap (λ k. list_of b k) j

-- the entries with a value, by what stood under the key
abbrev pub with_found : Value → Value → EntryList → Option Placed → EntryList
with_found key v es w = record {
  standing = with_key value_eq key (record { place = option_map_or (λ e. e.place) w es.places; value = v }) es.standing;
  places = cond (is_some w) es.places (suc es.places);
}

module _ (where_is : Value → Option ℕ) (slots : List (Option Slot)) (count : ℕ) (found : IsFound where_is slots count) (key : Value) where
  pub seen_pushed : (v : Value) → where_is key ≡ None → seen (slots ++ Some (record { key = key; value = v }) ∷ []) ≡ with_entry key v (seen slots)
  seen_pushed v none =
      let s : Slot = record { key = key; value = v } in
      let x : Placed = record { place = length slots; value = v } in
      let here : 0 + length slots ≡ length slots = omega arith in
      let long : length (slots ++ Some s ∷ []) ≡ suc (length slots) = omega (arith, length-append slots (Some s ∷ [])) in
      both _ _ _ _
      (pushed_slot 0 slots s ∙ ap (λ p. standing_from 0 slots ++ entry_at p s ∷ []) here ∙ sym (not_there_with where_is slots count found key x none))
      long
      ∙ sym (ap (with_found key v (seen slots)) (not_there where_is slots count found key none))

  pub seen_missed : where_is key ≡ None → seen slots ≡ without_entry key (seen slots)
  seen_missed none = both _ _ (length slots) (length slots) (sym (not_there_without where_is slots count found key none)) refl

  module _ (p : ℕ) (h : where_is key ≡ Some p) (s : Slot) (at : slice_get slots p ≡ Some (Some s)) where
    pub seen_written : (v : Value) → seen (slice_set slots p (Some (record { key = key; value = v }))) ≡ with_entry key v (seen slots)
    seen_written v =
        let t : Slot = record { key = key; value = v } in
        both _ _ _ _ (there_with where_is slots count found key p h v s at) (length-set slots p (Some t))
        ∙ sym (ap (with_found key v (seen slots)) (there where_is slots count found key p h s at))

    pub seen_emptied : seen (slice_set slots p None) ≡ without_entry key (seen slots)
    seen_emptied = both _ _ _ _ (there_without where_is slots count found key p h s at) (length-set slots p None)

    pub one_stands : 1 ≤ count
    one_stands =
        let less : length (without_key value_eq key (standing_from 0 slots)) + 1 ≡ length (standing_from 0 slots) = length-without_key value_eq key (standing_from 0 slots) (ap is_some (there where_is slots count found key p h s at)) in
        omega (arith, less, found.counted)

-- the first entry from a place on, among the slots from an index on
abbrev pub first_in : ℕ → ℕ → List (Option Slot) → Option (ℕ × Value × Value)
first_in place p slots = option_map triple_of (find (λ e. nat_le place e.1.place) (standing_from p slots))

-- slots before the place have no such entry
pub first_skips : (place q n : ℕ) (slots : List (Option Slot)) → q + n ≡ place → first_in place q slots ≡ first_in place place (drop n slots)
first_skips place q zero slots h = let same : q ≡ place = omega arith in ap (λ p. first_in place p slots) same
first_skips place q (suc n) [] h = refl
first_skips place q (suc n) (None ∷ slots) h = first_skips place (suc q) n slots (omega arith)
first_skips place q (suc n) (Some s ∷ slots) h =
    let so : nat_le place q ≡ false = grind (arith, nat_tests) in
    ap (λ b. option_map triple_of (cond b (Some (entry_at q s)) (find (λ e. nat_le place e.1.place) (standing_from (suc q) slots)))) so
    ∙ first_skips place (suc q) n slots (omega arith)

drop_over : {X : Type 0} → (xs : List X) (n : ℕ) → length xs ≤ n → drop n xs ≡ []
drop_over [] zero h = refl
drop_over [] (suc n) h = refl
drop_over (x ∷ xs) zero h = absurd (omega arith)
drop_over (x ∷ xs) (suc n) h = drop_over xs n (omega arith)

pub first_over : (place p : ℕ) (slots : List (Option Slot)) → length slots ≤ p → None ≡ first_in place p (drop p slots)
first_over place p slots h = sym (ap (first_in place p) (drop_over slots p h))

pub first_empty : (place p : ℕ) (slots : List (Option Slot)) → slice_get slots p ≡ Some None → first_in place (p + 1) (drop (p + 1) slots) ≡ first_in place p (drop p slots)
first_empty place p slots h =
    let next : p + 1 ≡ suc p = omega arith in
    ap (λ q. first_in place q (drop (p + 1) slots)) next ∙ sym (ap (first_in place p) (drop_next slots p None h))

pub first_held : (place p : ℕ) (slots : List (Option Slot)) (s : Slot) → slice_get slots p ≡ Some (Some s) → place ≤ p → Some (p, s.key, s.value) ≡ first_in place p (drop p slots)
first_held place p slots s h less =
    let so : nat_le place p ≡ true = grind (arith, nat_tests) in
    sym (ap (first_in place p) (drop_next slots p (Some s) h)
    ∙ ap (λ b. option_map triple_of (cond b (Some (entry_at p s)) (find (λ e. nat_le place e.1.place) (standing_from (suc p) (drop (p + 1) slots))))) so)
