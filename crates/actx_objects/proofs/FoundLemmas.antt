-- Keys stay found after each change, and the first entry from a place on.
use Rattle.std.proofs.Common.{◌≡◌, ◌≢◌, ℕ, ◌+◌, ◌<◌, ◌⊎◌, inl, inr, cond, Bool, true, false, nat_eq, List, [], ◌∷◌, ◌++◌, length, slice_get, slice_set, Option, Some, None, is_some, refl, sym, subst, ap, ◌∙◌, arith, true≢false, length-append}
use Rattle.std.proofs.lemmas.Bool.Decides.{nat_tests}
use Rattle.std.proofs.lemmas.Option.{none-some, slice_get_within}
use Rattle.std.specs.List.{find}
use Rattle.actx_value.specs.declared.value.Value.{Value}
use Rattle.actx_objects.specs.declared.slot.Slot.{Slot}
use Rattle.actx_objects.specs.declared.entries.Placed.{Placed}
use Rattle.actx_objects.specs.Keys.{value_eq}
use Rattle.actx_objects.specs.Pairs.{at_key, with_key, without_key}
use Rattle.actx_objects.specs.Entries.{EntryList}
use Rattle.actx_objects.specs.Slots.{entry_at, standing_from, IsFound}
use Rattle.actx_objects.proofs.PairLemmas.{length-with_key, length-without_key}
use Rattle.actx_objects.proofs.ValueLemmas.{value_is, value_self}
use Rattle.actx_objects.proofs.SliceLemmas.{set_here, set_elsewhere, push_here, push_before, push_cases}
use Rattle.actx_objects.proofs.SlotLemmas.{there, there_with, there_without, pushed_slot, some_same}

-- what contracts see of slots
abbrev pub seen : List (Option Slot) → EntryList
seen slots = record { standing = standing_from 0 slots; places = length slots }

same_or_not : (i p : ℕ) → (i ≡ p) ⊎ (i ≢ p)
same_or_not i p = by (nat_eq i p) refl
  where
    by : (b : Bool) → nat_eq i p ≡ b → (i ≡ p) ⊎ (i ≢ p)
    by true e = inl (grind (arith, nat_tests))
    by false e = inr (grind (arith, nat_tests))

-- how many stand after a write to an entry's slot
stays : (find : Value → Option ℕ) (slots : List (Option Slot)) (count : ℕ) (found : IsFound find slots count) (key : Value) (p : ℕ) (h : find key ≡ Some p) (s : Slot) (at : slice_get slots p ≡ Some (Some s)) (t : Slot) (own : t.key ≡ key)
    → length (standing_from 0 (slice_set slots p (Some t))) ≡ length (standing_from 0 slots)
stays find slots count found key p h s at t own =
    let x : Placed = record { place = p; value = t.value } in
    let whole : length (standing_from 0 (slice_set slots p (Some (record { key = key; value = t.value })))) ≡ length (with_key value_eq key x (standing_from 0 slots)) = ap length (there_with find slots count found key p h t.value s at) in
    let long : length (with_key value_eq key x (standing_from 0 slots)) ≡ length (standing_from 0 slots) + cond (is_some (at_key value_eq key (standing_from 0 slots))) 0 1 = length-with_key value_eq key x (standing_from 0 slots) in
    let some : is_some (at_key value_eq key (standing_from 0 slots)) ≡ true = ap is_some (there find slots count found key p h s at) in
    let named : length (standing_from 0 (slice_set slots p (Some t))) ≡ length (standing_from 0 (slice_set slots p (Some (record { key = key; value = t.value })))) = ap (λ k. let z : Slot = record { key = k; value = t.value } in length (standing_from 0 (slice_set slots p (Some z)))) own in
    named ∙ whole ∙ long ∙ ap (λ b. length (standing_from 0 slots) + cond b 0 1) some ∙ plus_nothing (length (standing_from 0 slots))
  where
    plus_nothing : (n : ℕ) → n + 0 ≡ n
    plus_nothing n = omega arith

module _ (find_old find_new : Value → Option ℕ) (slots : List (Option Slot)) (count : ℕ) (found : IsFound find_old slots count) (key : Value) where
  module _ (s : Slot) (own : s.key ≡ key) (none : find_old key ≡ None) (is : (q : Value) → find_new q ≡ cond (value_eq key q) (Some (length slots)) (find_old q)) where
    held_pushed : (q : Value) (p : ℕ) (b : Bool) → value_eq key q ≡ b → cond b (Some (length slots)) (find_old q) ≡ Some p → (t : Slot) × (slice_get (slots ++ Some s ∷ []) p ≡ Some (Some t)) × (t.key ≡ q)
    held_pushed q p true e h = (s, subst (λ i. slice_get (slots ++ Some s ∷ []) i ≡ Some (Some s)) (some_same (length slots) p h) (push_here slots (Some s)), own ∙ value_is key q e)
    held_pushed q p false e h = let old = found.held q p h in (old.0, push_before slots (Some s) p (Some old.0) old.1, old.2)

    covered_pushed : (p : ℕ) (t : Slot) → (slice_get slots p ≡ Some (Some t)) ⊎ ((p ≡ length slots) × (Some (Some s) ≡ Some (Some t))) → find_new t.key ≡ Some p
    covered_pushed p t (inl e) = is t.key ∙ by (value_eq key t.key) refl
      where
        by : (b : Bool) → value_eq key t.key ≡ b → cond b (Some (length slots)) (find_old t.key) ≡ Some p
        by true same = absurd (none-some p (sym none ∙ ap find_old (value_is key t.key same) ∙ found.covered p t e))
        by false same = found.covered p t e
    covered_pushed p t (inr e) =
        let same : s ≡ t = some_same s t (some_same (Some s) (Some t) e.1) in
        let mine : t.key ≡ key = ap (λ (z : Slot). z.key) (sym same) ∙ own in
        is t.key ∙ ap (λ b. cond b (Some (length slots)) (find_old t.key)) (ap (value_eq key) mine ∙ value_self key) ∙ ap Some (sym e.0)

    -- a new entry
    pub found_pushed : (more : ℕ) → more ≡ count + 1 → IsFound find_new (slots ++ Some s ∷ []) more
    found_pushed more one =
        let long : length (standing_from 0 (slots ++ Some s ∷ [])) ≡ length (standing_from 0 slots) + 1 = ap length (pushed_slot 0 slots s) ∙ length-append (standing_from 0 slots) (entry_at (0 + length slots) s ∷ []) in
        record {
          held = λ q p h. held_pushed q p (value_eq key q) refl (sym (is q) ∙ h);
          covered = λ p t e. covered_pushed p t (push_cases slots (Some s) p (Some t) e);
          counted = omega (arith, long, found.counted, one);
        }

  module _ (p : ℕ) (h : find_old key ≡ Some p) (s : Slot) (at : slice_get slots p ≡ Some (Some s)) where
    within : p < length slots
    within = slice_get_within slots p (Some s) at

    -- an entry with another value
    module _ (t : Slot) (own : t.key ≡ key) where
      pub found_written : IsFound find_old (slice_set slots p (Some t)) count
      found_written =
          record {
            held = λ q i e. held_by q i e (same_or_not i p);
            covered = λ i u e. covered_by i u e (same_or_not i p);
            counted = found.counted ∙ sym long;
          }
        where
          held_by : (q : Value) (i : ℕ) → find_old q ≡ Some i → (i ≡ p) ⊎ (i ≢ p) → (u : Slot) × (slice_get (slice_set slots p (Some t)) i ≡ Some (Some u)) × (u.key ≡ q)
          held_by q i e (inl same) =
              let old = found.held q i e in
              let mine = found.held key p h in
              let one : old.0 ≡ mine.0 = some_same old.0 mine.0 (some_same (Some old.0) (Some mine.0) (sym old.1 ∙ ap (slice_get slots) same ∙ mine.1)) in
              (t, ap (slice_get (slice_set slots p (Some t))) same ∙ set_here slots p (Some t) within, own ∙ sym mine.2 ∙ ap (λ (z : Slot). z.key) (sym one) ∙ old.2)
          held_by q i e (inr other) = let old = found.held q i e in (old.0, set_elsewhere slots p i (Some t) other ∙ old.1, old.2)

          covered_by : (i : ℕ) (u : Slot) → slice_get (slice_set slots p (Some t)) i ≡ Some (Some u) → (i ≡ p) ⊎ (i ≢ p) → find_old u.key ≡ Some i
          covered_by i u e (inl same) =
              let one : t ≡ u = some_same t u (some_same (Some t) (Some u) (sym (set_here slots p (Some t) within) ∙ ap (slice_get (slice_set slots p (Some t))) (sym same) ∙ e)) in
              ap find_old (ap (λ (z : Slot). z.key) (sym one) ∙ own) ∙ h ∙ ap Some (sym same)
          covered_by i u e (inr other) = found.covered i u (sym (set_elsewhere slots p i (Some t) other) ∙ e)

          long : length (standing_from 0 (slice_set slots p (Some t))) ≡ length (standing_from 0 slots)
          long = stays find_old slots count found key p h s at t own

    -- no entry
    module _ (is : (q : Value) → find_new q ≡ cond (value_eq key q) None (find_old q)) where
      pub found_emptied : (less : ℕ) → less + 1 ≡ count → IsFound find_new (slice_set slots p None) less
      found_emptied less one =
          record {
            held = λ q i e. held_by q i (value_eq key q) refl (sym (is q) ∙ e);
            covered = λ i u e. covered_by i u e (same_or_not i p);
            counted = count_by;
          }
        where
          held_by : (q : Value) (i : ℕ) (b : Bool) → value_eq key q ≡ b → cond b None (find_old q) ≡ Some i → (u : Slot) × (slice_get (slice_set slots p None) i ≡ Some (Some u)) × (u.key ≡ q)
          held_by q i true same e = absurd (none-some i e)
          held_by q i false same e =
              let old = found.held q i e in
              let mine = found.held key p h in
              let other : i ≢ p = λ one.
              let slot : old.0 ≡ mine.0 = some_same old.0 mine.0 (some_same (Some old.0) (Some mine.0) (sym old.1 ∙ ap (slice_get slots) one ∙ mine.1)) in
              true≢false (sym (value_self key) ∙ ap (value_eq key) (sym mine.2 ∙ ap (λ (z : Slot). z.key) (sym slot) ∙ old.2) ∙ same) in
              (old.0, set_elsewhere slots p i None other ∙ old.1, old.2)

          covered_by : (i : ℕ) (u : Slot) → slice_get (slice_set slots p None) i ≡ Some (Some u) → (i ≡ p) ⊎ (i ≢ p) → find_new u.key ≡ Some i
          covered_by i u e (inl same) = absurd (none-some u (some_same None (Some u) (sym (set_here slots p None within) ∙ ap (slice_get (slice_set slots p None)) (sym same) ∙ e)))
          covered_by i u e (inr other) = is u.key ∙ by (value_eq key u.key) refl
            where
              stood : slice_get slots i ≡ Some (Some u)
              stood = sym (set_elsewhere slots p i None other) ∙ e

              by : (b : Bool) → value_eq key u.key ≡ b → cond b None (find_old u.key) ≡ Some i
              by true same = absurd (other (some_same i p (sym (found.covered i u stood) ∙ ap find_old (sym (value_is key u.key same)) ∙ h)))
              by false same = found.covered i u stood

          count_by : less ≡ length (standing_from 0 (slice_set slots p None))
          count_by =
              let gone : length (standing_from 0 (slice_set slots p None)) ≡ length (without_key value_eq key (standing_from 0 slots)) = ap length (there_without find_old slots count found key p h s at) in
              let one_less : length (without_key value_eq key (standing_from 0 slots)) + 1 ≡ length (standing_from 0 slots) = length-without_key value_eq key (standing_from 0 slots) (ap is_some (there find_old slots count found key p h s at)) in
              omega (arith, gone, one_less, found.counted, one)
