-- Empty slots.
use Rattle.std.proofs.Common.{◌≡◌, ℕ, zero, suc, ◌<◌, ◌≤◌, List, [], ◌∷◌, ◌++◌, drop, length, slice_get, slice_set, Option, Some, None, refl, sym, ap, ◌∙◌, arith}
use Rattle.std.proofs.lemmas.Option.{none-some}
use Rattle.actx_value.specs.declared.value.Value.{Value}
use Rattle.actx_objects.specs.declared.slot.Slot.{Slot}
use Rattle.actx_objects.specs.Slots.{standing_from, blanks, IsFound}
use Rattle.actx_objects.proofs.SlotLemmas.{some_same}

pub blanks_start : (slots : List (Option Slot)) → slots ≡ blanks 0 ++ drop 0 slots
blanks_start slots = refl

-- one more empty slot
pub blanks_more : (p : ℕ) (slots : List (Option Slot)) → p < length slots → slice_set (blanks p ++ drop p slots) p None ≡ blanks (suc p) ++ drop (suc p) slots
blanks_more zero [] less = absurd (omega (arith, less))
blanks_more zero (s ∷ slots) less = refl
blanks_more (suc p) [] less = absurd (omega (arith, less))
blanks_more (suc p) (s ∷ slots) less = ap (λ l. None ∷ l) (blanks_more p slots (omega arith))

pub blanks_whole : (p : ℕ) (slots : List (Option Slot)) → length slots ≤ p → p ≤ length slots → blanks p ++ drop p slots ≡ blanks (length slots)
blanks_whole zero [] over within = refl
blanks_whole zero (s ∷ slots) over within = absurd (omega arith)
blanks_whole (suc p) [] over within = absurd (omega arith)
blanks_whole (suc p) (s ∷ slots) over within = ap (λ l. None ∷ l) (blanks_whole p slots (omega arith) (omega arith))

pub none_in_blanks : (q n : ℕ) → standing_from q (blanks n) ≡ []
none_in_blanks q zero = refl
none_in_blanks q (suc n) = none_in_blanks (suc q) n

pub length-blanks : (n : ℕ) → length (blanks n) ≡ n
length-blanks zero = refl
length-blanks (suc n) = ap suc (length-blanks n)

blank_at : (n p : ℕ) (s : Slot) → slice_get (blanks n) p ≡ Some (Some s) → ⊥
blank_at zero p s h = none-some (Some s) h
blank_at (suc n) zero s h = none-some s (some_same None (Some s) h)
blank_at (suc n) (suc p) s h = blank_at n p s h

-- where no key is found, empty slots are as they should be
pub blanks_found : (n : ℕ) (find : Value → Option ℕ) → ((key : Value) → find key ≡ None) → IsFound find (blanks n) 0
blanks_found n find none = record {
  held = λ key p h. absurd (none-some p (sym (none key) ∙ h));
  covered = λ p s h. absurd (blank_at n p s h);
  counted = sym (ap length (none_in_blanks 0 n));
}
