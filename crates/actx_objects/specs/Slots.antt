-- The entries of a Map or a Set as slots, one for each place: an entry that was dropped leaves its slot empty.
use Rattle.std.specs.Prelude.{◌≡◌, ℕ, zero, suc, List, [], ◌∷◌, Option, Some, None, length, slice_get}
use Rattle.actx_value.specs.declared.value.Value.{Value}
use Rattle.actx_objects.specs.declared.slot.Slot.{Slot}
use Rattle.actx_objects.specs.declared.entries.Placed.{Placed}

-- the entry of a slot at a place
abbrev pub entry_at : ℕ → Slot → Value × Placed
entry_at p s = (s.key, record { place = p; value = s.value })

-- the entries of these slots, of which the first has place p
abbrev pub standing_from : ℕ → List (Option Slot) → List (Value × Placed)
standing_from p [] = []
standing_from p (None ∷ slots) = standing_from (suc p) slots
standing_from p (Some s ∷ slots) = entry_at p s ∷ standing_from (suc p) slots

-- so many empty slots
abbrev pub blanks : ℕ → List (Option Slot)
blanks zero = []
blanks (suc n) = None ∷ blanks n

-- the slots' entries are found by their keys, and nothing else is; `count` of them stand
pub record IsFound (find : Value → Option ℕ) (slots : List (Option Slot)) (count : ℕ) : Type 0 where
  pub held : (key : Value) (p : ℕ) → find key ≡ Some p → (s : Slot) × (slice_get slots p ≡ Some (Some s)) × (s.key ≡ key)
  pub covered : (p : ℕ) (s : Slot) → slice_get slots p ≡ Some (Some s) → find s.key ≡ Some p
  pub counted : count ≡ length (standing_from 0 slots)
