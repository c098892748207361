-- The entries of slots stand in the order of their places.
use Rattle.std.proofs.Common.{ℕ, suc, ◌+◌, ◌<◌, ◌≤◌, List, [], ◌∷◌, length, All, Option, Some, None, arith}
use Rattle.std.proofs.lemmas.List.Elements.{All-nil, All-cons}
use Rattle.actx_value.specs.declared.value.Value.{Value}
use Rattle.actx_objects.specs.declared.slot.Slot.{Slot}
use Rattle.actx_objects.specs.declared.entries.Placed.{Placed}
use Rattle.actx_objects.specs.Entries.{AscendFrom}
use Rattle.actx_objects.specs.Slots.{entry_at, standing_from}

ascend_earlier : (p q : ℕ) (es : List (Value × Placed)) → p ≤ q → AscendFrom q es → AscendFrom p es
ascend_earlier p q [] h a = tt
ascend_earlier p q (e ∷ es) h a = let k : q ≤ e.1.place = a.0 in (omega arith, a.1)

pub slots_ascend : (q : ℕ) (slots : List (Option Slot)) → AscendFrom q (standing_from q slots)
slots_ascend q [] = tt
slots_ascend q (None ∷ slots) = ascend_earlier q (suc q) (standing_from (suc q) slots) (omega arith) (slots_ascend (suc q) slots)
slots_ascend q (Some s ∷ slots) = (omega arith, slots_ascend (suc q) slots)

pub slots_below : (q n : ℕ) (slots : List (Option Slot)) → q + length slots ≤ n → All (λ e. e.1.place < n) (standing_from q slots)
slots_below q n [] h = All-nil (λ (e : Value × Placed). e.1.place < n)
slots_below q n (None ∷ slots) h = slots_below (suc q) n slots (omega arith)
slots_below q n (Some s ∷ slots) h = All-cons (λ (e : Value × Placed). e.1.place < n) (entry_at q s) (standing_from (suc q) slots) (let k : q < n = omega arith in k) (slots_below (suc q) n slots (omega arith))
