-- The slots of words that are given as bytes.
use Rattle.std.specs.Prelude.{ℕ, List, map}
use denote.Ref.{Bor}
use Rattle.actx_scope_rules.specs.Scopes.{Scope, fixed_slot}
use Rattle.actx_scope_rules.specs.declared.slot.Slot.{Slot}

abbrev pub word_slot : Bor (List ℕ) → Slot
word_slot w = fixed_slot w.now

abbrev pub word_slots : List (Bor (List ℕ)) → Scope
word_slots ws = map word_slot ws
