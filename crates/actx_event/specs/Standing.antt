-- A state that keeps less than the fold over all events may stand for it: a mapping needs only the
-- newest entry of each variable, and a list of notes only the first under each number.
use Rattle.std.specs.Prelude.{◌≡◌, ℕ, ◌==◌, [], ◌∷◌, if◌then◌else◌}
use Rattle.actx_event.specs.Noted.{first_noted}
use Rattle.actx_event.specs.Agreement.{BothOrNeither, SameBrackets}
use Rattle.actx_event.specs.Mappings.{Mapping, first_entry, times, Carried}

-- two mappings give every variable the same first entry
abbrev pub SameEntries : Mapping → Mapping → Type 0
SameEntries m n = (v : ℕ) → first_entry v m ≡ first_entry v n

-- a mapping without the entries of v
abbrev pub without : ℕ → Mapping → Mapping
without v [] = []
without v (e ∷ es) = if v == e.variable then without v es else (e ∷ without v es)

-- a mapping with the newest entry of each variable alone, as the AsyncContext proposal keeps it
abbrev pub newest_only : Mapping → Mapping
newest_only [] = []
newest_only (e ∷ es) = e ∷ without e.variable (newest_only es)

-- one state stands for another: every question that an event or a read asks of them has the same answer
pub record StandsFor (d c : Carried) : Type 0 where
  pub current : SameEntries d.current c.current
  pub saved : SameBrackets SameEntries d.saved c.saved
  pub resources : (i : ℕ) → BothOrNeither SameEntries (first_noted i d.resources) (first_noted i c.resources)
  pub captures : (s : ℕ) → BothOrNeither SameEntries (first_noted s d.captures) (first_noted s c.captures)
  pub triggers : (i : ℕ) → first_noted i d.triggers ≡ first_noted i c.triggers
  pub declarations : (v : ℕ) → first_noted v d.declarations ≡ first_noted v c.declarations
  pub epochs : (v : ℕ) → times v d.offs ≡ times v c.offs
