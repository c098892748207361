-- When the mappings that are carried agree with the causal walk.
use Rattle.std.specs.Prelude.{◌≡◌, ℕ, List, [], ◌∷◌, Option, Some, None}
use Rattle.actx_event.specs.declared.bracket.Open.{Open}
use Rattle.actx_event.specs.Event.{resource_made, capture_made, trigger_said}
use Rattle.actx_event.specs.Noted.{first_noted}
use Rattle.actx_event.specs.Front.{Front, place_before, first_said}
use Rattle.actx_event.specs.Brackets.{opened}
use Rattle.actx_event.specs.Walk.{Met, met_binding, epoch, declaration}
use Rattle.actx_event.specs.Mappings.{Entry, Mapping, first_entry, times, Carried}

-- the entry that a met binding is
abbrev pub entry_met : ℕ → Option Met → Option Entry
entry_met v None = None
entry_met v (Some m) = Some (record { variable = v; value = m.value; epoch = epoch v m.place })

-- for every variable the first entry is the binding that the walk meets, with as many offs before it
-- as its epoch says; and neither exists where the other doesn't
abbrev pub AgreesAt : Mapping → Front → Type 0
AgreesAt m es = (v : ℕ) → first_entry v m ≡ entry_met v (met_binding es v)

-- both are there and in this relation, or neither is there
abbrev pub BothOrNeither : {P Q : Type 0} → (P → Q → Type 0) → Option P → Option Q → Type 0
BothOrNeither R None None = Unit {0}
BothOrNeither R (Some p) (Some q) = R p q
BothOrNeither R None (Some q) = ⊥
BothOrNeither R (Some p) None = ⊥

-- the same brackets stand open, and what was there before each opener is in this relation
abbrev pub SameBrackets : {P Q : Type 0} → (P → Q → Type 0) → List (Open P) → List (Open Q) → Type 0
SameBrackets R [] [] = Unit {0}
SameBrackets R (o ∷ os) (q ∷ qs) = (o.bracket ≡ q.bracket) × R o.before q.before × SameBrackets R os qs
SameBrackets R [] (q ∷ qs) = ⊥
SameBrackets R (o ∷ os) [] = ⊥

-- what is carried agrees with the events before a place
pub record Agreement (es : Front) (c : Carried) : Type 0 where
  pub current : AgreesAt c.current es
  pub saved : SameBrackets AgreesAt c.saved (opened es)
  pub resources : (i : ℕ) → BothOrNeither AgreesAt (first_noted i c.resources) (place_before resource_made i es)
  pub captures : (s : ℕ) → BothOrNeither AgreesAt (first_noted s c.captures) (place_before capture_made s es)
  pub triggers : (i : ℕ) → first_noted i c.triggers ≡ first_said trigger_said i es
  pub declarations : (v : ℕ) → first_noted v c.declarations ≡ declaration v es
  pub epochs : (v : ℕ) → times v c.offs ≡ epoch v es
