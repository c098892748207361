-- The laws of these definitions: statements that the contracts of the functions in `laws` prove.
use Rattle.std.specs.Prelude.{◌≡◌, ℕ, suc, ◌<◌, ◌≤◌, ◌↔◌, true, List, [], ◌∷◌, length, map, reverse, Option, Some, None, option_map, slice_get, if◌then◌else◌}
use Rattle.actx_event.specs.declared.value.Shown.{Shown}
use Rattle.actx_event.specs.declared.event.VarId.{VarId}
use Rattle.actx_event.specs.declared.event.Event.{Event}
use Rattle.actx_event.specs.declared.event.Event.TheVariants.{Get}
use Rattle.actx_event.specs.declared.bracket.Open.{Open}
use Rattle.actx_event.specs.declared.valid.Rule.{Rule}
use Rattle.actx_event.specs.declared.valid.Rule.TheVariants.{Closing}
use Rattle.actx_event.specs.Front.{Front, front}
use Rattle.actx_event.specs.Brackets.{opened, nests, IsClosed, IsPrefixOfClosed}
use Rattle.actx_event.specs.Execution.{exec, trigger}
use Rattle.actx_event.specs.Walk.{causal_step, Met, met_binding, declaration, nearest_binding, chain}
use Rattle.actx_event.specs.Mappings.{Mapping, Carried, carried_after, carried, carried_value, carried_exec, carried_trigger, carried_declaration}
use Rattle.actx_event.specs.Agreement.{Agreement}
use Rattle.actx_event.specs.Standing.{SameEntries, newest_only, StandsFor}
use Rattle.actx_event.specs.Numbers.{opened_at, step_number, binds_at, met_number, nearest_at, chain_at}
use Rattle.actx_event.specs.Valid.{is_numbered, is_introduced, is_nested, is_executed, is_read, broken_rule, first_failure, IsValid}

-- a list of events nests exactly where further events close it
abbrev pub NestsWherePrefixOfClosed : Type 0
NestsWherePrefixOfClosed = (es : Front) → (nests es ≡ true) ↔ IsPrefixOfClosed es

-- what is carried agrees with the walk after every list of events, whatever made it
abbrev pub CarriedAgrees : Type 0
CarriedAgrees = (es : Front) → Agreement es (carried es)

-- every event keeps the agreement
abbrev pub EachEventKeepsAgreement : Type 0
EachEventKeepsAgreement =
    (e : Event) (es : Front) (c : Carried) → Agreement es c → Agreement (e ∷ es) (carried_after e c)

-- the value that is carried for a read is the nearest binding's
abbrev pub ReadsAreNearest : Type 0
ReadsAreNearest = (es : Front) (v : ℕ) → carried_value (carried es) v ≡ nearest_binding es v

-- the execution identifier and the trigger that are carried are those of the open brackets
abbrev pub ExecutionIsInnermost : Type 0
ExecutionIsInnermost = (es : Front) → carried_exec (carried es) ≡ exec es

abbrev pub TriggerIsInnermost : Type 0
TriggerIsInnermost = (es : Front) → carried_trigger (carried es) ≡ trigger es

-- what is carried of a variable is what its first `var` says
abbrev pub DeclarationIsFirst : Type 0
DeclarationIsFirst = (es : Front) (v : ℕ) → carried_declaration (carried es) v ≡ declaration v es

-- a state that stands for another still does so after the same event
abbrev pub EachEventKeepsStanding : Type 0
EachEventKeepsStanding =
    (e : Event) (d c : Carried) → StandsFor d c → StandsFor (carried_after e d) (carried_after e c)

-- and it gives each read the same value, and the same execution identifier and trigger
abbrev pub StandingGivesSame : Type 0
StandingGivesSame =
    (d c : Carried) → StandsFor d c →
    ((v : ℕ) → carried_value d v ≡ carried_value c v) × (carried_exec d ≡ carried_exec c) × (carried_trigger d ≡ carried_trigger c)

-- the newest entries of a mapping are enough
abbrev pub NewestEntriesSuffice : Type 0
NewestEntriesSuffice = (m : Mapping) → SameEntries (newest_only m) m

-- each step of the walk goes to a smaller place
abbrev pub StepsGoDown : Type 0
StepsGoDown = (e : Event) (es : Front) → length (causal_step (e ∷ es)) ≤ length es

-- a step by number is below its place, and leads to the place that the step on fronts leads to
abbrev pub StepsAgree : Type 0
StepsAgree =
    (log : List Event) (n : ℕ) → n < length log →
    (step_number log (suc n) ≤ n) × (front log (step_number log (suc n)) ≡ causal_step (front log (suc n)))

-- an open bracket, with the number of the place before its opener
abbrev pub numbered : Open Front → Open ℕ
numbered o = record { bracket = o.bracket; before = length o.before }

-- the open brackets by number are those on fronts
abbrev pub OpenedAgree : Type 0
OpenedAgree =
    (log : List Event) (p : ℕ) → p ≤ length log → map numbered (opened (front log p)) ≡ opened_at log p

-- the number of the event that was met
abbrev pub number_of : Option Met → Option ℕ
number_of m = option_map (λ x. length x.place) m

-- the binding that is met by number is the one that is met on fronts
abbrev pub MetAgree : Type 0
MetAgree =
    (log : List Event) (p v : ℕ) → p ≤ length log →
    number_of (met_binding (front log p) v) ≡ met_number log p v

-- the walk by numbers: it ends at the start, it looks at event n from place n + 1, and it goes on from
-- where the step leads
abbrev pub WalkEnds : Type 0
WalkEnds = (log : List Event) (v : ℕ) → met_number log 0 v ≡ None

abbrev pub WalkGoesOn : Type 0
WalkGoesOn =
    (log : List Event) (n v : ℕ) → n < length log →
    met_number log (suc n) v ≡
    (if binds_at v (slice_get log n) then Some n else met_number log (step_number log (suc n)) v)

-- the nearest binding by numbers is the one on fronts
abbrev pub NearestAgree : Type 0
NearestAgree =
    (log : List Event) (p v : ℕ) → p ≤ length log → nearest_binding (front log p) v ≡ nearest_at log p v

-- and so is the chain
abbrev pub ChainsAgree : Type 0
ChainsAgree =
    (log : List Event) (p v : ℕ) → p ≤ length log → map length (chain (front log p) v) ≡ chain_at log p v

-- an event meets each rule at its place
pub record MeetsRules (e : Event) (es : Front) : Type 0 where
  pub numbered : is_numbered e es ≡ true
  pub introduced : is_introduced e es ≡ true
  pub nested : is_nested e es ≡ true
  pub executed : is_executed e es ≡ true
  pub read : is_read e es ≡ true

-- each event meets the rules, and nothing is open at the end
pub record MeetsAll (log : List Event) : Type 0 where
  pub each : (n : ℕ) (e : Event) → slice_get log n ≡ Some e → MeetsRules e (front log n)
  pub closed : opened (reverse log) ≡ []

-- a log is valid exactly where it meets all rules
abbrev pub ValidWhereRulesMet : Type 0
ValidWhereRulesMet = (log : List Event) → IsValid log ↔ MeetsAll log

-- in a valid log each `get` says the nearest binding's value
abbrev pub ValidReadsAreNearest : Type 0
ValidReadsAreNearest =
    (log : List Event) (n : ℕ) (id : VarId) (value : Shown) → IsValid log →
    slice_get log n ≡ Some (Get id value) → value ≡ nearest_binding (front log n) id.0

-- in a valid log each closing event has an opener, and nothing is open at the end
abbrev pub ValidLogsAreClosed : Type 0
ValidLogsAreClosed = (log : List Event) → IsValid log → IsClosed (reverse log)

-- no event below n breaks a rule
abbrev pub UnbrokenBelow : List Event → ℕ → Type 0
UnbrokenBelow log n =
    (m : ℕ) (e : Event) → m < n → slice_get log m ≡ Some e → broken_rule e (front log m) ≡ None

-- the first failure is that of the first event that breaks a rule, and its first rule
abbrev pub FailureIsFirst : Type 0
FailureIsFirst =
    (log : List Event) (n : ℕ) (e : Event) (r : Rule) →
    UnbrokenBelow log n → slice_get log n ≡ Some e → broken_rule e (front log n) ≡ Some r →
    first_failure log ≡ Some (record { place = n; rule = r })

-- where no event breaks a rule, only what is left open fails, at the number of events
abbrev pub ClosingFailsLast : Type 0
ClosingFailsLast =
    (log : List Event) (o : Open Front) (os : List (Open Front)) →
    UnbrokenBelow log (length log) → opened (reverse log) ≡ o ∷ os →
    first_failure log ≡ Some (record { place = length log; rule = Closing })
