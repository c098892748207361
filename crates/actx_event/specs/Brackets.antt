-- Brackets. `before`, `enter` and `bind` open one; `after`, `leave` and `unbind` close it (the
-- before and after hooks of Node's async_hooks; AsyncContextSwap and its undoing in the AsyncContext
-- proposal). A job runs when no execution context is left (ECMA-262 §9.5), so brackets nest.
use Rattle.std.specs.Prelude.{◌≡◌, ◌==◌, Bool, true, false, ◌&&◌, List, [], ◌∷◌, ◌++◌, Option, Some, None, is_some, if◌then◌else◌}
use Rattle.actx_event.specs.declared.event.Event.{Event}
use Rattle.actx_event.specs.declared.bracket.Bracket.{Bracket}
use Rattle.actx_event.specs.declared.bracket.Bracket.TheVariants.{Running, Entered, Bound}
use Rattle.actx_event.specs.declared.bracket.Open.{Open}
use Rattle.actx_event.specs.Event.{opened_bracket, closed_bracket}
use Rattle.actx_event.specs.Front.{Front}

abbrev pub same_bracket : Bracket → Bracket → Bool
same_bracket (Running i) (Running j) = i.0 == j.0
same_bracket (Entered s) (Entered t) = s.0 == t.0
same_bracket (Bound v) (Bound w) = v.0 == w.0
same_bracket _ _ = false

-- what was there before the opener of a closing event: the newest open bracket is its opener where
-- it is the bracket that the event closes
abbrev pub before_opener : {P : Type 0} → Option Bracket → List (Open P) → Option P
before_opener None os = None
before_opener (Some b) [] = None
before_opener (Some b) (o ∷ os) = if same_bracket b o.bracket then Some o.before else None

-- a closing event closes its opener; one that has none closes nothing
abbrev pub with_closed : {P : Type 0} → Option Bracket → List (Open P) → List (Open P)
with_closed None os = os
with_closed (Some b) [] = []
with_closed (Some b) (o ∷ os) = if same_bracket b o.bracket then os else (o ∷ os)

-- an opening event opens its bracket, with what was there before
abbrev pub with_opened : {P : Type 0} → Option Bracket → P → List (Open P) → List (Open P)
with_opened None p os = os
with_opened (Some b) p os = record { bracket = b; before = p } ∷ os

-- the open brackets after an event
abbrev pub brackets_after : {P : Type 0} → Event → P → List (Open P) → List (Open P)
brackets_after e p os = with_opened (opened_bracket e) p (with_closed (closed_bracket e) os)

-- the open brackets at a place, the newest first, each with the place before its opener
abbrev pub opened : Front → List (Open Front)
opened [] = []
opened (e ∷ es) = brackets_after e es (opened es)

-- whether a closing event has an opener; the other events need none
abbrev pub has_opener : {P : Type 0} → Option Bracket → List (Open P) → Bool
has_opener None os = true
has_opener (Some b) os = is_some (before_opener (Some b) os)

-- whether each closing event has an opener
abbrev pub nests : Front → Bool
nests [] = true
nests (e ∷ es) = has_opener (closed_bracket e) (opened es) && nests es

-- it nests, and nothing is open at its end
pub record IsClosed (es : Front) : Type 0 where
  pub nesting : nests es ≡ true
  pub none_open : opened es ≡ []

-- further events close it
abbrev pub IsPrefixOfClosed : Front → Type 0
IsPrefixOfClosed es = (later : Front) × IsClosed (later ++ es)
