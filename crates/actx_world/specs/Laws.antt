-- The laws of these definitions: statements that the contracts of the functions in `laws` prove.
use Rattle.std.specs.Prelude.{◌≡◌, ℕ, ◌+◌, ◌≤◌, ◌<◌, Bool, true, false, List, [], ◌∷◌, ◌++◌, reverse, Option, Some, None, is_some}
use Rattle.actx_event.specs.declared.event.Event.{Event}
use Rattle.actx_event.specs.declared.bracket.Bracket.{Bracket}
use Rattle.actx_event.specs.declared.bracket.Open.{Open}
use Rattle.actx_event.specs.Brackets.{opened, nests}
use Rattle.actx_event.specs.Mappings.{carried}
use Rattle.actx_event.specs.Valid.{first_broken, IsValid}
use Rattle.actx_value.specs.declared.end.End.TheVariants.{Finished}
use Rattle.actx_request.specs.Outcomes.{Stores}
use Rattle.actx_world.specs.declared.handed.Handed.{Handed}
use Rattle.actx_world.specs.Setup.{Bodies, Setup}
use Rattle.actx_world.specs.State.{Due, Main, Call, Construct, Item, Body, Do, Reply, Hooks, Close}
use Rattle.actx_request.specs.Limits.{first_above as above_by_request}
use Rattle.actx_world.specs.Moves.{TurnDue}
use Rattle.actx_world.specs.Ends.{Most, first_above, above_in_stores, Ended, Ends}
use Rattle.actx_world.specs.Worlds.{world, carried_world, next_of, end_of, carried_end, Last, EndedBy, Budget, TapeEnded, last_of}

-- ---- both worlds

-- the world with mappings carried has the events, the state and the end of the world with reads by the walk, and carries
-- what its events say
pub record SameAfter {B : Type 0} (bodies : Bodies B) (setup : Setup) (most : Most) (stores : Stores) (k : ℕ) : Type 0 where
  pub events : (carried_world bodies setup most stores k).events ≡ (world bodies setup most stores k).events
  pub state : (carried_world bodies setup most stores k).state ≡ (world bodies setup most stores k).state
  pub carried : (carried_world bodies setup most stores k).carried ≡ carried (world bodies setup most stores k).events
  pub ended : carried_end bodies setup most (carried_world bodies setup most stores k) ≡ end_of bodies setup most (world bodies setup most stores k)

abbrev pub BothWorldsAreSame : Type 0 → Type 0
BothWorldsAreSame B = (bodies : Bodies B) (setup : Setup) (most : Most) (stores : Stores) (k : ℕ) → SameAfter bodies setup most stores k

-- ---- brackets

-- the brackets of open events
abbrev pub brackets : {P : Type 0} → List (Open P) → List Bracket
brackets [] = []
brackets (o ∷ os) = o.bracket ∷ brackets os

-- the brackets of the closing items
abbrev pub closings : {B : Type 0} → List (Item B) → List Bracket
closings [] = []
closings (Body a ∷ rest) = closings rest
closings (Do d ∷ rest) = closings rest
closings (Reply u ∷ rest) = closings rest
closings (Hooks calls held ∷ rest) = closings rest
closings (Close b marked ∷ rest) = b ∷ closings rest

-- the open brackets of the events are the closing items on the stack, and each closing event has an opener
pub record NestsAfter {B : Type 0} (bodies : Bodies B) (setup : Setup) (most : Most) (stores : Stores) (k : ℕ) : Type 0 where
  pub open_ones : brackets (opened (world bodies setup most stores k).events) ≡ closings (world bodies setup most stores k).state.stack
  pub nests : nests (world bodies setup most stores k).events ≡ true

abbrev pub EventsNest : Type 0 → Type 0
EventsNest B = (bodies : Bodies B) (setup : Setup) (most : Most) (stores : Stores) (k : ℕ) → NestsAfter bodies setup most stores k

-- ---- the stack and the hand

-- only bodies and closing items
abbrev pub AreRunning : {B : Type 0} → List (Item B) → Type 0
AreRunning [] = Unit {0}
AreRunning (Body a ∷ rest) = AreRunning rest
AreRunning (Close b marked ∷ rest) = AreRunning rest
AreRunning (Do d ∷ rest) = ⊥
AreRunning (Reply u ∷ rest) = ⊥
AreRunning (Hooks calls held ∷ rest) = ⊥

-- the lowest item is a closing item
abbrev pub ends_closed : {B : Type 0} → List (Item B) → Bool
ends_closed [] = false
ends_closed (Close b marked ∷ []) = true
ends_closed (i ∷ rest) = ends_closed rest

-- what may stand below a body or a call
abbrev pub IsGround : {B : Type 0} → List (Item B) → Type 0
IsGround stack = AreRunning stack × (ends_closed stack ≡ true)

abbrev pub IsBelow : {B : Type 0} → Due → List (Item B) → Type 0
IsBelow Main rest = rest ≡ []
IsBelow (Call callee this arguments) rest = IsGround rest
IsBelow (Construct callee target arguments) rest = IsGround rest

-- A Do stands on top alone, with an empty hand; a closing item on top meets a completion; where nothing stands, the hand is
-- empty. No Reply and no Hooks stand yet.
abbrev pub StandsWell : {B : Type 0} → List (Item B) → Option Handed → Type 0
StandsWell [] h = h ≡ None
StandsWell (Body a ∷ rest) h = IsGround rest
StandsWell (Do d ∷ rest) h = (h ≡ None) × IsBelow d rest
StandsWell (Close b marked ∷ rest) h = (is_some h ≡ true) × IsGround (Close b marked ∷ rest)
StandsWell (Reply u ∷ rest) h = ⊥
StandsWell (Hooks calls held ∷ rest) h = ⊥

abbrev pub StacksStandWell : Type 0 → Type 0
StacksStandWell B =
    (bodies : Bodies B) (setup : Setup) (most : Most) (stores : Stores) (k : ℕ) →
    StandsWell (world bodies setup most stores k).state.stack (world bodies setup most stores k).state.hand

-- ---- logs

-- no event of a world breaks a rule of valid logs, and the log of a finished run is valid
pub record IsValidAfter {B : Type 0} (bodies : Bodies B) (setup : Setup) (most : Most) (stores : Stores) (k : ℕ) : Type 0 where
  pub unbroken : first_broken (world bodies setup most stores k).events ≡ None
  pub valid : end_of bodies setup most (world bodies setup most stores k) ≡ Some (Ends Finished) → IsValid (reverse (world bodies setup most stores k).events)

abbrev pub LogsAreValid : Type 0 → Type 0
LogsAreValid B = (bodies : Bodies B) (setup : Setup) (most : Most) (stores : Stores) (k : ℕ) → IsValidAfter bodies setup most stores k

-- ---- ends

-- no count is ever above its limit
abbrev pub LimitsHold : Type 0 → Type 0
LimitsHold B =
    (bodies : Bodies B) (setup : Setup) (most : Most) (stores : Stores) (k : ℕ) →
    first_above most (world bodies setup most stores k).state (world bodies setup most stores k).events ≡ None

-- the counts of a request that are greater after it and above their limits are those above their limits after it, where
-- the limits stay and no count was above its own before
pub record SameLimits (before after : Stores) : Type 0 where
  pub objects : before.objects.most_objects ≡ after.objects.most_objects
  pub properties : before.objects.most_properties ≡ after.objects.most_properties
  pub cells : before.cells.limit ≡ after.cells.limit
  pub text : before.texts.limit ≡ after.texts.limit

abbrev pub RequestsMeetLimits : Type 0
RequestsMeetLimits =
    (before after : Stores) → SameLimits before after → above_in_stores before None ≡ None →
    above_by_request before after ≡ above_in_stores after None

-- what the last step of a run is: the first world at which an end holds, and else where the budget or the tape ends
pub record IsLast {B : Type 0} (bodies : Bodies B) (setup : Setup) (most : Most) (stores : Stores) (budget : ℕ) (l : Last) : Type 0 where
  pub within : l.moves ≤ budget
  pub earlier : (k : ℕ) → k < l.moves → end_of bodies setup most (world bodies setup most stores k) ≡ None
  pub ended : (e : Ended) → l.ending ≡ EndedBy e → end_of bodies setup most (world bodies setup most stores l.moves) ≡ Some e
  pub used_up : l.ending ≡ Budget → (l.moves ≡ budget) × (end_of bodies setup most (world bodies setup most stores l.moves) ≡ None)
  pub due : l.ending ≡ TapeEnded → (next_of bodies setup most (world bodies setup most stores l.moves) ≡ TurnDue) × (end_of bodies setup most (world bodies setup most stores l.moves) ≡ None)

abbrev pub LastIsFirst : Type 0 → Type 0
LastIsFirst B =
    (bodies : Bodies B) (setup : Setup) (most : Most) (stores : Stores) (budget : ℕ) →
    IsLast bodies setup most stores budget (last_of bodies setup most stores budget)

-- where an end holds, the world stays as it is
abbrev pub EndedWorldsStay : Type 0 → Type 0
EndedWorldsStay B =
    (bodies : Bodies B) (setup : Setup) (most : Most) (stores : Stores) (k n : ℕ) (e : Ended) →
    end_of bodies setup most (world bodies setup most stores k) ≡ Some e →
    world bodies setup most stores (n + k) ≡ world bodies setup most stores k

-- ---- events

-- what was added stays: later events stand before those of an earlier world, which are listed newest first
abbrev pub EventsGrow : Type 0 → Type 0
EventsGrow B =
    (bodies : Bodies B) (setup : Setup) (most : Most) (stores : Stores) (k n : ℕ) →
    (later : List Event) × ((world bodies setup most stores (n + k)).events ≡ later ++ (world bodies setup most stores k).events)
