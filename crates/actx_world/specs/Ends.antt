-- The counts of a run and their limits, and how a run ends.
use Rattle.std.specs.Prelude.{ℕ, suc, ◌+◌, nat_lt, List, [], ◌∷◌, ◌++◌, length, Option, Some, None, if◌then◌else◌}
use Rattle.std.specs.Option.{option_map}
use Rattle.actx_event.specs.declared.event.Event.{Event}
use Rattle.actx_event.specs.Event.{binding_made}
use Rattle.actx_value.specs.Texts.{units_of}
use Rattle.actx_value.specs.declared.limits.Limits.{Limits}
use Rattle.actx_value.specs.declared.end.End.{End}
use Rattle.actx_value.specs.declared.end.End.TheVariants as ends
use Rattle.actx_value.specs.declared.end.Which.{Which}
use Rattle.actx_value.specs.declared.end.Which.TheVariants.{Calls, Objects, Properties, Cells, Text, Bindings, Variables, Resources, Turns}
use Rattle.actx_cells.specs.Scopes.{count_of}
use Rattle.actx_objects.specs.Objects.{property_count}
use Rattle.actx_request.specs.Outcomes.{Stores}
use Rattle.actx_world.specs.State.{Item, Body, Do, Reply, Hooks, Close, State}
use Rattle.actx_world.specs.Moves.{Next, On, TurnDue, Over, Unbuilt}

-- ---- limits

-- the most of each count
pub record Most : Type 0 where
  pub calls : ℕ
  pub objects : ℕ
  pub properties : ℕ
  pub cells : ℕ
  pub text : ℕ
  pub bindings : ℕ
  pub variables : ℕ
  pub resources : ℕ
  pub turns : ℕ

abbrev pub most_of : Limits → Most
most_of l = record {
  calls = l.calls;
  objects = l.objects;
  properties = l.properties;
  cells = l.cells;
  text = l.text;
  bindings = l.bindings;
  variables = l.variables;
  resources = l.resources;
  turns = l.turns;
}

-- The stores with these limits: what stands in them before the run isn't counted, so each limit is raised by it.
abbrev pub limited : Most → Stores → Stores
limited most s = record {
  objects = record s.objects { most_objects = most.objects + length s.objects.objects; most_properties = most.properties + property_count s.objects.objects };
  texts = record s.texts { limit = most.text + units_of s.texts.texts };
  cells = record s.cells { limit = most.cells + count_of s.cells.scopes };
}

-- ---- counts

-- the depth of calls and open brackets: bodies and closing items
abbrev pub depth_of : {B : Type 0} → List (Item B) → ℕ
depth_of [] = 0
depth_of (Body a ∷ rest) = suc (depth_of rest)
depth_of (Do d ∷ rest) = depth_of rest
depth_of (Reply u ∷ rest) = depth_of rest
depth_of (Hooks calls held ∷ rest) = depth_of rest
depth_of (Close b marked ∷ rest) = suc (depth_of rest)

-- how many events say something
abbrev pub counted : {A : Type 0} → Option A → ℕ → ℕ
counted None n = n
counted (Some a) n = suc n

abbrev pub times_said : {A : Type 0} → (Event → Option A) → List Event → ℕ
times_said says [] = 0
times_said says (e ∷ es) = counted (says e) (times_said says es)

-- the first count of the stores above its limit there, and else what comes after them
abbrev pub above_in_stores : Stores → Option Which → Option Which
above_in_stores s later =
    if nat_lt s.objects.most_objects (length s.objects.objects) then Some Objects
    else if nat_lt s.objects.most_properties (property_count s.objects.objects) then Some Properties
    else if nat_lt s.cells.limit (count_of s.cells.scopes) then Some Cells
    else if nat_lt s.texts.limit (units_of s.texts.texts) then Some Text
    else later

-- of the counts after those of the stores
abbrev pub above_past_stores : {B : Type 0} → Most → State B → List Event → Option Which
above_past_stores most s es =
    if nat_lt most.bindings (times_said binding_made es) then Some Bindings
    else if nat_lt most.variables (length s.variables) then Some Variables
    else if nat_lt most.resources (length s.resources) then Some Resources
    else if nat_lt most.turns s.turns then Some Turns
    else None

-- the first count above its limit, in the order in which the limits are looked at
abbrev pub first_above : {B : Type 0} → Most → State B → List Event → Option Which
first_above most s es =
    if nat_lt most.calls (depth_of s.stack) then Some Calls else above_in_stores s.stores (above_past_stores most s es)

-- ---- ends

-- how a run ends, or that what comes next has no row yet, which the top call rules out
pub data Ended : Type 0 where
  Ends : (e : End) → Ended
  NotBuilt : Ended

-- The end that holds before what comes next: Exited, Uncaught, Finished and OutOfProfile come with it; else a limit, where
-- the next move, made without limits, brings a count above its number. A turn that is due counts as one more.
abbrev pub ended_by : {B : Type 0} → Most → State B → List Event → Next B → Option Ended
ended_by most s es (On m) = option_map (λ w. Ends (ends.Limit w)) (first_above most m.state (m.adds ++ es))
ended_by most s es TurnDue = if nat_lt most.turns (suc s.turns) then Some (Ends (ends.Limit Turns)) else None
ended_by most s es (Over e) = Some (Ends e)
ended_by most s es Unbuilt = Some NotBuilt
