-- Runs: the opening state, and the worlds after each number of moves, with reads by the causal walk and with mappings
-- carried.
use Rattle.std.specs.Prelude.{ℕ, zero, suc, List, [], ◌∷◌, ◌++◌, length, Option, Some, None}
use Rattle.actx_text.specs.Texts.{utf8_text}
use Rattle.actx_event.specs.declared.event.Event.{Event}
use Rattle.actx_event.specs.declared.event.Event.TheVariants.{Print}
use Rattle.actx_event.specs.Event.{resource_made, capture_made, declaration_said}
use Rattle.actx_event.specs.Execution.{exec, trigger}
use Rattle.actx_event.specs.Walk.{nearest_binding}
use Rattle.actx_event.specs.Mappings.{Carried, none_carried, carried_after, carried_value, carried_exec, carried_trigger}
use Rattle.actx_request.specs.Outcomes.{Stores}
use Rattle.actx_world.specs.declared.phase.LoopPhase.TheVariants as phases
use Rattle.actx_world.specs.declared.phase.LastJob.TheVariants as jobs
use Rattle.actx_world.specs.Setup.{Bodies, Setup}
use Rattle.actx_world.specs.State.{Main, Do, State}
use Rattle.actx_world.specs.Moves.{Oracle, Move, Next, On, TurnDue, Over, Unbuilt}
use Rattle.actx_world.specs.Rows.{next}
use Rattle.actx_world.specs.Ends.{Most, limited, times_said, Ended, ended_by}

-- ---- the opening state: these stores, with the limits raised by what they hold, and a Do for the main script

abbrev pub opening : {B : Type 0} → Most → Stores → State B
opening most stores = record {
  stores = limited most stores;
  parts = [];
  targets = [];
  promises = [];
  pairs = [];
  coroutines = [];
  variables = [];
  resources = [];
  hooks = [];
  active_hooks = [];
  destroys = [];
  ticks = [];
  microtasks = [];
  immediates = [];
  timers = [];
  operations = [];
  started = 0;
  phase = phases.Between;
  arrivals = [];
  newest = 0;
  last_job = jobs.Other;
  time = 0;
  turns = 0;
  stack = Do Main ∷ [];
  hand = None;
}

-- ---- what the events so far answer: by the causal walk, and by what is carried

abbrev pub walked : List Event → Oracle
walked es = record {
  read = nearest_binding es;
  execution = exec es;
  trigger = trigger es;
  resources = times_said resource_made es;
  captures = times_said capture_made es;
  variables = times_said declaration_said es;
}

abbrev pub carrying : Carried → Oracle
carrying c = record {
  read = carried_value c;
  execution = carried_exec c;
  trigger = carried_trigger c;
  resources = length c.resources;
  captures = length c.captures;
  variables = length c.declarations;
}

-- ---- worlds

pub record World (B : Type 0) : Type 0 where
  pub state : State B
  pub events : List Event  -- the newest first

pub record CarriedWorld (B : Type 0) : Type 0 where
  pub state : State B
  pub events : List Event  -- the newest first
  pub carried : Carried

-- what is carried after these events, the newest first
abbrev pub carried_past : List Event → Carried → Carried
carried_past [] c = c
carried_past (e ∷ es) c = carried_after e (carried_past es c)

module _ {B : Type 0} where
  abbrev pub made_by : Move B → World B → World B
  made_by m w = record { state = m.state; events = m.adds ++ w.events }

  -- where an end holds or a turn is due, there is no further move
  abbrev pub moved_by : Option Ended → Next B → World B → World B
  moved_by None (On m) w = made_by m w
  moved_by None n w = w
  moved_by (Some e) n w = w

  abbrev pub carried_made_by : Move B → CarriedWorld B → CarriedWorld B
  carried_made_by m w = record { state = m.state; events = m.adds ++ w.events; carried = carried_past m.adds w.carried }

  abbrev pub carried_moved_by : Option Ended → Next B → CarriedWorld B → CarriedWorld B
  carried_moved_by None (On m) w = carried_made_by m w
  carried_moved_by None n w = w
  carried_moved_by (Some e) n w = w

module _ {B : Type 0} (bodies : Bodies B) (setup : Setup) (most : Most) where
  -- what comes next, reads by the walk
  abbrev pub next_of : World B → Next B
  next_of w = next bodies setup (walked w.events) w.state

  abbrev pub end_of : World B → Option Ended
  end_of w = ended_by most w.state w.events (next_of w)

  abbrev pub step : World B → World B
  step w = moved_by (end_of w) (next_of w) w

  -- the world after so many moves
  abbrev pub world : Stores → ℕ → World B
  world stores zero = record { state = opening most stores; events = [] }
  world stores (suc k) = step (world stores k)

  -- the same with mappings carried
  abbrev pub carried_next : CarriedWorld B → Next B
  carried_next w = next bodies setup (carrying w.carried) w.state

  abbrev pub carried_end : CarriedWorld B → Option Ended
  carried_end w = ended_by most w.state w.events (carried_next w)

  abbrev pub carried_step : CarriedWorld B → CarriedWorld B
  carried_step w = carried_moved_by (carried_end w) (carried_next w) w

  abbrev pub carried_world : Stores → ℕ → CarriedWorld B
  carried_world stores zero = record { state = opening most stores; events = []; carried = none_carried }
  carried_world stores (suc k) = carried_step (carried_world stores k)

-- ---- the last step of a run

-- an end; or the budget is used up, or a turn is due and the tape gives none. No tape is asked yet.
pub data Ending : Type 0 where
  EndedBy : (e : Ended) → Ending
  Budget : Ending
  TapeEnded : Ending

pub record Last : Type 0 where
  pub moves : ℕ
  pub ending : Ending

-- an end that holds comes before everything else
abbrev pub last_unless : Option Ended → ℕ → Last → Last
last_unless (Some e) k later = record { moves = k; ending = EndedBy e }
last_unless None k later = later

-- a turn that is due
abbrev pub last_past : {B : Type 0} → Next B → ℕ → Last → Last
last_past TurnDue k later = record { moves = k; ending = TapeEnded }
last_past (On m) k later = later
last_past (Over e) k later = later
last_past Unbuilt k later = later

module _ {B : Type 0} (bodies : Bodies B) (setup : Setup) (most : Most) where
  -- from a world after k moves, with so many moves of the budget left
  abbrev pub last_from : ℕ → ℕ → World B → Last
  last_from zero k w = last_unless (end_of bodies setup most w) k (record { moves = k; ending = Budget })
  last_from (suc n) k w =
      last_unless (end_of bodies setup most w) k (last_past (next_of bodies setup most w) k (last_from n (suc k) (step bodies setup most w)))

  -- how many moves a run makes with this budget, and why it makes no more
  abbrev pub last_of : Stores → ℕ → Last
  last_of stores budget = last_from budget 0 (world bodies setup most stores 0)

-- ---- what is printed

-- a printed line with its line feed, in UTF-8
abbrev pub line_of : Event → List ℕ
line_of (Print text) = utf8_text text ++ 10 ∷ []
line_of e = []

abbrev pub printed : List Event → List ℕ
printed [] = []
printed (e ∷ es) = printed es ++ line_of e
