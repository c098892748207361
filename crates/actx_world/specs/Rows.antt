-- What comes next in a state: the first row that fits. A row sees the state without the top item and with an empty hand.
use Rattle.std.specs.Prelude.{◌&&◌, Bool, true, false, List, [], ◌∷◌, codes, Option, Some, None, if◌then◌else◌}
use Rattle.actx_event.specs.declared.event.Event.{Event}
use Rattle.actx_event.specs.declared.event.Event.TheVariants.{Init, Before, After, Leave, Unbind}
use Rattle.actx_event.specs.declared.bracket.Bracket.{Bracket}
use Rattle.actx_event.specs.declared.bracket.Bracket.TheVariants.{Running, Entered, Bound}
use Rattle.actx_value.specs.declared.end.End.TheVariants as ends
use Rattle.actx_world.specs.declared.handed.Handed.{Handed}
use Rattle.actx_world.specs.declared.handed.Handed.TheVariants.{Throws}
use Rattle.actx_world.specs.declared.handed.BodyEnd.TheVariants as after
use Rattle.actx_world.specs.Setup.{Bodies, Setup}
use Rattle.actx_world.specs.Kept.{Resource}
use Rattle.actx_world.specs.State.{Activation, Due, Main, Call, Construct, Item, Body, Do, Reply, Hooks, Close, State, pushed}
use Rattle.actx_world.specs.Moves.{Oracle, Next, On, Over, Unbuilt, Asked, Handing, quiet, adding, handed_to}
use Rattle.actx_world.specs.Calls.{row_call, row_construct}
use Rattle.actx_world.specs.Wishes.{row_wants}

-- the event that closes a bracket
abbrev pub closer : Bracket → Event
closer (Running i) = After i
closer (Entered s) = Leave s
closer (Bound v) = Unbind v

abbrev pub is_empty : {A : Type 0} → List A → Bool
is_empty [] = true
is_empty (x ∷ xs) = false

-- the resource of the main script: it has no object
abbrev pub root : Resource
root = record { trigger = 0; object = None; destroyed = false }

-- the events of the beginning of the main script, the newest first
abbrev pub main_events : List Event
main_events = Before (record { 0 = 1 }) ∷ Init (record { 0 = 1 }) (codes "ROOT") 0 0 ∷ []

module _ {B : Type 0} where
  -- ---- a closing item

  -- a completion goes on; where no item is left, a value is dropped
  abbrev pub passed_on : List (Item B) → Option Handed → Option Handed
  passed_on [] h = None
  passed_on (i ∷ rest) h = h

  abbrev pub row_closing : Bracket → Option Handed → State B → Next B
  row_closing b h s = adding (closer b) (record s { hand = passed_on s.stack h })

  -- a throw that meets the end of a job, where nothing stands below, ends the run
  abbrev pub closing_by : Bracket → Option Handed → List (Item B) → State B → Next B
  closing_by (Running i) (Some (Throws v)) [] s = Over (ends.Uncaught v)
  closing_by b h below s = row_closing b h s

  abbrev pub row_close : Bracket → Option Handed → State B → Next B
  row_close b h s = closing_by b h s.stack s

  -- ---- nothing on the stack

  -- whether something is pending that has rows later: jobs, timers, operations, destroy hooks
  abbrev pub is_quiet : State B → Bool
  is_quiet s =
      is_empty s.ticks && is_empty s.microtasks && is_empty s.immediates && is_empty s.timers && is_empty s.operations && is_empty s.destroys

  abbrev pub row_idle : State B → Next B
  row_idle s = if is_quiet s then Over ends.Finished else Unbuilt

  -- the state without its top item and with an empty hand
  abbrev pub popped : List (Item B) → State B → State B
  popped rest s = record s { stack = rest; hand = None }

module _ {B : Type 0} (bodies : Bodies B) (setup : Setup) where
  -- ---- a Do

  -- the main script (ScriptEvaluation, ECMA-262 §16.1.6): its resource, and body 0 in the scope of the global names
  abbrev pub main_activation : Activation B
  main_activation = record {
    frame = bodies.begin (record { 0 = 0 }) setup.builtins.global;
    arguments = [];
    scope = setup.builtins.global;
    end = after.Plain;
  }

  abbrev pub main_begun : Activation B → State B → State B
  main_begun a s = pushed (Body a) (pushed (Close (Running (record { 0 = 1 })) false) (record s { resources = root ∷ [] }))

  abbrev pub row_main : State B → Next B
  row_main s = On (record { adds = main_events; state = main_begun main_activation s })

  abbrev pub row_do : Oracle → Due → State B → Next B
  row_do oracle Main s = row_main s
  row_do oracle (Call callee this arguments) s = row_call bodies setup oracle Handing callee this arguments s
  row_do oracle (Construct callee target arguments) s = row_construct bodies setup Handing callee target arguments s

  -- ---- by the top item and the hand

  abbrev pub row_body : Oracle → Activation B → Option Handed → State B → Next B
  row_body oracle a (Some h) s = quiet (handed_to bodies (Asked a) h s)
  row_body oracle a None s = row_wants bodies setup oracle a (bodies.wants a.frame) s

  abbrev pub row_item : Oracle → Item B → Option Handed → State B → Next B
  row_item oracle (Body a) h s = row_body oracle a h s
  row_item oracle (Do d) h s = row_do oracle d s
  row_item oracle (Reply u) h s = Unbuilt
  row_item oracle (Hooks calls held) h s = Unbuilt
  row_item oracle (Close b marked) h s = row_close b h s

  abbrev pub next_by : Oracle → List (Item B) → Option Handed → State B → Next B
  next_by oracle [] h s = row_idle s
  next_by oracle (i ∷ rest) h s = row_item oracle i h (popped rest s)

  abbrev pub next : Oracle → State B → Next B
  next oracle s = next_by oracle s.stack s.hand s
