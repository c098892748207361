-- The state of a run but for its events, over any way to keep a running body.
use Rattle.std.specs.Prelude.{ℕ, Bool, List, ◌∷◌, Option, Some}
use Rattle.actx_event.specs.declared.bracket.Bracket.{Bracket}
use Rattle.actx_event.specs.Noted.{Noted}
use Rattle.actx_value.specs.declared.ids.ObjId.{ObjId}
use Rattle.actx_value.specs.declared.ids.ScopeId.{ScopeId}
use Rattle.actx_value.specs.declared.value.Value.{Value}
use Rattle.actx_request.specs.Outcomes.{Stores}
use Rattle.actx_world.specs.declared.handed.Handed.{Handed}
use Rattle.actx_world.specs.declared.handed.BodyEnd.{BodyEnd}
use Rattle.actx_world.specs.declared.phase.LoopPhase.{LoopPhase}
use Rattle.actx_world.specs.declared.phase.LastJob.{LastJob}
use Rattle.actx_world.specs.Parts.{Part}
use Rattle.actx_world.specs.Kept.{Promise, Pair, CoroutineState, Variable, Resource, Hook, Job, Timer, Operation, Use, HookCall}

-- a body that runs (an execution context, ECMA-262 §9.4): the body as it is kept, the arguments of its call, its parameter
-- scope (of the file the scope of the global names), and what its end does
pub record Activation (B : Type 0) : Type 0 where
  pub frame : B
  pub arguments : List Value
  pub scope : ScopeId
  pub end : BodyEnd

-- a call that is still to be made
pub data Due : Type 0 where
  -- the main script (ScriptEvaluation, §16.1.6)
  Main : Due
  -- Call (§7.3.14)
  Call : (callee this : Value) → (arguments : List Value) → Due
  -- Construct (§7.3.15); `target` is what `new` was used on, or a class that extends the callee
  Construct : (callee target : ObjId) → (arguments : List Value) → Due

-- what stands on the stack
pub data Item (B : Type 0) : Type 0 where
  Body : (a : Activation B) → Item B
  Do : (d : Due) → Item B
  -- what a completion from above is used for
  Reply : (u : Use) → Item B
  -- calls of hooks, and a completion that is held back meanwhile
  Hooks : (calls : List HookCall) → (held : Option Handed) → Item B
  -- a closing item: the end of a bracket, and whether the `after` hooks of its resource were called
  Close : (bracket : Bracket) → (marked : Bool) → Item B

pub record Coroutine (B : Type 0) : Type 0 where
  pub activation : Activation B
  pub capture : ℕ
  pub state : CoroutineState

pub record State (B : Type 0) : Type 0 where
  -- objects, texts and scopes, with their limits
  pub stores : Stores
  -- the inner parts of objects, by object number
  pub parts : List Part
  -- of each parameter scope of a derived constructor its new target (§9.1.1.3)
  pub targets : List (Noted ObjId)
  pub promises : List Promise
  pub pairs : List Pair
  pub coroutines : List (Coroutine B)
  pub variables : List Variable
  -- the resources, from number 1 on
  pub resources : List Resource
  pub hooks : List Hook
  pub active_hooks : List ℕ
  pub destroys : List ℕ
  pub ticks : List Job
  pub microtasks : List Job
  pub immediates : List Job
  pub timers : List Timer
  pub operations : List Operation
  -- how many host operations were started
  pub started : ℕ
  pub phase : LoopPhase
  -- the arrivals of the turn that are left
  pub arrivals : List ℕ
  -- the number of the newest resource when the phase of the immediates began
  pub newest : ℕ
  pub last_job : LastJob
  -- loop time in milliseconds, and the turns taken
  pub time : ℕ
  pub turns : ℕ
  -- the items, the top one first
  pub stack : List (Item B)
  -- a completion on its way to the top item
  pub hand : Option Handed

-- ---- changes that many rows make

module _ {B : Type 0} where
  abbrev pub pushed : Item B → State B → State B
  pushed i s = record s { stack = i ∷ s.stack }

  abbrev pub with_stores : Stores → State B → State B
  with_stores stores s = record s { stores = stores }

  abbrev pub with_parts : List Part → State B → State B
  with_parts parts s = record s { parts = parts }

  abbrev pub with_hand : Handed → State B → State B
  with_hand h s = record s { hand = Some h }
