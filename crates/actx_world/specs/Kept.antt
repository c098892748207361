-- What promises, coroutines, variables, resources, hooks, queues and the loop keep. No row touches these yet.
use Rattle.std.specs.Prelude.{ℕ, Bool, List, Option}
use Rattle.actx_event.specs.declared.event.VarKind.{VarKind}
use Rattle.actx_value.specs.declared.ids.ObjId.{ObjId}
use Rattle.actx_value.specs.declared.ids.TextId.{TextId}
use Rattle.actx_value.specs.declared.value.Value.{Value}

-- ---- promises (ECMA-262 §27.2)

pub data PromiseState : Type 0 where
  Pending : PromiseState
  Fulfilled : (v : Value) → PromiseState
  Rejected : (v : Value) → PromiseState

-- what a reaction goes on with: two handlers and a derived promise (§27.2.1.2), or a coroutine that waits (§27.7.5.3)
pub data Reacts : Type 0 where
  Handlers : (on_fulfilled on_rejected : Value) → (derived : ℕ) → Reacts
  Waits : (coroutine : ℕ) → Reacts

pub record Reaction : Type 0 where
  pub resource : ℕ
  pub reacts : Reacts

pub record Promise : Type 0 where
  pub resource : ℕ
  pub object : ObjId
  pub state : PromiseState
  pub reactions : List Reaction
  pub handled : Bool

-- the two resolving functions of a promise share a mark (§27.2.1.3)
pub record Pair : Type 0 where
  pub promise : ℕ
  pub used : Bool

-- ---- coroutines (§27.5.3, §27.7.5)

pub data CoroutineState : Type 0 where
  Start : CoroutineState
  Yielded : CoroutineState
  Executing : CoroutineState
  Completed : CoroutineState

-- ---- contexts, resources and hooks

pub record Variable : Type 0 where
  pub kind : VarKind
  pub name : TextId
  pub default : Value

-- the object that stands for a resource, where there is one, and whether it was destroyed
pub record Resource : Type 0 where
  pub trigger : ℕ
  pub object : Option ObjId
  pub destroyed : Bool

pub record Hook : Type 0 where
  pub init : Value
  pub before : Value
  pub after : Value
  pub destroy : Value

-- ---- jobs, timers and host operations

pub data Work : Type 0 where
  -- a call without `this` (§9.5)
  Calls : (callee : Value) → (arguments : List Value) → Work
  -- a reaction with the value or the reason of its promise (§27.2.2.1)
  Runs : (reaction : Reaction) → (state : PromiseState) → Work
  -- a call of the `then` of an object that a promise is resolved with (§27.2.2.2)
  Adopts : (promise : ℕ) → (object : Value) → (then : Value) → Work

pub record Job : Type 0 where
  pub resource : ℕ
  pub work : Work

-- `due` and `delay` in milliseconds; `repeats` of an interval
pub record Timer : Type 0 where
  pub due : ℕ
  pub number : ℕ
  pub delay : ℕ
  pub repeats : Bool
  pub resource : ℕ
  pub callee : Value
  pub arguments : List Value

pub record Operation : Type 0 where
  pub number : ℕ
  pub resource : ℕ
  pub callee : Value

-- ---- what a completion is used for, and calls of hooks

pub data Use : Type 0 where
  -- `new Promise`: a throw of the executor rejects by the pair, and the promise is given (§27.2.3.1)
  Executes : (promise pair : ℕ) → Use
  -- a handler: its completion settles the derived promise (§27.2.2.1)
  Derives : (promise : ℕ) → Use
  -- a thenable job: a throw rejects by the pair (§27.2.2.2)
  Rejects : (pair : ℕ) → Use

pub record HookCall : Type 0 where
  pub callee : Value
  pub arguments : List Value
