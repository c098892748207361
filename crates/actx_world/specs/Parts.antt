-- The inner parts of objects: what an object holds beside its properties (internal slots, ECMA-262 §6.1.7.2).
use Rattle.std.specs.Prelude.{ℕ, suc, ◌-◌, Bool, List, ◌++◌, length, replicate, slice_get, slice_set, unwrap_or}
use Rattle.actx_text.specs.declared.body_id.BodyId.{BodyId}
use Rattle.actx_value.specs.declared.ids.ObjId.{ObjId}
use Rattle.actx_value.specs.declared.ids.ScopeId.{ScopeId}
use Rattle.actx_value.specs.declared.value.Value.{Value}

pub data Part : Type 0 where
  Nothing : Part
  -- a function of the program: its body, the scope that it was made in, and its home object or `undefined` (§10.2)
  Closure : (body : BodyId) → (scope : ScopeId) → (home : Value) → Part
  -- a bound function (§10.4.1)
  Bound : (callee this : Value) → (arguments : List Value) → Part
  -- a function that settles a promise by the pair of this number (§27.2.1.3)
  Resolver : (pair : ℕ) → (fulfils : Bool) → Part
  -- a function that calls another one under a capture (`wrap` of AsyncContext.Snapshot)
  Under : (capture : ℕ) → (callee : Value) → Part
  -- a function that calls another one in a resource (`bind` of AsyncResource)
  Scoped : (resource : ℕ) → (callee this : Value) → Part
  -- the promise of this number (§27.2.6)
  Promise : (promise : ℕ) → Part
  -- the generator of this coroutine (§27.5.2)
  Coroutine : (coroutine : ℕ) → Part
  -- a timer, or an immediate
  Timer : (resource : ℕ) → (immediate : Bool) → Part
  Variable : (variable : ℕ) → Part
  Snapshot : (capture : ℕ) → Part
  Resource : (resource : ℕ) → Part
  Hook : (hook : ℕ) → Part
  -- a walk: what it goes over, and its next place there (§23.1.5.2, §22.1.5, §24.1.5.2, §24.2.6.2)
  Walk : (of : Value) → (place : ℕ) → Part

-- the part of an object, by its number
abbrev pub part_at : List Part → ObjId → Part
part_at parts o = unwrap_or (slice_get parts o.0) Nothing

-- parts for so many objects at least
abbrev pub parts_for : ℕ → List Part → List Part
parts_for n parts = parts ++ replicate (n - length parts) Nothing

-- the parts where an object has this one
abbrev pub with_part : ObjId → Part → List Part → List Part
with_part o part parts = slice_set (parts_for (suc o.0) parts) o.0 part
