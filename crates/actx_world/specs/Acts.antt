-- What the built-in functions that the machine answers do, as far as they have rows: `call`, `apply` and `bind` of
-- functions, and the identifiers of `async_hooks`.
use Rattle.std.specs.Prelude.{ℕ, zero, suc, ℤ, pos, negsuc, List, [], ◌∷◌, drop, slice_get, unwrap_or, if◌then◌else◌}
use Rattle.std.specs.declared.result.Result.{Result}
use Rattle.std.specs.declared.result.Result.TheVariants.{Ok, Err}
use Rattle.actx_value.specs.declared.ids.ObjId.{ObjId}
use Rattle.actx_value.specs.declared.value.Key.TheVariants.{Name}
use Rattle.actx_value.specs.declared.value.Value.{Value}
use Rattle.actx_value.specs.declared.value.Value.TheVariants.{Undefined, Null, Num, Object}
use Rattle.actx_value.specs.declared.operator.Op.TheVariants.{ToNumber}
use Rattle.actx_value.specs.declared.caller_id.CallerId.{CallerId}
use Rattle.actx_value.specs.declared.caller_id.CallerId.TheVariants as callers
use Rattle.actx_value.specs.declared.error_kind.ErrorKind.{ErrorKind}
use Rattle.actx_value.specs.declared.error_kind.ErrorKind.TheVariants.{TypeError}
use Rattle.actx_value.specs.declared.end.Reason.{Reason}
use Rattle.actx_ops.specs.Operators.{applied}
use Rattle.actx_ops.specs.Conversions.{key_of_value}
use Rattle.actx_request.specs.Outcomes.{Stores}
use Rattle.actx_request.specs.Members.{inherited}
use Rattle.actx_request.specs.Writes.{as_number}
use Rattle.actx_world.specs.Setup.{Builtins, Setup}
use Rattle.actx_world.specs.Parts.{Part}
use Rattle.actx_world.specs.Functions.{is_callable}

pub data Act : Type 0 where
  Give : (v : Value) → Act
  Refuse : (e : ErrorKind) → Act
  Leave : (r : Reason) → Act
  Invoke : (callee this : Value) → (arguments : List Value) → Act
  MakeBound : (callee : ObjId) → (this : Value) → (arguments : List Value) → Act
  -- the execution identifier, and the trigger of the resource that executes
  Execution : Act
  Trigger : Act
  -- its row comes later
  Later : Act

-- an argument, by its place from 0
abbrev pub argument_at : List Value → ℕ → Value
argument_at arguments i = unwrap_or (slice_get arguments i) Undefined

-- ---- the list of `apply` (CreateListFromArrayLike, ECMA-262 §7.3.19)

-- the values at so many indices from this one on
abbrev pub indexed : List (List ℕ) → Stores → ObjId → ℕ → ℕ → List Value
indexed texts s o i zero = []
indexed texts s o i (suc n) = inherited texts s.objects o (key_of_value texts (Num (pos i))) ∷ indexed texts s o (suc i) n

-- the list that an object has as array-like, by what its length is as a number (LengthOfArrayLike, §7.3.18): below 0 it is
-- empty
abbrev pub array_like : Stores → ObjId → Result ℤ Reason → Result (List Value) Reason
array_like s o (Ok (pos n)) = Ok (indexed s.texts.texts s o 0 n)
array_like s o (Ok (negsuc n)) = Ok []
array_like s o (Err r) = Err r

-- a length as a number: `undefined` is 0
abbrev pub length_number : List (List ℕ) → Value → Result ℤ Reason
length_number texts Undefined = Ok (pos 0)
length_number texts v = as_number (applied texts ToNumber v v)

abbrev pub length_value : Builtins → Stores → ObjId → Value
length_value builtins s o = inherited s.texts.texts s.objects o (Name builtins.home.length)

abbrev pub apply_with : Value → Value → Result (List Value) Reason → Act
apply_with callee this (Ok arguments) = Invoke callee this arguments
apply_with callee this (Err r) = Leave r

-- Function.prototype.apply (§20.2.3.1) by its second argument
abbrev pub apply_by : Builtins → Stores → Value → Value → Value → Act
apply_by builtins s callee this Undefined = Invoke callee this []
apply_by builtins s callee this Null = Invoke callee this []
apply_by builtins s callee this (Object o) = apply_with callee this (array_like s o (length_number s.texts.texts (length_value builtins s o)))
apply_by builtins s callee this v = Refuse (TypeError 10)

-- Function.prototype.bind (§20.2.3.2)
abbrev pub bind_of : Value → List Value → Act
bind_of (Object o) arguments = MakeBound o (argument_at arguments 0) (drop 1 arguments)
bind_of v arguments = Refuse (TypeError 8)

-- ---- by the receiver and the arguments

-- a receiver that can't be called is TypeError 8
abbrev pub where_callable : Setup → List Part → Value → Act → Act
where_callable setup parts callee act = if is_callable setup parts callee then act else Refuse (TypeError 8)

abbrev pub decide : Setup → List Part → Stores → CallerId → Value → List Value → Act
decide setup parts s callers.FunctionCall callee arguments =
    where_callable setup parts callee (Invoke callee (argument_at arguments 0) (drop 1 arguments))
decide setup parts s callers.FunctionApply callee arguments =
    where_callable setup parts callee (apply_by setup.builtins s callee (argument_at arguments 0) (argument_at arguments 1))
decide setup parts s callers.FunctionBind callee arguments =
    where_callable setup parts callee (bind_of callee arguments)
decide setup parts s callers.ExecutionAsyncId callee arguments = Execution
decide setup parts s callers.TriggerAsyncId callee arguments = Trigger
decide setup parts s c callee arguments = Later
