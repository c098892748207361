-- Which requests need neither a call nor the inner part of an object.
use Rattle.std.specs.Prelude.{Bool, true, false, is_some}
use Rattle.actx_value.specs.Operators.{op_of_unary, op_of_binary}
use Rattle.actx_value.specs.declared.request.Request.{Request}
use Rattle.actx_value.specs.declared.request.Request.TheVariants.{Tick, Scope, Fork, Init, Load, Store, Unary, Binary, ToText, ToKey, Object, Array, Get, Set, Delete, Define, DefineMethod, Copy, Rest, SuperGet, Function, Method, Class, Arg, ArgsFrom, Call, New, SuperCall, Open, Next, Close, Begin, Yield, Await}

abbrev pub is_plain : Request → Bool
is_plain Tick = true
is_plain (Scope parent n) = true
is_plain (Fork scope) = true
is_plain (Init scope hops slot v) = true
is_plain (Load scope hops slot) = true
is_plain (Store scope hops slot v) = true
is_plain (Unary op v) = is_some (op_of_unary op)
is_plain (Binary op a b) = is_some (op_of_binary op)
is_plain (ToText v) = true
is_plain (ToKey v) = true
is_plain Object = true
is_plain Array = true
is_plain (Get o k) = true
is_plain (Set o k v) = true
is_plain (Delete o k) = true
is_plain (Define o k v) = true
is_plain (DefineMethod o k v) = true
is_plain (Copy o from) = true
is_plain (Rest from) = true
is_plain (SuperGet home k this) = true
is_plain (Function body scope) = false
is_plain (Method body scope home) = false
is_plain (Class body scope parent) = false
is_plain (Arg i) = true
is_plain (ArgsFrom i) = true
is_plain (Call f this) = false
is_plain (New f) = false
is_plain (SuperCall f) = false
is_plain (Open v) = false
is_plain (Next walk) = false
is_plain (Close walk) = false
is_plain Begin = false
is_plain (Yield v) = false
is_plain (Await v) = false
