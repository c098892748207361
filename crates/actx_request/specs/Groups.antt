-- Plain requests by what they touch.
use Rattle.std.specs.Prelude.{Bool, true, false}
use Rattle.actx_value.specs.declared.request.Request.{Request}
use Rattle.actx_value.specs.declared.request.Request.TheVariants.{Scope, Fork, Init, Load, Store, Unary, Binary, ToText, ToKey, Object, Array, Get, Set, Delete, Define, DefineMethod, Copy, Rest, SuperGet, Arg, ArgsFrom}

-- scopes and cells alone
abbrev pub asks_scopes : Request → Bool
asks_scopes (Scope parent n) = true
asks_scopes (Fork scope) = true
asks_scopes (Init scope hops slot v) = true
asks_scopes (Load scope hops slot) = true
asks_scopes (Store scope hops slot v) = true
asks_scopes r = false

-- texts alone
abbrev pub asks_operators : Request → Bool
asks_operators (Unary op v) = true
asks_operators (Binary op a b) = true
asks_operators (ToText v) = true
asks_operators (ToKey v) = true
asks_operators r = false

-- one property
abbrev pub asks_members : Request → Bool
asks_members (Get o k) = true
asks_members (Set o k v) = true
asks_members (Delete o k) = true
asks_members (Define o k v) = true
asks_members (DefineMethod o k v) = true
asks_members (SuperGet home k this) = true
asks_members r = false

-- new objects, copies and arguments
abbrev pub asks_objects : Request → Bool
asks_objects Object = true
asks_objects Array = true
asks_objects (Copy o from) = true
asks_objects (Rest from) = true
asks_objects (Arg i) = true
asks_objects (ArgsFrom i) = true
asks_objects r = false
