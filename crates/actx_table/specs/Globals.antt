-- The values of the global names, and the built-in prototypes.
use Rattle.std.specs.Prelude.{ℕ, List, [], ◌∷◌, map, Option, Some, None, slice_get, codes}
use Rattle.std.specs.Option.{option_map, option_and_then}
use Rattle.actx_value.specs.declared.ids.ObjId.{ObjId}
use Rattle.actx_value.specs.declared.error_kind.ErrorKind.TheVariants.{TypeError, RangeError, ReferenceError, Error as AnyError}
use Rattle.actx_value.specs.declared.value.Value.{Value}
use Rattle.actx_value.specs.declared.value.Value.TheVariants.{Undefined, Object}
use Rattle.actx_objects.specs.declared.kind.Kind.{Kind}
use Rattle.actx_objects.specs.declared.kind.Kind.TheVariants as kinds
use Rattle.actx_table.specs.declared.built.Proto.{Proto}
use Rattle.actx_table.specs.declared.built.Proto.TheVariants.{Of, Error, Text, Number, Truth}
use Rattle.actx_table.specs.Table.{number_at}

-- the built-in object with this path
abbrev pub object_at : List ℕ → Option ObjId
object_at path = option_map (λ n. record { 0 = n }) (number_at path)

abbrev object_or_undefined : Option ObjId → Value
object_or_undefined (Some o) = Object o
object_or_undefined None = Undefined

-- the global names behind `undefined`, in the order of their slots (ECMA-262 §19, and the hosts' own)
abbrev pub global_paths : List (List ℕ)
global_paths =
    codes "console" ∷ codes "host" ∷ codes "process" ∷ codes "require" ∷ codes "setTimeout" ∷ codes "setInterval"
    ∷ codes "setImmediate" ∷ codes "clearTimeout" ∷ codes "clearInterval" ∷ codes "clearImmediate" ∷ codes "queueMicrotask" ∷ codes "Object"
    ∷ codes "Array" ∷ codes "String" ∷ codes "Number" ∷ codes "Boolean" ∷ codes "Math" ∷ codes "Error"
    ∷ codes "TypeError" ∷ codes "RangeError" ∷ codes "ReferenceError" ∷ codes "AggregateError" ∷ codes "Map" ∷ codes "Set"
    ∷ codes "Promise" ∷ codes "AsyncContext" ∷ codes "AsyncLocalStorage" ∷ codes "AsyncResource" ∷ []

-- the values of the slots of the global names: `undefined` has the first one
abbrev pub globals : List Value
globals = Undefined ∷ map (λ path. object_or_undefined (object_at path)) global_paths

abbrev pub global_of : ℕ → Option Value
global_of slot = slice_get globals slot

-- the path of the prototype of the objects of a kind, where it is built in
abbrev pub kind_path : Kind → Option (List ℕ)
kind_path kinds.Plain = Some (codes "Object.prototype")
kind_path kinds.Array = Some (codes "Array.prototype")
kind_path kinds.Function = Some (codes "Function.prototype")
kind_path kinds.Class = Some (codes "Function.prototype")
kind_path kinds.Native = Some (codes "Function.prototype")
kind_path kinds.Error = Some (codes "Error.prototype")
kind_path kinds.Map = Some (codes "Map.prototype")
kind_path kinds.Set = Some (codes "Set.prototype")
kind_path kinds.Promise = Some (codes "Promise.prototype")
kind_path kinds.Generator = Some (codes "Generator.prototype")
kind_path kinds.Variable = Some (codes "AsyncContext.Variable.prototype")
kind_path kinds.Snapshot = Some (codes "AsyncContext.Snapshot.prototype")
kind_path kinds.Storage = Some (codes "AsyncLocalStorage.prototype")
kind_path kinds.Resource = Some (codes "AsyncResource.prototype")
kind_path kinds.Hook = Some (codes "Hook.prototype")
kind_path kind = None

abbrev pub prototype_path : Proto → Option (List ℕ)
prototype_path (Of kind) = kind_path kind
prototype_path (Error (TypeError n)) = Some (codes "TypeError.prototype")
prototype_path (Error (RangeError n)) = Some (codes "RangeError.prototype")
prototype_path (Error (ReferenceError n)) = Some (codes "ReferenceError.prototype")
prototype_path (Error (AnyError n)) = Some (codes "Error.prototype")
prototype_path Text = Some (codes "String.prototype")
prototype_path Number = Some (codes "Number.prototype")
prototype_path Truth = Some (codes "Boolean.prototype")

abbrev pub prototype_of : Proto → Option ObjId
prototype_of p = option_and_then object_at (prototype_path p)
