-- The built-in objects before they have properties. A function is of kind Native, whoever answers it, and any other object is
-- Plain.
use Rattle.std.specs.Prelude.{ℕ, suc, List, [], ◌∷◌, map, Option, Some, None, is_some, codes, if◌then◌else◌}
use Rattle.std.specs.List.{find}
use Rattle.std.specs.Option.{option_map_or, option_and_then}
use Rattle.actx_value.specs.Texts.{texts_eq}
use Rattle.actx_value.specs.declared.ids.ObjId.{ObjId}
use Rattle.actx_objects.specs.declared.kind.Kind.{Kind}
use Rattle.actx_objects.specs.declared.kind.Kind.TheVariants.{Plain, Native}
use Rattle.actx_objects.specs.Objects.{ObjectStore, made, with_proto}
use Rattle.actx_table.specs.Table.{Row, rows}
use Rattle.actx_table.specs.Globals.{object_at}
use Rattle.actx_opening.specs.declared.start.Start.{Start}

abbrev pub kind_in : Row → Kind
kind_in r = if is_some r.built then Native else Plain

-- a prototype other than those of most functions and of most other objects
abbrev pub from : List ℕ → List ℕ → List ℕ × Option (List ℕ)
from path proto = (path, Some proto)

-- `Object.prototype` has none (ECMA-262 §20.1.3), and each other error comes from `Error` (§20.5.6.2, §20.5.6.3, §20.5.7.2,
-- §20.5.7.3)
abbrev pub exceptions : List (List ℕ × Option (List ℕ))
exceptions =
    (codes "Object.prototype", None)
    ∷ from (codes "TypeError") (codes "Error") ∷ from (codes "TypeError.prototype") (codes "Error.prototype")
    ∷ from (codes "RangeError") (codes "Error") ∷ from (codes "RangeError.prototype") (codes "Error.prototype")
    ∷ from (codes "ReferenceError") (codes "Error") ∷ from (codes "ReferenceError.prototype") (codes "Error.prototype")
    ∷ from (codes "AggregateError") (codes "Error") ∷ from (codes "AggregateError.prototype") (codes "Error.prototype")
    ∷ []

-- the path of the prototype of an object (§20.2.3, §20.1.3)
abbrev pub usual : Row → List ℕ
usual r = if is_some r.built then codes "Function.prototype" else codes "Object.prototype"

abbrev pub proto_path : Row → Option (List ℕ)
proto_path r = option_map_or (λ e. e.1) (find (λ e. texts_eq e.0 r.path) exceptions) (Some (usual r))

abbrev pub start_of : Row → Start
start_of r = record { 0 = kind_in r; 1 = option_and_then object_at (proto_path r) }

unfoldable pub starts : List Start
starts = map start_of rows

-- one more object, without a prototype: that of the first ones is made later
unfoldable pub started : ObjectStore → Start → ObjectStore
started s x = made s x.0 None

-- an object with its prototype
unfoldable pub with_its_proto : ObjectStore → ObjId → Start → ObjectStore
with_its_proto s o x = option_map_or (λ p. with_proto s o p) x.1 s

-- the objects from this number on with their prototypes
unfoldable pub with_protos : ℕ → List Start → ObjectStore → ObjectStore
with_protos o [] s = s
with_protos o (x ∷ xs) s = with_protos (suc o) xs (with_its_proto s (record { 0 = o }) x)
