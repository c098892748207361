-- Requests that make an object or an array.
use Rattle.std.specs.Prelude.{ℕ, suc, false, List, [], ◌∷◌, length, Some}
use Rattle.actx_value.specs.declared.ids.ObjId.{ObjId}
use Rattle.actx_value.specs.declared.value.Key.{Key}
use Rattle.actx_value.specs.declared.value.Key.TheVariants.{Index}
use Rattle.actx_value.specs.declared.value.Value.{Value}
use Rattle.actx_value.specs.declared.value.Value.TheVariants as values
use Rattle.actx_objects.specs.declared.props.Prop.{Prop}
use Rattle.actx_objects.specs.declared.kind.Kind.TheVariants.{Plain, Array}
use Rattle.actx_objects.specs.Objects.{ObjectStore, made, changed}
use Rattle.actx_request.specs.declared.home.Home.{Home}
use Rattle.actx_request.specs.Outcomes.{Stores, Outcome, gives, with_objects}

-- the number of the next object
abbrev pub next_object : ObjectStore → ObjId
next_object objects = record { 0 = length objects.objects }

-- Object (ECMA-262 §13.2.5.4)
abbrev pub object_new : Home → Stores → Outcome
object_new home s = gives (values.Object (next_object s.objects)) (with_objects (made s.objects Plain (Some home.object)) s)

-- values as elements, from an index on
abbrev pub elements : ℕ → List Value → List (Key × Prop)
elements i [] = []
elements i (v ∷ vs) = (Index i, record { value = v; hidden = false }) ∷ elements (suc i) vs

-- the objects where one has these elements and no other property
abbrev pub filled : List Value → ObjId → ObjectStore → ObjectStore
filled vs o objects = changed objects o (λ x. record x { props = elements 0 vs })

-- Array (CreateArrayFromList, §7.3.18)
abbrev pub array_of : Home → List Value → Stores → Outcome
array_of home vs s = gives (values.Object (next_object s.objects)) (with_objects (filled vs (next_object s.objects) (made s.objects Array (Some home.array))) s)
