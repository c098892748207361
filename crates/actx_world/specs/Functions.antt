-- Functions: what an object is called as, which are constructors, and the objects of new functions and classes.
use Rattle.std.specs.Prelude.{ℕ, zero, suc, ◌++◌, Bool, true, false, not, ◌&&◌, ◌||◌, List, length, codes, slice_get, Option, Some, None, if◌then◌else◌}
use Rattle.std.specs.Option.{option_map_or}
use Rattle.actx_text.specs.declared.body_id.BodyId.{BodyId}
use Rattle.actx_tree.specs.declared.function.Flow.{Flow}
use Rattle.actx_tree.specs.declared.function.Flow.TheVariants as flows
use Rattle.actx_value.specs.Texts.{text_at, with_text, added_number}
use Rattle.actx_value.specs.declared.ids.ObjId.{ObjId}
use Rattle.actx_value.specs.declared.ids.ScopeId.{ScopeId}
use Rattle.actx_value.specs.declared.ids.TextId.{TextId}
use Rattle.actx_value.specs.declared.value.Key.TheVariants.{Name}
use Rattle.actx_value.specs.declared.value.Value.{Value}
use Rattle.actx_value.specs.declared.value.Value.TheVariants.{Null, Text, Object}
use Rattle.actx_value.specs.declared.caller_id.CallerId.{CallerId}
use Rattle.actx_value.specs.declared.error_kind.ErrorKind.{ErrorKind}
use Rattle.actx_value.specs.declared.error_kind.ErrorKind.TheVariants.{TypeError}
use Rattle.actx_value.specs.declared.end.Reason.{Reason}
use Rattle.actx_value.specs.declared.end.Reason.TheVariants.{Subclass}
use Rattle.actx_code.specs.declared.body.Body.{Body}
use Rattle.actx_code.specs.declared.body.BodyKind.{BodyKind}
use Rattle.actx_code.specs.declared.body.BodyKind.TheVariants as bodies
use Rattle.actx_code.specs.Codes.{Lists}
use Rattle.actx_objects.specs.declared.kind.Kind.{Kind}
use Rattle.actx_objects.specs.declared.kind.Kind.TheVariants as kinds
use Rattle.actx_objects.specs.Objects.{ObjectStore, made, proto_of}
use Rattle.actx_objects.specs.Writes.{written}
use Rattle.actx_request.specs.Outcomes.{Stores, with_objects, with_texts}
use Rattle.actx_request.specs.Lists.{next_object}
use Rattle.actx_request.specs.Members.{inherited}
use Rattle.actx_world.specs.Setup.{Called, Native, Caller, Bundled, Builtins, Setup}
use Rattle.actx_world.specs.Parts.{Part, Closure, Bound, Resolver, Under, Scoped, part_at}

-- ---- bodies by number; one that isn't in the code is as an empty one of a function without a name

abbrev pub body_at : Lists → BodyId → Option Body
body_at code b = slice_get code.bodies b.0

abbrev pub kind_at : Lists → BodyId → BodyKind
kind_at code b = option_map_or (λ body. body.kind) (body_at code b) bodies.Function

abbrev pub flow_at : Lists → BodyId → Flow
flow_at code b = option_map_or (λ body. body.flow) (body_at code b) flows.Plain

abbrev pub name_at : Lists → BodyId → TextId
name_at code b = record { 0 = option_map_or (λ body. body.name) (body_at code b) 0 }

abbrev pub is_plain_flow : Flow → Bool
is_plain_flow flows.Plain = true
is_plain_flow f = false

abbrev pub is_class : BodyKind → Bool
is_class bodies.Class = true
is_class bodies.DerivedClass = true
is_class k = false

abbrev pub is_derived : BodyKind → Bool
is_derived bodies.DerivedClass = true
is_derived k = false

abbrev pub is_function : BodyKind → Bool
is_function bodies.Function = true
is_function k = false

-- a function that is no arrow, no method, not async and no generator: it has a `prototype` (MakeConstructor, ECMA-262 §10.2.5)
abbrev pub is_plain_function : Lists → BodyId → Bool
is_plain_function code b = is_function (kind_at code b) && is_plain_flow (flow_at code b)

-- ---- what an object is called as

pub data Callee : Type 0 where
  NotCallable : Callee
  -- a function or a class of the program (§10.2)
  OfProgram : (body : BodyId) → (scope : ScopeId) → (home : Value) → Callee
  -- a bundled function
  OfBundle : (body : BodyId) → Callee
  -- a bound function (§10.4.1)
  OfBound : (callee this : Value) → (arguments : List Value) → Callee
  -- a built-in function (§10.3): one that reads and writes the stores alone, and one that the machine answers
  OfStore : (o : ObjId) → Callee
  OfMachine : (c : CallerId) → Callee
  -- a function whose rows come later
  OfLater : Callee

abbrev pub bundled_callee : Option BodyId → Callee
bundled_callee None = NotCallable
bundled_callee (Some b) = OfBundle b

abbrev pub built_in_callee : Lists → ObjId → Called → Callee
built_in_callee code o Native = OfStore o
built_in_callee code o (Caller c) = OfMachine c
built_in_callee code o (Bundled i) = bundled_callee (slice_get code.bundled i)

abbrev pub callee_by_part : Part → Callee
callee_by_part (Closure body scope home) = OfProgram body scope home
callee_by_part (Bound callee this arguments) = OfBound callee this arguments
callee_by_part (Resolver pair fulfils) = OfLater
callee_by_part (Under capture callee) = OfLater
callee_by_part (Scoped resource callee this) = OfLater
callee_by_part part = NotCallable

abbrev pub callee_by : Lists → ObjId → Option Called → Part → Callee
callee_by code o (Some c) part = built_in_callee code o c
callee_by code o None part = callee_by_part part

abbrev pub callee_at : Setup → List Part → ObjId → Callee
callee_at setup parts o = callee_by setup.code o (setup.builtins.called_as o) (part_at parts o)

abbrev pub callee_of : Setup → List Part → Value → Callee
callee_of setup parts (Object o) = callee_at setup parts o
callee_of setup parts v = NotCallable

abbrev pub is_callee : Callee → Bool
is_callee NotCallable = false
is_callee c = true

-- IsCallable (§7.2.3)
abbrev pub is_callable : Setup → List Part → Value → Bool
is_callable setup parts v = is_callee (callee_of setup parts v)

-- what a bound function stands for at the end of its chain; each target was made before
abbrev pub target_through : (ObjId → ObjId) → ObjId → Part → ObjId
target_through go o (Bound (Object t) this arguments) = go t
target_through go o part = o

abbrev pub target_within : ℕ → List Part → ObjId → ObjId
target_within zero parts o = o
target_within (suc n) parts o = target_through (target_within n parts) o (part_at parts o)

abbrev pub target_of : List Part → ObjId → ObjId
target_of parts o = target_within (length parts) parts o

abbrev pub constructs_as : Setup → ObjId → Callee → Bool
constructs_as setup o NotCallable = false
constructs_as setup o (OfProgram body scope home) = is_class (kind_at setup.code body) || is_plain_function setup.code body
constructs_as setup o (OfBundle body) = false
constructs_as setup o (OfBound callee this arguments) = false
constructs_as setup o (OfStore f) = setup.builtins.constructs f
constructs_as setup o (OfMachine c) = setup.builtins.constructs o
constructs_as setup o OfLater = false

-- IsConstructor (§7.2.4); a bound function is one where its target is
abbrev pub is_constructor : Setup → List Part → ObjId → Bool
is_constructor setup parts o = constructs_as setup (target_of parts o) (callee_at setup parts (target_of parts o))

-- ---- new functions

-- a hidden property
abbrev pub hidden : List (List ℕ) → ObjId → TextId → Value → ObjectStore → ObjectStore
hidden texts o key v objects = written texts objects o (Name key) v true

-- a function object of this kind and prototype, with its name (OrdinaryFunctionCreate §10.2.3, SetFunctionName §10.2.9)
abbrev pub function_object : Builtins → List (List ℕ) → Kind → ObjId → TextId → ObjectStore → ObjectStore
function_object builtins texts kind proto name objects =
    hidden texts (next_object objects) builtins.name (Text name) (made objects kind (Some proto))

-- a prototype object for function f, and the two references (MakeConstructor, §10.2.5)
abbrev pub with_prototype : Builtins → List (List ℕ) → ObjId → Option ObjId → ObjectStore → ObjectStore
with_prototype builtins texts f proto objects =
    hidden texts (next_object objects) builtins.constructor (Object f)
    (hidden texts f builtins.prototype (Object (next_object objects)) (made objects kinds.Plain proto))

-- the objects of a function: one, or two where it has a `prototype` (InstantiateFunctionObject §8.6.1, §15.2.4)
abbrev pub function_objects : Setup → List (List ℕ) → BodyId → ObjectStore → ObjectStore
function_objects setup texts b objects =
    if is_plain_function setup.code b
    then with_prototype setup.builtins texts (next_object objects) (Some setup.builtins.home.object)
    (function_object setup.builtins texts kinds.Function setup.builtins.function (name_at setup.code b) objects)
    else function_object setup.builtins texts kinds.Function setup.builtins.function (name_at setup.code b) objects

-- the objects of a class: the class, and its prototype object (ClassDefinitionEvaluation, §15.7.14)
abbrev pub class_objects : Setup → List (List ℕ) → BodyId → ObjId → Option ObjId → ObjectStore → ObjectStore
class_objects setup texts b constructor_parent prototype_parent objects =
    with_prototype setup.builtins texts (next_object objects) prototype_parent
    (function_object setup.builtins texts kinds.Class constructor_parent (name_at setup.code b) objects)

-- ---- parents of classes (§15.7.14, steps 7 and 8)

pub data Heritage : Type 0 where
  Extends : (constructor_parent : ObjId) → (prototype_parent : Option ObjId) → Heritage
  Refuses : (e : ErrorKind) → Heritage
  Leaves : (r : Reason) → Heritage

abbrev pub heritage_by_prototype : ObjId → Value → Heritage
heritage_by_prototype o (Object p) = Extends o (Some p)
heritage_by_prototype o Null = Extends o None
heritage_by_prototype o v = Refuses (TypeError 10)

-- whether a built-in function may not be extended
abbrev pub is_closed : Builtins → ObjId → Option Called → Bool
is_closed builtins o None = false
is_closed builtins o (Some c) = not (builtins.extends o)

-- the value at a name along the prototypes (Get, §7.3.2)
abbrev pub get : Stores → ObjId → TextId → Value
get s o name = inherited s.texts.texts s.objects o (Name name)

abbrev pub heritage_of_object : Setup → List Part → Stores → ObjId → Heritage
heritage_of_object setup parts s o =
    if is_closed setup.builtins o (setup.builtins.called_as o) then Leaves Subclass
    else if is_constructor setup parts o then heritage_by_prototype o (get s o setup.builtins.prototype)
    else Refuses (TypeError 1)

abbrev pub heritage_of : Setup → List Part → Stores → Option Value → Heritage
heritage_of setup parts s None = Extends setup.builtins.function (Some setup.builtins.home.object)
heritage_of setup parts s (Some Null) = Extends setup.builtins.function None
heritage_of setup parts s (Some (Object o)) = heritage_of_object setup parts s o
heritage_of setup parts s (Some v) = Refuses (TypeError 1)

-- ---- bound functions (BoundFunctionCreate §10.4.1.3, and the name of Function.prototype.bind §20.2.3.2)

-- the text of a name that is a text, and the empty text for any other
abbrev pub name_text : List (List ℕ) → Value → List ℕ
name_text texts (Text t) = text_at texts t.0
name_text texts v = codes ""

abbrev pub bound_name : Builtins → Stores → ObjId → List ℕ
bound_name builtins s o = codes "bound " ++ name_text s.texts.texts (get s o builtins.name)

-- the stores with one more bound function, whose name is a new text
abbrev pub with_named_bound : Builtins → ObjId → List ℕ → Stores → Stores
with_named_bound builtins o name s =
    with_objects
    (hidden (with_text s.texts.texts name) (next_object s.objects) builtins.name (Text (record { 0 = added_number s.texts.texts name }))
    (made s.objects kinds.Native (proto_of s.objects o)))
    (with_texts (with_text s.texts.texts name) s)

abbrev pub with_bound : Builtins → ObjId → Stores → Stores
with_bound builtins o s = with_named_bound builtins o (bound_name builtins s o) s
