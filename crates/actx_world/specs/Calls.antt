-- Calls: what a call and a `new` do, asked by a body or made by a Do (Call §7.3.14, Construct §7.3.15 of ECMA-262).
use Rattle.std.specs.Prelude.{ℕ, zero, suc, ◌==◌, pos, Bool, true, false, List, [], ◌∷◌, ◌++◌, length, slice_get, Option, Some, None, if◌then◌else◌, unwrap_or}
use Rattle.std.specs.Option.{option_or, option_map_or, option_and_then}
use Rattle.actx_text.specs.declared.body_id.BodyId.{BodyId}
use Rattle.actx_tree.specs.declared.function.Flow.{Flow}
use Rattle.actx_tree.specs.declared.function.Flow.TheVariants as flows
use Rattle.actx_event.specs.declared.event.Event.TheVariants.{Print}
use Rattle.actx_event.specs.Noted.{Noted, first_noted}
use Rattle.actx_value.specs.Texts.{with_text}
use Rattle.actx_value.specs.declared.ids.ObjId.{ObjId}
use Rattle.actx_value.specs.declared.ids.ScopeId.{ScopeId}
use Rattle.actx_value.specs.declared.value.Value.{Value}
use Rattle.actx_value.specs.declared.value.Value.TheVariants.{Undefined, Num, Object}
use Rattle.actx_value.specs.declared.error_kind.ErrorKind.TheVariants.{TypeError}
use Rattle.actx_value.specs.declared.end.End.TheVariants as ends
use Rattle.actx_code.specs.Codes.{Lists}
use Rattle.actx_cells.specs.Scopes.{Scope as OneScope, new_scope, with_cell}
use Rattle.actx_objects.specs.declared.kind.Kind.TheVariants.{Plain}
use Rattle.actx_objects.specs.Objects.{made, proto_of}
use Rattle.actx_request.specs.Outcomes.{Stores, with_objects, with_scopes, with_texts}
use Rattle.actx_request.specs.Lists.{next_object}
use Rattle.actx_world.specs.declared.handed.BodyEnd.{BodyEnd}
use Rattle.actx_world.specs.declared.handed.BodyEnd.TheVariants as after
use Rattle.actx_world.specs.Setup.{Bodies, Builtins, Setup, NativeOutcome, NativeOut, Gives, Throws, OutOfProfile, Exits, Prints}
use Rattle.actx_world.specs.Parts.{Bound, with_part}
use Rattle.actx_world.specs.State.{Activation, Call, Construct, Body, Do, State, pushed, with_stores, with_parts}
use Rattle.actx_world.specs.Moves.{Oracle, Next, Over, Unbuilt, Asker, Asked, Handing, quiet, adding, waiting, value_to, gives_to, throws_to}
use Rattle.actx_world.specs.Functions.{body_at, kind_at, flow_at, is_class, is_derived, Callee, NotCallable, OfProgram, OfBundle, OfBound, OfStore, OfMachine, OfLater, callee_of, callee_at, is_constructor, get, with_bound}
use Rattle.actx_world.specs.Acts.{Act, Give, Refuse, Leave, Invoke, MakeBound, Execution, Trigger, Later, decide}

-- ---- parameter scopes (NewFunctionEnvironment, §9.1.2.4; OrdinaryCallBindThis, §10.2.1.2)

abbrev pub next_scope : Stores → ScopeId
next_scope s = record { 0 = length s.cells.scopes }

-- whether the parameter scope of a body has the hidden slots, and its number of cells
abbrev pub has_hidden : Lists → BodyId → Bool
has_hidden code b = option_map_or (λ body. body.hidden) (body_at code b) false

abbrev pub cells_of : Lists → BodyId → ℕ
cells_of code b = option_map_or (λ body. body.cells) (body_at code b) 0

-- the value of `this`, where the call gives one
abbrev pub with_this : Option Value → ScopeId → List OneScope → List OneScope
with_this None scope scopes = scopes
with_this (Some this) scope scopes = with_cell scopes 0 this scope

-- the hidden slots: `this`, the function, its home object
abbrev pub with_hidden : Bool → Option Value → Value → Value → ScopeId → List OneScope → List OneScope
with_hidden false this f home scope scopes = scopes
with_hidden true this f home scope scopes = with_cell (with_cell (with_this this scope scopes) 1 f scope) 2 home scope

-- the stores with the parameter scope of a call
abbrev pub with_parameters : Lists → BodyId → ScopeId → Option Value → Value → Value → Stores → Stores
with_parameters code b parent this f home s =
    with_scopes (with_hidden (has_hidden code b) this f home (next_scope s) (s.cells.scopes ++ new_scope (Some parent) (cells_of code b) ∷ [])) s

-- ---- new targets (GetNewTarget, §9.4.5)

-- the new target of the nearest scope outward that has one
abbrev pub parent_of : List OneScope → ScopeId → Option ScopeId
parent_of scopes s = option_and_then (λ scope. scope.parent) (slice_get scopes s.0)

abbrev pub target_outward : ℕ → List OneScope → List (Noted ObjId) → ScopeId → Option ObjId
target_outward zero scopes targets s = None
target_outward (suc n) scopes targets s =
    option_or (first_noted s.0 targets) (option_and_then (target_outward n scopes targets) (parent_of scopes s))

abbrev pub new_target : List OneScope → List (Noted ObjId) → ScopeId → Option ObjId
new_target scopes targets s = target_outward (length scopes) scopes targets s

-- ---- the object of `this` (OrdinaryCreateFromConstructor, §10.1.13)

abbrev pub prototype_for : ObjId → Value → ObjId
prototype_for default (Object p) = p
prototype_for default v = default

abbrev pub with_this_object : Builtins → ObjId → Stores → Stores
with_this_object builtins target s =
    with_objects (made s.objects Plain (Some (prototype_for builtins.home.object (get s target builtins.prototype)))) s

module _ {B : Type 0} (bodies : Bodies B) (setup : Setup) where
  -- ---- a body begins

  -- in a parameter scope of its own
  abbrev pub begun : BodyId → ScopeId → Option Value → Value → Value → List Value → BodyEnd → State B → State B
  begun b parent this f home arguments end s =
      pushed (Body (record { frame = bodies.begin b (next_scope s.stores); arguments = arguments; scope = next_scope s.stores; end = end }))
      (with_stores (with_parameters setup.code b parent this f home s.stores) s)

  -- async functions and generators come later
  abbrev pub row_begin : Flow → BodyId → ScopeId → Option Value → Value → Value → List Value → BodyEnd → State B → Next B
  row_begin flows.Plain b parent this f home arguments end s = quiet (begun b parent this f home arguments end s)
  row_begin flow b parent this f home arguments end s = Unbuilt

  -- a call of a function of the program or of the bundle: a body that asks for it leaves a Do, and a Do makes it
  abbrev pub row_body_call : Asker B → Value → Value → List Value → BodyId → ScopeId → Value → State B → Next B
  row_body_call (Asked a) f this arguments b parent home s = quiet (pushed (Do (Call f this arguments)) (pushed (Body a) s))
  row_body_call Handing f this arguments b parent home s = row_begin (flow_at setup.code b) b parent (Some this) f home arguments after.Plain s

  -- a class can't be called without `new` (§10.2.1)
  abbrev pub row_closure : Bool → Asker B → Value → Value → List Value → BodyId → ScopeId → Value → State B → Next B
  row_closure true asker f this arguments b parent home s = throws_to bodies setup.builtins asker (TypeError 7) s
  row_closure false asker f this arguments b parent home s = row_body_call asker f this arguments b parent home s

  -- ---- natives

  -- a native that reads and writes the stores alone; a printed line counts as a text
  abbrev pub row_native : Asker B → NativeOut → State B → Next B
  row_native asker (Gives v) s = gives_to bodies asker v s
  row_native asker (Throws e) s = throws_to bodies setup.builtins asker e s
  row_native asker (OutOfProfile r) s = Over (ends.OutOfProfile r)
  row_native asker (Exits status) s = Over (ends.Exited status)
  row_native asker (Prints line) s =
      adding (Print line) (value_to bodies asker Undefined (with_stores (with_texts (with_text s.stores.texts.texts line) s.stores) s))

  abbrev pub row_store_call : Asker B → NativeOutcome → State B → Next B
  row_store_call asker o s = row_native asker o.out (with_stores o.stores s)

  -- a new bound function (§10.4.1.3)
  abbrev pub bound_made : ObjId → Value → List Value → State B → State B
  bound_made o this arguments s =
      with_parts (with_part (next_object s.stores.objects) (Bound (Object o) this arguments) s.parts) (with_stores (with_bound setup.builtins o s.stores) s)

  -- a native that the machine answers
  abbrev pub row_act : Oracle → Asker B → Act → State B → Next B
  row_act oracle asker (Give v) s = gives_to bodies asker v s
  row_act oracle asker (Refuse e) s = throws_to bodies setup.builtins asker e s
  row_act oracle asker (Leave r) s = Over (ends.OutOfProfile r)
  row_act oracle asker (Invoke callee this arguments) s = quiet (pushed (Do (Call callee this arguments)) (waiting asker s))
  row_act oracle asker (MakeBound o this arguments) s = gives_to bodies asker (Object (next_object s.stores.objects)) (bound_made o this arguments s)
  row_act oracle asker Execution s = gives_to bodies asker (Num (pos oracle.execution)) s
  row_act oracle asker Trigger s = gives_to bodies asker (Num (pos oracle.trigger)) s
  row_act oracle asker Later s = Unbuilt

  -- ---- a call

  abbrev pub call_as : Oracle → Asker B → Value → Value → List Value → Callee → State B → Next B
  call_as oracle asker f this arguments NotCallable s = throws_to bodies setup.builtins asker (TypeError 0) s
  call_as oracle asker f this arguments (OfProgram b scope home) s = row_closure (is_class (kind_at setup.code b)) asker f this arguments b scope home s
  call_as oracle asker f this arguments (OfBundle b) s = row_body_call asker f this arguments b setup.builtins.bundle Undefined s
  call_as oracle asker f this arguments (OfBound callee this' first) s = quiet (pushed (Do (Call callee this' (first ++ arguments))) (waiting asker s))
  call_as oracle asker f this arguments (OfStore o) s = row_store_call asker (setup.builtins.native o this arguments None s.stores) s
  call_as oracle asker f this arguments (OfMachine c) s = row_act oracle asker (decide setup s.parts s.stores c this arguments) s
  call_as oracle asker f this arguments OfLater s = Unbuilt

  abbrev pub row_call : Oracle → Asker B → Value → Value → List Value → State B → Next B
  row_call oracle asker f this arguments s = call_as oracle asker f this arguments (callee_of setup s.parts f) s

  -- ---- a construction

  -- the constructor of a class with `extends` begins without `this`, and its parameter scope has the new target
  abbrev pub derived_begun : ObjId → ObjId → List Value → BodyId → ScopeId → Value → State B → State B
  derived_begun f target arguments b parent home s =
      begun b parent None (Object f) home arguments after.DerivedConstructor
      (record s { targets = record { number = length s.stores.cells.scopes; noted = target } ∷ s.targets })

  -- any other begins with a new object as `this`
  abbrev pub base_begun : ObjId → ObjId → List Value → BodyId → ScopeId → Value → State B → State B
  base_begun f target arguments b parent home s =
      begun b parent (Some (Object (next_object s.stores.objects))) (Object f) home arguments (after.Constructor (next_object s.stores.objects))
      (with_stores (with_this_object setup.builtins target s.stores) s)

  -- ([[Construct]] of §10.2.2)
  abbrev pub construct_begun : Bool → ObjId → ObjId → List Value → BodyId → ScopeId → Value → State B → State B
  construct_begun true f target arguments b parent home s = derived_begun f target arguments b parent home s
  construct_begun false f target arguments b parent home s = base_begun f target arguments b parent home s

  abbrev pub row_body_construct : Asker B → ObjId → ObjId → List Value → BodyId → ScopeId → Value → State B → Next B
  row_body_construct (Asked a) f target arguments b parent home s = quiet (pushed (Do (Construct f target arguments)) (pushed (Body a) s))
  row_body_construct Handing f target arguments b parent home s =
      quiet (construct_begun (is_derived (kind_at setup.code b)) f target arguments b parent home s)

  -- a bound function hands its target on, also as new target where it is that itself (§10.4.1.2)
  abbrev pub target_past : ObjId → ObjId → ObjId → ObjId
  target_past f target callee = if target.0 == f.0 then callee else target

  abbrev pub row_bound_construct : Asker B → ObjId → ObjId → List Value → Value → State B → Next B
  row_bound_construct asker f target arguments (Object callee) s =
      quiet (pushed (Do (Construct callee (target_past f target callee) arguments)) (waiting asker s))
  row_bound_construct asker f target arguments v s = throws_to bodies setup.builtins asker (TypeError 1) s

  abbrev pub construct_as : Asker B → ObjId → ObjId → List Value → Callee → State B → Next B
  construct_as asker f target arguments (OfProgram b scope home) s = row_body_construct asker f target arguments b scope home s
  construct_as asker f target arguments (OfBound callee this first) s = row_bound_construct asker f target (first ++ arguments) callee s
  construct_as asker f target arguments (OfStore o) s = row_store_call asker (setup.builtins.native o Undefined arguments (Some target) s.stores) s
  construct_as asker f target arguments (OfMachine c) s = Unbuilt
  construct_as asker f target arguments callee s = throws_to bodies setup.builtins asker (TypeError 1) s

  -- what is no constructor is TypeError 1
  abbrev pub construct_if : Bool → Asker B → ObjId → ObjId → List Value → State B → Next B
  construct_if true asker f target arguments s = construct_as asker f target arguments (callee_at setup s.parts f) s
  construct_if false asker f target arguments s = throws_to bodies setup.builtins asker (TypeError 1) s

  abbrev pub row_construct : Asker B → ObjId → ObjId → List Value → State B → Next B
  row_construct asker f target arguments s = construct_if (is_constructor setup s.parts f) asker f target arguments s

  -- `new` (EvaluateNew, §13.3.5.1.1)
  abbrev pub row_new : Activation B → Value → List Value → State B → Next B
  row_new a (Object f) arguments s = row_construct (Asked a) f f arguments s
  row_new a v arguments s = throws_to bodies setup.builtins (Asked a) (TypeError 1) s

  -- `super(..)` (§13.3.7.1): the constructor's prototype is its parent
  abbrev pub row_parent : Activation B → ObjId → Option ObjId → List Value → State B → Next B
  row_parent a f (Some parent) arguments s =
      row_construct (Asked a) parent (unwrap_or (new_target s.stores.cells.scopes s.targets a.scope) f) arguments s
  row_parent a f None arguments s = throws_to bodies setup.builtins (Asked a) (TypeError 1) s

  abbrev pub row_super : Activation B → Value → List Value → State B → Next B
  row_super a (Object f) arguments s = row_parent a f (proto_of s.stores.objects f) arguments s
  row_super a v arguments s = throws_to bodies setup.builtins (Asked a) (TypeError 1) s
