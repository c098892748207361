-- What a body leads to by what it wants: a request, or its end.
use Rattle.std.specs.Prelude.{ℕ, List, Option, Some, None}
use Rattle.actx_text.specs.declared.body_id.BodyId.{BodyId}
use Rattle.actx_value.specs.declared.ids.ObjId.{ObjId}
use Rattle.actx_value.specs.declared.ids.ScopeId.{ScopeId}
use Rattle.actx_value.specs.declared.value.Value.{Value}
use Rattle.actx_value.specs.declared.value.Value.TheVariants.{Undefined, Object}
use Rattle.actx_value.specs.declared.request.Request.{Request}
use Rattle.actx_value.specs.declared.request.Request.TheVariants as requests
use Rattle.actx_value.specs.declared.operator.UnaryOp.TheVariants as unary
use Rattle.actx_value.specs.declared.operator.BinaryOp.TheVariants as binary
use Rattle.actx_value.specs.declared.error_kind.ErrorKind.TheVariants.{TypeError, ReferenceError}
use Rattle.actx_value.specs.declared.end.End.TheVariants as ends
use Rattle.actx_cells.specs.Scopes.{cell_of}
use Rattle.actx_objects.specs.declared.kind.Kind.TheVariants as kinds
use Rattle.actx_request.specs.Outcomes.{Stores, with_objects}
use Rattle.actx_request.specs.Lists.{next_object}
use Rattle.actx_request.specs.Answers.{outcome_of}
use Rattle.actx_want.specs.Run.{Wants, Asks, Returns, Throws}
use Rattle.actx_world.specs.declared.handed.Handed.TheVariants as hand
use Rattle.actx_world.specs.declared.handed.BodyEnd.{BodyEnd}
use Rattle.actx_world.specs.declared.handed.BodyEnd.TheVariants as after
use Rattle.actx_world.specs.Setup.{Bodies, Setup}
use Rattle.actx_world.specs.Parts.{Closure, with_part}
use Rattle.actx_world.specs.State.{Activation, State, with_stores, with_parts, with_hand}
use Rattle.actx_world.specs.Moves.{Oracle, Next, Over, Asked, Handing, quiet, gives_to, throws_to, outcome_to}
use Rattle.actx_world.specs.Functions.{function_object, function_objects, class_objects, name_at, Heritage, Extends, Refuses, Leaves, heritage_of}
use Rattle.actx_world.specs.Calls.{row_call, row_new, row_super}
use Rattle.actx_world.specs.Walks.{row_open, row_next, row_close_walk}
use Rattle.actx_world.specs.Looks.{type_of, is_in, is_instance}

module _ {B : Type 0} (bodies : Bodies B) (setup : Setup) where
  -- ---- functions, methods and classes

  -- a new function of this body, scope and home object
  abbrev pub closure_made : BodyId → ScopeId → Value → State B → State B
  closure_made b scope home s = with_parts (with_part (next_object s.stores.objects) (Closure b scope home) s.parts) s

  -- Function (InstantiateOrdinaryFunctionExpression, ECMA-262 §15.2.5, §15.3.4)
  abbrev pub row_function : Activation B → BodyId → ScopeId → State B → Next B
  row_function a b scope s =
      gives_to bodies (Asked a) (Object (next_object s.stores.objects))
      (with_stores (with_objects (function_objects setup s.stores.texts.texts b s.stores.objects) s.stores) (closure_made b scope Undefined s))

  -- Method (DefineMethod, §15.4.4)
  abbrev pub row_method : Activation B → BodyId → ScopeId → Value → State B → Next B
  row_method a b scope home s =
      gives_to bodies (Asked a) (Object (next_object s.stores.objects))
      (with_stores
      (with_objects (function_object setup.builtins s.stores.texts.texts kinds.Function setup.builtins.function (name_at setup.code b) s.stores.objects) s.stores)
      (closure_made b scope home s))

  -- Class (ClassDefinitionEvaluation, §15.7.14): the home object of the constructor is the prototype object, which is made
  -- right after the class
  abbrev pub class_home : Stores → Value
  class_home s = Object (record { 0 = ℕ.suc (next_object s.objects).0 })

  abbrev pub class_of : Activation B → BodyId → ScopeId → Heritage → State B → Next B
  class_of a b scope (Extends constructor_parent prototype_parent) s =
      gives_to bodies (Asked a) (Object (next_object s.stores.objects))
      (with_stores
      (with_objects (class_objects setup s.stores.texts.texts b constructor_parent prototype_parent s.stores.objects) s.stores)
      (closure_made b scope (class_home s.stores) s))
  class_of a b scope (Refuses e) s = throws_to bodies setup.builtins (Asked a) e s
  class_of a b scope (Leaves r) s = Over (ends.OutOfProfile r)

  abbrev pub row_class : Activation B → BodyId → ScopeId → Option Value → State B → Next B
  row_class a b scope parent s = class_of a b scope (heritage_of setup s.parts s.stores parent) s

  -- ---- requests

  -- by the request; what has no line of its own is a plain one. No body that runs is that of a generator or of an async
  -- function, so Begin, Yield and Await are answered `undefined`
  abbrev pub row_request : Oracle → Activation B → Request → List Value → State B → Next B
  row_request oracle a (requests.Unary unary.TypeOf v) list s = outcome_to bodies setup.builtins a (type_of setup s.parts v s.stores) s
  row_request oracle a (requests.Binary binary.In v w) list s = outcome_to bodies setup.builtins a (is_in setup v w s.stores) s
  row_request oracle a (requests.Binary binary.InstanceOf v w) list s = outcome_to bodies setup.builtins a (is_instance setup s.parts v w s.stores) s
  row_request oracle a (requests.Function b scope) list s = row_function a b scope s
  row_request oracle a (requests.Method b scope home) list s = row_method a b scope home s
  row_request oracle a (requests.Class b scope parent) list s = row_class a b scope parent s
  row_request oracle a (requests.Call callee this) list s = row_call bodies setup oracle (Asked a) callee this list s
  row_request oracle a (requests.New callee) list s = row_new bodies setup a callee list s
  row_request oracle a (requests.SuperCall callee) list s = row_super bodies setup a callee list s
  row_request oracle a (requests.Open v) list s = row_open bodies setup a v s
  row_request oracle a (requests.Next walk) list s = row_next bodies setup a walk s
  row_request oracle a (requests.Close walk) list s = row_close_walk bodies setup a walk s
  row_request oracle a requests.Begin list s = gives_to bodies (Asked a) Undefined s
  row_request oracle a (requests.Yield v) list s = gives_to bodies (Asked a) Undefined s
  row_request oracle a (requests.Await v) list s = gives_to bodies (Asked a) Undefined s
  row_request oracle a r list s = outcome_to bodies setup.builtins a (outcome_of r list a.arguments setup.builtins.home s.stores) s

  -- ---- the end of a body

  -- the value of `this` at the end of a derived constructor (§10.2.2, step 12)
  abbrev pub this_or_error : Option Value → State B → Next B
  this_or_error (Some this) s = quiet (with_hand (hand.Gives this) s)
  this_or_error None s = throws_to bodies setup.builtins Handing (ReferenceError 0) s

  -- by the value that the body returned (§10.2.2, steps 8 to 12)
  abbrev pub end_of_constructor : ObjId → Value → State B → Next B
  end_of_constructor this (Object o) s = quiet (with_hand (hand.Gives (Object o)) s)
  end_of_constructor this v s = quiet (with_hand (hand.Gives (Object this)) s)

  abbrev pub end_of_derived : ScopeId → Value → State B → Next B
  end_of_derived scope (Object o) s = quiet (with_hand (hand.Gives (Object o)) s)
  end_of_derived scope Undefined s = this_or_error (cell_of s.stores.cells.scopes 0 scope) s
  end_of_derived scope v s = throws_to bodies setup.builtins Handing (TypeError 10) s

  abbrev pub row_return : BodyEnd → ScopeId → Value → State B → Next B
  row_return after.Plain scope v s = quiet (with_hand (hand.Gives v) s)
  row_return (after.Constructor this) scope v s = end_of_constructor this v s
  row_return after.DerivedConstructor scope v s = end_of_derived scope v s

  -- by what the body wants
  abbrev pub row_wants : Oracle → Activation B → Wants → State B → Next B
  row_wants oracle a (Asks r list) s = row_request oracle a r list s
  row_wants oracle a (Returns v) s = row_return a.end a.scope v s
  row_wants oracle a (Throws v) s = quiet (with_hand (hand.Throws v) s)
