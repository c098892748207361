-- The rows of calls keep what every move keeps.
use Rattle.std.proofs.Common.{ℕ, Bool, true, false, List, ◌∷◌, ◌++◌, Option, Some, None}
use Rattle.actx_text.specs.declared.body_id.BodyId.{BodyId}
use Rattle.actx_tree.specs.declared.function.Flow.{Flow}
use Rattle.actx_tree.specs.declared.function.Flow.TheVariants as flows
use Rattle.actx_event.specs.declared.event.Event.{Event}
use Rattle.actx_event.specs.declared.event.Event.TheVariants.{Print}
use Rattle.actx_value.specs.Texts.{with_text}
use Rattle.actx_value.specs.declared.ids.ObjId.{ObjId}
use Rattle.actx_value.specs.declared.ids.ScopeId.{ScopeId}
use Rattle.actx_value.specs.declared.value.Value.{Value}
use Rattle.actx_value.specs.declared.value.Value.TheVariants as values
use Rattle.actx_value.specs.declared.error_kind.ErrorKind.TheVariants.{TypeError}
use Rattle.actx_objects.specs.Objects.{proto_of}
use Rattle.actx_request.specs.Outcomes.{with_texts}
use Rattle.actx_world.specs.declared.handed.Handed.{Handed}
use Rattle.actx_world.specs.declared.handed.Handed.TheVariants as hand
use Rattle.actx_world.specs.declared.handed.BodyEnd.{BodyEnd}
use Rattle.actx_world.specs.Setup.{Bodies, Setup, NativeOut, Gives, Throws, OutOfProfile, Exits, Prints}
use Rattle.actx_world.specs.State.{Activation, State, with_stores}
use Rattle.actx_world.specs.Moves.{Oracle, Asker, Asked, Handing, quiet, handed_to}
use Rattle.actx_world.specs.Functions.{kind_at, flow_at, is_class, is_derived, Callee, NotCallable, OfProgram, OfBundle, OfBound, OfStore, OfMachine, OfLater, callee_of, callee_at, is_constructor}
use Rattle.actx_world.specs.Acts.{Act, Give, Refuse, Leave, Invoke, MakeBound, Execution, Trigger, Later, decide}
use Rattle.actx_world.specs.Calls.{row_begin, row_body_call, row_closure, row_native, bound_made, row_act, call_as, row_call, construct_begun, row_body_construct, row_bound_construct, construct_as, construct_if, row_construct, row_new, row_parent, row_super}
use Rattle.actx_world.proofs.Facts.{Ready, Keeps, Begins, ground_begins, printed_nested, body_on, call_on, construct_on, keeps_handed, keeps_gives, keeps_throws}

module _ {B : Type 0} (bodies : Bodies B) (setup : Setup) where
  keeps_begin : (flow : Flow) (b : BodyId) (parent : ScopeId) (this : Option Value) (f home : Value) (arguments : List Value) (end : BodyEnd) (s : State B) (es : List Event) → Ready s.stack s.hand es → Keeps es (row_begin bodies setup flow b parent this f home arguments end s)
  keeps_begin flows.Plain b parent this f home arguments end s es n = body_on _ s.hand s.hand s.stack es n
  keeps_begin flows.Async b parent this f home arguments end s es n = tt
  keeps_begin flows.Generator b parent this f home arguments end s es n = tt

  keeps_body_call : (asker : Asker B) (f this : Value) (arguments : List Value) (b : BodyId) (parent : ScopeId) (home : Value) (s : State B) (es : List Event) → Ready s.stack s.hand es → Keeps es (row_body_call bodies setup asker f this arguments b parent home s)
  keeps_body_call (Asked a) f this arguments b parent home s es n = call_on f this arguments (Asked a) s es n
  keeps_body_call Handing f this arguments b parent home s es n = keeps_begin (flow_at setup.code b) b parent _ f home arguments _ s es n

  keeps_closure : (t : Bool) (asker : Asker B) (f this : Value) (arguments : List Value) (b : BodyId) (parent : ScopeId) (home : Value) (s : State B) (es : List Event) → Ready s.stack s.hand es → Keeps es (row_closure bodies setup t asker f this arguments b parent home s)
  keeps_closure true asker f this arguments b parent home s es n = keeps_throws bodies setup.builtins asker (TypeError 7) s es n
  keeps_closure false asker f this arguments b parent home s es n = keeps_body_call asker f this arguments b parent home s es n

  -- a printed line comes after the main script has begun
  printed_begins : (line : List ℕ) (asker : Asker B) (h : Handed) (s : State B) (es : List Event) → Ready s.stack s.hand es → Begins (handed_to bodies asker h s).stack (Print line ∷ es)
  printed_begins line (Asked a) h s es n = tt
  printed_begins line Handing h s es n = ground_begins s.stack (Print line ∷ es) n.ground.0

  keeps_native : (asker : Asker B) (o : NativeOut) (s : State B) (es : List Event) → Ready s.stack s.hand es → Keeps es (row_native bodies setup asker o s)
  keeps_native asker (Gives v) s es n = keeps_gives bodies asker v s es n
  keeps_native asker (Throws e) s es n = keeps_throws bodies setup.builtins asker e s es n
  keeps_native asker (OutOfProfile r) s es n = tt
  keeps_native asker (Exits status) s es n = tt
  keeps_native asker (Prints line) s es n =
      let w = keeps_handed bodies asker (hand.Gives values.Undefined) (with_stores (with_texts (with_text s.stores.texts.texts line) s.stores) s) es n in
      record { nested = printed_nested line _ es w.nested; well = w.well; begins = printed_begins line asker (hand.Gives values.Undefined) (with_stores (with_texts (with_text s.stores.texts.texts line) s.stores) s) es n }

  keeps_act : (oracle : Oracle) (asker : Asker B) (act : Act) (s : State B) (es : List Event) → Ready s.stack s.hand es → Keeps es (row_act bodies setup oracle asker act s)
  keeps_act oracle asker (Give v) s es n = keeps_gives bodies asker v s es n
  keeps_act oracle asker (Refuse e) s es n = keeps_throws bodies setup.builtins asker e s es n
  keeps_act oracle asker (Leave r) s es n = tt
  keeps_act oracle asker (Invoke callee this arguments) s es n = call_on callee this arguments asker s es n
  keeps_act oracle asker (MakeBound o this arguments) s es n = keeps_gives bodies asker _ (bound_made bodies setup o this arguments s) es n
  keeps_act oracle asker Execution s es n = keeps_gives bodies asker _ s es n
  keeps_act oracle asker Trigger s es n = keeps_gives bodies asker _ s es n
  keeps_act oracle asker Later s es n = tt

  keeps_call_as : (oracle : Oracle) (asker : Asker B) (f this : Value) (arguments : List Value) (c : Callee) (s : State B) (es : List Event) → Ready s.stack s.hand es → Keeps es (call_as bodies setup oracle asker f this arguments c s)
  keeps_call_as oracle asker f this arguments NotCallable s es n = keeps_throws bodies setup.builtins asker (TypeError 0) s es n
  keeps_call_as oracle asker f this arguments (OfProgram b scope home) s es n = keeps_closure (is_class (kind_at setup.code b)) asker f this arguments b scope home s es n
  keeps_call_as oracle asker f this arguments (OfBundle b) s es n = keeps_body_call asker f this arguments b setup.builtins.bundle _ s es n
  keeps_call_as oracle asker f this arguments (OfBound callee this' first) s es n = call_on callee this' (first ++ arguments) asker s es n
  keeps_call_as oracle asker f this arguments (OfStore o) s es n = keeps_native asker (setup.builtins.native o this arguments None s.stores).out (with_stores (setup.builtins.native o this arguments None s.stores).stores s) es n
  keeps_call_as oracle asker f this arguments (OfMachine c) s es n = keeps_act oracle asker (decide setup s.parts s.stores c this arguments) s es n
  keeps_call_as oracle asker f this arguments OfLater s es n = tt

  pub keeps_call : (oracle : Oracle) (asker : Asker B) (f this : Value) (arguments : List Value) (s : State B) (es : List Event) → Ready s.stack s.hand es → Keeps es (row_call bodies setup oracle asker f this arguments s)
  keeps_call oracle asker f this arguments s es n = keeps_call_as oracle asker f this arguments (callee_of setup s.parts f) s es n

  -- ---- constructions

  begun_stands : (t : Bool) (f target : ObjId) (arguments : List Value) (b : BodyId) (parent : ScopeId) (home : Value) (s : State B) (es : List Event) → Ready s.stack s.hand es → Keeps es (quiet (construct_begun bodies setup t f target arguments b parent home s))
  begun_stands true f target arguments b parent home s es n = body_on _ s.hand s.hand s.stack es n
  begun_stands false f target arguments b parent home s es n = body_on _ s.hand s.hand s.stack es n

  keeps_body_construct : (asker : Asker B) (f target : ObjId) (arguments : List Value) (b : BodyId) (parent : ScopeId) (home : Value) (s : State B) (es : List Event) → Ready s.stack s.hand es → Keeps es (row_body_construct bodies setup asker f target arguments b parent home s)
  keeps_body_construct (Asked a) f target arguments b parent home s es n = construct_on f target arguments (Asked a) s es n
  keeps_body_construct Handing f target arguments b parent home s es n = begun_stands (is_derived (kind_at setup.code b)) f target arguments b parent home s es n

  keeps_bound_construct : (asker : Asker B) (f target : ObjId) (arguments : List Value) (callee : Value) (s : State B) (es : List Event) → Ready s.stack s.hand es → Keeps es (row_bound_construct bodies setup asker f target arguments callee s)
  keeps_bound_construct asker f target arguments (values.Object callee) s es n = construct_on callee _ arguments asker s es n
  keeps_bound_construct asker f target arguments v s es n = keeps_throws bodies setup.builtins asker (TypeError 1) s es n

  keeps_construct_as : (asker : Asker B) (f target : ObjId) (arguments : List Value) (c : Callee) (s : State B) (es : List Event) → Ready s.stack s.hand es → Keeps es (construct_as bodies setup asker f target arguments c s)
  keeps_construct_as asker f target arguments (OfProgram b scope home) s es n = keeps_body_construct asker f target arguments b scope home s es n
  keeps_construct_as asker f target arguments (OfBound callee this first) s es n = keeps_bound_construct asker f target (first ++ arguments) callee s es n
  keeps_construct_as asker f target arguments (OfStore o) s es n = keeps_native asker (setup.builtins.native o values.Undefined arguments (Some target) s.stores).out (with_stores (setup.builtins.native o values.Undefined arguments (Some target) s.stores).stores s) es n
  keeps_construct_as asker f target arguments (OfMachine c) s es n = tt
  keeps_construct_as asker f target arguments NotCallable s es n = keeps_throws bodies setup.builtins asker (TypeError 1) s es n
  keeps_construct_as asker f target arguments (OfBundle b) s es n = keeps_throws bodies setup.builtins asker (TypeError 1) s es n
  keeps_construct_as asker f target arguments OfLater s es n = keeps_throws bodies setup.builtins asker (TypeError 1) s es n

  keeps_construct_if : (t : Bool) (asker : Asker B) (f target : ObjId) (arguments : List Value) (s : State B) (es : List Event) → Ready s.stack s.hand es → Keeps es (construct_if bodies setup t asker f target arguments s)
  keeps_construct_if true asker f target arguments s es n = keeps_construct_as asker f target arguments (callee_at setup s.parts f) s es n
  keeps_construct_if false asker f target arguments s es n = keeps_throws bodies setup.builtins asker (TypeError 1) s es n

  pub keeps_construct : (asker : Asker B) (f target : ObjId) (arguments : List Value) (s : State B) (es : List Event) → Ready s.stack s.hand es → Keeps es (row_construct bodies setup asker f target arguments s)
  keeps_construct asker f target arguments s es n = keeps_construct_if (is_constructor setup s.parts f) asker f target arguments s es n

  pub keeps_new : (a : Activation B) (v : Value) (arguments : List Value) (s : State B) (es : List Event) → Ready s.stack s.hand es → Keeps es (row_new bodies setup a v arguments s)
  keeps_new a (values.Object f) arguments s es n = keeps_construct (Asked a) f f arguments s es n
  keeps_new a v arguments s es n = keeps_throws bodies setup.builtins (Asked a) (TypeError 1) s es n

  keeps_parent : (a : Activation B) (f : ObjId) (p : Option ObjId) (arguments : List Value) (s : State B) (es : List Event) → Ready s.stack s.hand es → Keeps es (row_parent bodies setup a f p arguments s)
  keeps_parent a f (Some parent) arguments s es n = keeps_construct (Asked a) parent _ arguments s es n
  keeps_parent a f None arguments s es n = keeps_throws bodies setup.builtins (Asked a) (TypeError 1) s es n

  pub keeps_super : (a : Activation B) (v : Value) (arguments : List Value) (s : State B) (es : List Event) → Ready s.stack s.hand es → Keeps es (row_super bodies setup a v arguments s)
  keeps_super a (values.Object f) arguments s es n = keeps_parent a f (proto_of s.stores.objects f) arguments s es n
  keeps_super a v arguments s es n = keeps_throws bodies setup.builtins (Asked a) (TypeError 1) s es n
