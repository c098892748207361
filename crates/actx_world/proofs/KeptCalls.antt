-- Calls, with bodies kept in two ways.
use Rattle.std.proofs.Common.{◌≡◌, Bool, true, false, List, [], ◌∷◌, ◌++◌, Option, Some, None, refl, ap}
use Rattle.actx_text.specs.declared.body_id.BodyId.{BodyId}
use Rattle.actx_tree.specs.declared.function.Flow.{Flow}
use Rattle.actx_tree.specs.declared.function.Flow.TheVariants as flows
use Rattle.actx_event.specs.declared.event.Event.TheVariants.{Print}
use Rattle.actx_value.specs.Texts.{with_text}
use Rattle.actx_value.specs.declared.ids.ObjId.{ObjId}
use Rattle.actx_value.specs.declared.ids.ScopeId.{ScopeId}
use Rattle.actx_value.specs.declared.value.Value.{Value}
use Rattle.actx_value.specs.declared.value.Value.TheVariants as values
use Rattle.actx_value.specs.declared.error_kind.ErrorKind.{ErrorKind}
use Rattle.actx_value.specs.declared.error_kind.ErrorKind.TheVariants.{TypeError}
use Rattle.actx_objects.specs.Objects.{proto_of}
use Rattle.actx_request.specs.declared.given.Given.{Given}
use Rattle.actx_request.specs.declared.given.Given.TheVariants as given
use Rattle.actx_request.specs.Outcomes.{with_texts}
use Rattle.actx_world.specs.declared.handed.Handed.{Handed}
use Rattle.actx_world.specs.declared.handed.Handed.TheVariants as hand
use Rattle.actx_world.specs.declared.handed.BodyEnd.{BodyEnd}
use Rattle.actx_world.specs.Setup.{Bodies, Builtins, Setup, NativeOut, Gives, Throws, OutOfProfile, Exits, Prints}
use Rattle.actx_world.specs.State.{Activation, Due, Call, Body, Do, State, pushed, with_stores}
use Rattle.actx_world.specs.Moves.{Oracle, On, Asker, Asked, Handing, quiet, answer_of, handed_to, waiting, gives_to, throws_to, given_to, with_error}
use Rattle.actx_world.specs.Functions.{kind_at, flow_at, is_class, is_derived, Callee, NotCallable, OfProgram, OfBundle, OfBound, OfStore, OfMachine, OfLater, callee_of, callee_at, is_constructor}
use Rattle.actx_world.specs.Acts.{Act, Give, Refuse, Leave, Invoke, MakeBound, Execution, Trigger, Later, decide}
use Rattle.actx_world.specs.Calls.{next_scope, with_parameters, begun, row_begin, row_body_call, row_closure, row_native, bound_made, row_act, call_as, row_call, construct_begun, row_body_construct, row_bound_construct, construct_as, construct_if, row_construct, row_new, row_parent, row_super}
use Rattle.actx_world.specs.Keeping.{activation_by, state_by, next_kept, asker_by, StandsFor}

module _ {A B : Type 0} (K : Bodies A) (L : Bodies B) (h : A → B) (same : StandsFor K L h) where
  pub same_handed : (asker : Asker A) (x : Handed) (s : State A) → state_by h (handed_to K asker x s) ≡ handed_to L (asker_by h asker) x (state_by h s)
  same_handed (Asked a) x s = ap (λ f. pushed (Body (record (activation_by h a) { frame = f })) (state_by h s)) (same.after (answer_of x) a.frame)
  same_handed Handing x s = refl

  same_waiting : (asker : Asker A) (s : State A) → state_by h (waiting asker s) ≡ waiting (asker_by h asker) (state_by h s)
  same_waiting (Asked a) s = refl
  same_waiting Handing s = refl

  pub same_gives : (asker : Asker A) (v : Value) (s : State A) → next_kept h (gives_to K asker v s) ≡ gives_to L (asker_by h asker) v (state_by h s)
  same_gives asker v s = ap (λ t. quiet t) (same_handed asker (hand.Gives v) s)

  pub same_throws : (builtins : Builtins) (asker : Asker A) (e : ErrorKind) (s : State A) → next_kept h (throws_to K builtins asker e s) ≡ throws_to L builtins (asker_by h asker) e (state_by h s)
  same_throws builtins asker e s = ap (λ t. quiet t) (same_handed asker _ (with_stores (with_error builtins e s.stores) s))

  pub same_given : (builtins : Builtins) (a : Activation A) (g : Given) (s : State A) → next_kept h (given_to K builtins a g s) ≡ given_to L builtins (activation_by h a) g (state_by h s)
  same_given builtins a (given.Answer answer) s = ap (λ f. quiet (pushed (Body (record (activation_by h a) { frame = f })) (state_by h s))) (same.after answer a.frame)
  same_given builtins a (given.Throw e) s = same_throws builtins (Asked a) e s
  same_given builtins a (given.OutOfProfile r) s = refl
  same_given builtins a (given.Limit w) s = refl

  same_do : (d : Due) (asker : Asker A) (s : State A) → next_kept h (quiet (pushed (Do d) (waiting asker s))) ≡ quiet (pushed (Do d) (waiting (asker_by h asker) (state_by h s)))
  same_do d asker s = ap (λ t. quiet (pushed (Do d) t)) (same_waiting asker s)

  module _ (setup : Setup) where
    same_begun : (b : BodyId) (parent : ScopeId) (this : Option Value) (f home : Value) (arguments : List Value) (end : BodyEnd) (s : State A) → state_by h (begun K setup b parent this f home arguments end s) ≡ begun L setup b parent this f home arguments end (state_by h s)
    same_begun b parent this f home arguments end s =
        ap (λ x. pushed (Body (record { frame = x; arguments = arguments; scope = next_scope s.stores; end = end })) (with_stores (with_parameters setup.code b parent this f home s.stores) (state_by h s))) (same.begin b (next_scope s.stores))

    same_begin : (flow : Flow) (b : BodyId) (parent : ScopeId) (this : Option Value) (f home : Value) (arguments : List Value) (end : BodyEnd) (s : State A) → next_kept h (row_begin K setup flow b parent this f home arguments end s) ≡ row_begin L setup flow b parent this f home arguments end (state_by h s)
    same_begin flows.Plain b parent this f home arguments end s = ap (λ t. quiet t) (same_begun b parent this f home arguments end s)
    same_begin flows.Async b parent this f home arguments end s = refl
    same_begin flows.Generator b parent this f home arguments end s = refl

    same_body_call : (asker : Asker A) (f this : Value) (arguments : List Value) (b : BodyId) (parent : ScopeId) (home : Value) (s : State A) → next_kept h (row_body_call K setup asker f this arguments b parent home s) ≡ row_body_call L setup (asker_by h asker) f this arguments b parent home (state_by h s)
    same_body_call (Asked a) f this arguments b parent home s = refl
    same_body_call Handing f this arguments b parent home s = same_begin (flow_at setup.code b) b parent (Some this) f home arguments _ s

    same_closure : (t : Bool) (asker : Asker A) (f this : Value) (arguments : List Value) (b : BodyId) (parent : ScopeId) (home : Value) (s : State A) → next_kept h (row_closure K setup t asker f this arguments b parent home s) ≡ row_closure L setup t (asker_by h asker) f this arguments b parent home (state_by h s)
    same_closure true asker f this arguments b parent home s = same_throws setup.builtins asker (TypeError 7) s
    same_closure false asker f this arguments b parent home s = same_body_call asker f this arguments b parent home s

    same_native : (asker : Asker A) (o : NativeOut) (s : State A) → next_kept h (row_native K setup asker o s) ≡ row_native L setup (asker_by h asker) o (state_by h s)
    same_native asker (Gives v) s = same_gives asker v s
    same_native asker (Throws e) s = same_throws setup.builtins asker e s
    same_native asker (OutOfProfile r) s = refl
    same_native asker (Exits status) s = refl
    same_native asker (Prints line) s =
        ap (λ t. On (record { adds = Print line ∷ []; state = t })) (same_handed asker (hand.Gives values.Undefined) (with_stores (with_texts (with_text s.stores.texts.texts line) s.stores) s))

    same_act : (oracle : Oracle) (asker : Asker A) (act : Act) (s : State A) → next_kept h (row_act K setup oracle asker act s) ≡ row_act L setup oracle (asker_by h asker) act (state_by h s)
    same_act oracle asker (Give v) s = same_gives asker v s
    same_act oracle asker (Refuse e) s = same_throws setup.builtins asker e s
    same_act oracle asker (Leave r) s = refl
    same_act oracle asker (Invoke callee this arguments) s = same_do (Call callee this arguments) asker s
    same_act oracle asker (MakeBound o this arguments) s = same_gives asker _ (bound_made K setup o this arguments s)
    same_act oracle asker Execution s = same_gives asker _ s
    same_act oracle asker Trigger s = same_gives asker _ s
    same_act oracle asker Later s = refl

    same_call_as : (oracle : Oracle) (asker : Asker A) (f this : Value) (arguments : List Value) (c : Callee) (s : State A) → next_kept h (call_as K setup oracle asker f this arguments c s) ≡ call_as L setup oracle (asker_by h asker) f this arguments c (state_by h s)
    same_call_as oracle asker f this arguments NotCallable s = same_throws setup.builtins asker (TypeError 0) s
    same_call_as oracle asker f this arguments (OfProgram b scope home) s = same_closure (is_class (kind_at setup.code b)) asker f this arguments b scope home s
    same_call_as oracle asker f this arguments (OfBundle b) s = same_body_call asker f this arguments b setup.builtins.bundle _ s
    same_call_as oracle asker f this arguments (OfBound callee this' first) s = same_do (Call callee this' (first ++ arguments)) asker s
    same_call_as oracle asker f this arguments (OfStore o) s = same_native asker (setup.builtins.native o this arguments None s.stores).out (with_stores (setup.builtins.native o this arguments None s.stores).stores s)
    same_call_as oracle asker f this arguments (OfMachine c) s = same_act oracle asker (decide setup s.parts s.stores c this arguments) s
    same_call_as oracle asker f this arguments OfLater s = refl

    pub same_call : (oracle : Oracle) (asker : Asker A) (f this : Value) (arguments : List Value) (s : State A) → next_kept h (row_call K setup oracle asker f this arguments s) ≡ row_call L setup oracle (asker_by h asker) f this arguments (state_by h s)
    same_call oracle asker f this arguments s = same_call_as oracle asker f this arguments (callee_of setup s.parts f) s

    -- ---- constructions

    same_construct_begun : (t : Bool) (f target : ObjId) (arguments : List Value) (b : BodyId) (parent : ScopeId) (home : Value) (s : State A) → state_by h (construct_begun K setup t f target arguments b parent home s) ≡ construct_begun L setup t f target arguments b parent home (state_by h s)
    same_construct_begun true f target arguments b parent home s = same_begun b parent None _ home arguments _ _
    same_construct_begun false f target arguments b parent home s = same_begun b parent _ _ home arguments _ _

    same_body_construct : (asker : Asker A) (f target : ObjId) (arguments : List Value) (b : BodyId) (parent : ScopeId) (home : Value) (s : State A) → next_kept h (row_body_construct K setup asker f target arguments b parent home s) ≡ row_body_construct L setup (asker_by h asker) f target arguments b parent home (state_by h s)
    same_body_construct (Asked a) f target arguments b parent home s = refl
    same_body_construct Handing f target arguments b parent home s = ap (λ t. quiet t) (same_construct_begun (is_derived (kind_at setup.code b)) f target arguments b parent home s)

    same_bound_construct : (asker : Asker A) (f target : ObjId) (arguments : List Value) (callee : Value) (s : State A) → next_kept h (row_bound_construct K setup asker f target arguments callee s) ≡ row_bound_construct L setup (asker_by h asker) f target arguments callee (state_by h s)
    same_bound_construct asker f target arguments (values.Object callee) s = same_do _ asker s
    same_bound_construct asker f target arguments v s = same_throws setup.builtins asker (TypeError 1) s

    same_construct_as : (asker : Asker A) (f target : ObjId) (arguments : List Value) (c : Callee) (s : State A) → next_kept h (construct_as K setup asker f target arguments c s) ≡ construct_as L setup (asker_by h asker) f target arguments c (state_by h s)
    same_construct_as asker f target arguments (OfProgram b scope home) s = same_body_construct asker f target arguments b scope home s
    same_construct_as asker f target arguments (OfBound callee this first) s = same_bound_construct asker f target (first ++ arguments) callee s
    same_construct_as asker f target arguments (OfStore o) s = same_native asker (setup.builtins.native o values.Undefined arguments (Some target) s.stores).out (with_stores (setup.builtins.native o values.Undefined arguments (Some target) s.stores).stores s)
    same_construct_as asker f target arguments (OfMachine c) s = refl
    same_construct_as asker f target arguments NotCallable s = same_throws setup.builtins asker (TypeError 1) s
    same_construct_as asker f target arguments (OfBundle b) s = same_throws setup.builtins asker (TypeError 1) s
    same_construct_as asker f target arguments OfLater s = same_throws setup.builtins asker (TypeError 1) s

    same_construct_if : (t : Bool) (asker : Asker A) (f target : ObjId) (arguments : List Value) (s : State A) → next_kept h (construct_if K setup t asker f target arguments s) ≡ construct_if L setup t (asker_by h asker) f target arguments (state_by h s)
    same_construct_if true asker f target arguments s = same_construct_as asker f target arguments (callee_at setup s.parts f) s
    same_construct_if false asker f target arguments s = same_throws setup.builtins asker (TypeError 1) s

    pub same_construct : (asker : Asker A) (f target : ObjId) (arguments : List Value) (s : State A) → next_kept h (row_construct K setup asker f target arguments s) ≡ row_construct L setup (asker_by h asker) f target arguments (state_by h s)
    same_construct asker f target arguments s = same_construct_if (is_constructor setup s.parts f) asker f target arguments s

    pub same_new : (a : Activation A) (v : Value) (arguments : List Value) (s : State A) → next_kept h (row_new K setup a v arguments s) ≡ row_new L setup (activation_by h a) v arguments (state_by h s)
    same_new a (values.Object f) arguments s = same_construct (Asked a) f f arguments s
    same_new a v arguments s = same_throws setup.builtins (Asked a) (TypeError 1) s

    same_parent : (a : Activation A) (f : ObjId) (p : Option ObjId) (arguments : List Value) (s : State A) → next_kept h (row_parent K setup a f p arguments s) ≡ row_parent L setup (activation_by h a) f p arguments (state_by h s)
    same_parent a f (Some parent) arguments s = same_construct (Asked a) parent _ arguments s
    same_parent a f None arguments s = same_throws setup.builtins (Asked a) (TypeError 1) s

    pub same_super : (a : Activation A) (v : Value) (arguments : List Value) (s : State A) → next_kept h (row_super K setup a v arguments s) ≡ row_super L setup (activation_by h a) v arguments (state_by h s)
    same_super a (values.Object f) arguments s = same_parent a f (proto_of s.stores.objects f) arguments s
    same_super a v arguments s = same_throws setup.builtins (Asked a) (TypeError 1) s
