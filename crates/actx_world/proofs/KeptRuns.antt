-- Runs, with bodies kept in two ways.
use Rattle.std.proofs.Common.{◌≡◌, ℕ, zero, suc, nat_lt, Bool, true, false, List, [], ◌∷◌, ◌++◌, Option, Some, None, if◌then◌else◌, refl, sym, ap, ◌∙◌}
use Rattle.std.specs.Option.{option_map}
use Rattle.std.proofs.lemmas.List.{append-nil, append_assoc}
use Rattle.std.proofs.Math.Path.{fun_ext}
use Rattle.actx_text.specs.declared.body_id.BodyId.{BodyId}
use Rattle.actx_event.specs.declared.event.Event.{Event}
use Rattle.actx_event.specs.declared.bracket.Bracket.{Bracket}
use Rattle.actx_event.specs.declared.bracket.Bracket.TheVariants.{Running}
use Rattle.actx_value.specs.declared.ids.ObjId.{ObjId}
use Rattle.actx_value.specs.declared.ids.ScopeId.{ScopeId}
use Rattle.actx_value.specs.declared.value.Value.{Value}
use Rattle.actx_value.specs.declared.value.Value.TheVariants as values
use Rattle.actx_value.specs.declared.request.Request.{Request}
use Rattle.actx_value.specs.declared.request.Request.TheVariants as requests
use Rattle.actx_value.specs.declared.operator.UnaryOp.TheVariants as unary
use Rattle.actx_value.specs.declared.operator.BinaryOp.TheVariants as binary
use Rattle.actx_value.specs.declared.error_kind.ErrorKind.TheVariants.{TypeError, ReferenceError}
use Rattle.actx_value.specs.declared.end.End.TheVariants as ends
use Rattle.actx_value.specs.declared.end.Which.TheVariants.{Calls}
use Rattle.actx_cells.specs.Scopes.{cell_of}
use Rattle.actx_code.specs.Codes.{Lists}
use Rattle.actx_request.specs.Outcomes.{Stores, Outcome}
use Rattle.actx_request.specs.Answers.{outcome_of}
use Rattle.actx_want.specs.Run.{Wants, Asks, Returns, Throws}
use Rattle.actx_want.specs.Bodies.{wants_after}
use Rattle.actx_world.specs.declared.handed.Handed.{Handed}
use Rattle.actx_world.specs.declared.handed.Handed.TheVariants as hand
use Rattle.actx_world.specs.declared.handed.BodyEnd.{BodyEnd}
use Rattle.actx_world.specs.declared.handed.BodyEnd.TheVariants as after
use Rattle.actx_world.specs.Setup.{Bodies, Setup}
use Rattle.actx_world.specs.Parts.{Part, Walk}
use Rattle.actx_world.specs.State.{Activation, Due, Main, Call, Construct, Item, Body, Do, Reply, Hooks, Close, State, with_stores, with_parts}
use Rattle.actx_world.specs.Moves.{Oracle, Next, On, TurnDue, Over, Unbuilt, Asked, Handing, quiet, outcome_to}
use Rattle.actx_world.specs.Functions.{Heritage, Extends, Refuses, Leaves, heritage_of}
use Rattle.actx_world.specs.Walks.{Walked, Walkable, LaterWalk, NotIterable, walked_as, Stepped, NoneLeft, walk_step, walk_part, with_walk, opened_walk, open_as, row_stepped, next_of_part, close_of_part}
use Rattle.actx_world.specs.Looks.{type_of, is_in, is_instance}
use Rattle.actx_world.specs.Wishes.{class_of, row_request, this_or_error, end_of_constructor, end_of_derived, row_return, row_wants}
use Rattle.actx_world.specs.Rows.{main_events, main_activation, main_begun, row_do, passed_on, closer, row_closing, closing_by, is_quiet, row_body, row_item, popped, next_by, next}
use Rattle.actx_world.specs.Ends.{Most, Ended, depth_of, above_in_stores, above_past_stores, first_above, ended_by}
use Rattle.actx_world.specs.Worlds.{walked, World, moved_by, next_of, end_of, step, world}
use Rattle.actx_world.specs.Rests.{first, after as later, from, rests, replays, rest_of}
use Rattle.actx_world.specs.Keeping.{activation_by, item_by, stack_by, state_by, next_kept, world_by, StandsFor}
use Rattle.actx_world.proofs.KeptCalls.{same_handed, same_gives, same_throws, same_given, same_call, same_construct, same_new, same_super}

module _ {A B : Type 0} (K : Bodies A) (L : Bodies B) (h : A → B) (same : StandsFor K L h) (setup : Setup) where
  same_outcome : (a : Activation A) (o : Outcome) (s : State A) → next_kept h (outcome_to K setup.builtins a o s) ≡ outcome_to L setup.builtins (activation_by h a) o (state_by h s)
  same_outcome a o s = same_given K L h same setup.builtins a o.given (with_stores o.stores s)

  -- ---- walks

  same_open : (a : Activation A) (v : Value) (w : Walked) (s : State A) → next_kept h (open_as K setup a v w s) ≡ open_as L setup (activation_by h a) v w (state_by h s)
  same_open a v Walkable s = same_gives K L h same (Asked a) _ (opened_walk K setup v s)
  same_open a v LaterWalk s = refl
  same_open a v NotIterable s = same_throws K L h same setup.builtins (Asked a) (TypeError 2) s

  same_stepped : (a : Activation A) (walk of : Value) (t : Stepped) (s : State A) → next_kept h (row_stepped K setup a walk of t s) ≡ row_stepped L setup (activation_by h a) walk of t (state_by h s)
  same_stepped a walk of (Stepped.Item v place stores) s = same_gives K L h same (Asked a) v (with_parts (with_walk walk of place s.parts) (with_stores stores s))
  same_stepped a walk of NoneLeft s = same_gives K L h same (Asked a) _ s

  same_next_walk : (a : Activation A) (walk : Value) (p : Part) (s : State A) → next_kept h (next_of_part K setup a walk p s) ≡ next_of_part L setup (activation_by h a) walk p (state_by h s)
  same_next_walk a walk (Walk of place) s = same_stepped a walk of (walk_step setup.builtins.home s.stores of place) s
  same_next_walk a walk (Part.Coroutine coroutine) s = refl
  same_next_walk a walk part s = same_gives K L h same (Asked a) _ s

  same_close_walk : (a : Activation A) (p : Part) (s : State A) → next_kept h (close_of_part K setup a p s) ≡ close_of_part L setup (activation_by h a) p (state_by h s)
  same_close_walk a (Part.Coroutine coroutine) s = refl
  same_close_walk a part s = same_gives K L h same (Asked a) _ s

  -- ---- requests

  same_class : (a : Activation A) (b : BodyId) (scope : ScopeId) (x : Heritage) (s : State A) → next_kept h (class_of K setup a b scope x s) ≡ class_of L setup (activation_by h a) b scope x (state_by h s)
  same_class a b scope (Extends c p) s = same_gives K L h same (Asked a) _ _
  same_class a b scope (Refuses e) s = same_throws K L h same setup.builtins (Asked a) e s
  same_class a b scope (Leaves r) s = refl

  same_request : (oracle : Oracle) (a : Activation A) (r : Request) (list : List Value) (s : State A) → next_kept h (row_request K setup oracle a r list s) ≡ row_request L setup oracle (activation_by h a) r list (state_by h s)
  same_request oracle a (requests.Unary unary.TypeOf v) list s = same_outcome a (type_of setup s.parts v s.stores) s
  same_request oracle a (requests.Binary binary.In v w) list s = same_outcome a (is_in setup v w s.stores) s
  same_request oracle a (requests.Binary binary.InstanceOf v w) list s = same_outcome a (is_instance setup s.parts v w s.stores) s
  same_request oracle a (requests.Function b scope) list s = same_gives K L h same (Asked a) _ _
  same_request oracle a (requests.Method b scope home) list s = same_gives K L h same (Asked a) _ _
  same_request oracle a (requests.Class b scope parent) list s = same_class a b scope (heritage_of setup s.parts s.stores parent) s
  same_request oracle a (requests.Call callee this) list s = same_call K L h same setup oracle (Asked a) callee this list s
  same_request oracle a (requests.New callee) list s = same_new K L h same setup a callee list s
  same_request oracle a (requests.SuperCall callee) list s = same_super K L h same setup a callee list s
  same_request oracle a (requests.Open v) list s = same_open a v (walked_as s.stores v) s
  same_request oracle a (requests.Next walk) list s = same_next_walk a walk (walk_part s.parts walk) s
  same_request oracle a (requests.Close walk) list s = same_close_walk a (walk_part s.parts walk) s
  same_request oracle a requests.Begin list s = same_gives K L h same (Asked a) _ s
  same_request oracle a (requests.Yield v) list s = same_gives K L h same (Asked a) _ s
  same_request oracle a (requests.Await v) list s = same_gives K L h same (Asked a) _ s
  same_request oracle a r list s = same_outcome a (outcome_of r list a.arguments setup.builtins.home s.stores) s

  -- ---- ends of bodies

  same_this : (o : Option Value) (s : State A) → next_kept h (this_or_error K setup o s) ≡ this_or_error L setup o (state_by h s)
  same_this (Some this) s = refl
  same_this None s = same_throws K L h same setup.builtins Handing (ReferenceError 0) s

  same_constructor : (this : ObjId) (v : Value) (s : State A) → next_kept h (end_of_constructor K setup this v s) ≡ end_of_constructor L setup this v (state_by h s)
  same_constructor this (values.Object o) s = refl
  same_constructor this v s = refl

  same_derived : (scope : ScopeId) (v : Value) (s : State A) → next_kept h (end_of_derived K setup scope v s) ≡ end_of_derived L setup scope v (state_by h s)
  same_derived scope (values.Object o) s = refl
  same_derived scope values.Undefined s = same_this (cell_of s.stores.cells.scopes 0 scope) s
  same_derived scope v s = same_throws K L h same setup.builtins Handing (TypeError 10) s

  same_return : (end : BodyEnd) (scope : ScopeId) (v : Value) (s : State A) → next_kept h (row_return K setup end scope v s) ≡ row_return L setup end scope v (state_by h s)
  same_return after.Plain scope v s = refl
  same_return (after.Constructor this) scope v s = same_constructor this v s
  same_return after.DerivedConstructor scope v s = same_derived scope v s

  same_wants : (oracle : Oracle) (a : Activation A) (w : Wants) (s : State A) → next_kept h (row_wants K setup oracle a w s) ≡ row_wants L setup oracle (activation_by h a) w (state_by h s)
  same_wants oracle a (Asks r list) s = same_request oracle a r list s
  same_wants oracle a (Returns v) s = same_return a.end a.scope v s
  same_wants oracle a (Throws v) s = refl

  -- ---- by the top item

  same_body : (oracle : Oracle) (a : Activation A) (x : Option Handed) (s : State A) → next_kept h (row_body K setup oracle a x s) ≡ row_body L setup oracle (activation_by h a) x (state_by h s)
  same_body oracle a (Some x) s = ap (λ t. quiet t) (same_handed K L h same (Asked a) x s)
  same_body oracle a None s = same_wants oracle a (K.wants a.frame) s ∙ ap (λ w. row_wants L setup oracle (activation_by h a) w (state_by h s)) (sym (same.wants a.frame))

  same_due : (oracle : Oracle) (d : Due) (s : State A) → next_kept h (row_do K setup oracle d s) ≡ row_do L setup oracle d (state_by h s)
  same_due oracle Main s =
      ap (λ f. On (record { adds = main_events; state = main_begun L setup (record (main_activation L setup) { frame = f }) (state_by h s) }))
      (same.begin (record { 0 = 0 }) setup.builtins.global)
  same_due oracle (Call callee this arguments) s = same_call K L h same setup oracle Handing callee this arguments s
  same_due oracle (Construct callee target arguments) s = same_construct K L h same setup Handing callee target arguments s

  same_passed : (below : List (Item A)) (x : Option Handed) → passed_on below x ≡ passed_on (stack_by h below) x
  same_passed [] x = refl
  same_passed (i ∷ rest) x = refl

  same_closing : (b : Bracket) (x : Option Handed) (s : State A) → next_kept h (row_closing b x s) ≡ row_closing b x (state_by h s)
  same_closing b x s = ap (λ y. On (record { adds = closer b ∷ []; state = record (state_by h s) { hand = y } })) (same_passed s.stack x)

  same_close : (b : Bracket) (x : Option Handed) (below : List (Item A)) (s : State A) → next_kept h (closing_by b x below s) ≡ closing_by b x (stack_by h below) (state_by h s)
  same_close (Running i) (Some (hand.Throws v)) [] s = refl
  same_close b x below s = same_closing b x s

  same_item : (oracle : Oracle) (i : Item A) (x : Option Handed) (s : State A) → next_kept h (row_item K setup oracle i x s) ≡ row_item L setup oracle (item_by h i) x (state_by h s)
  same_item oracle (Body a) x s = same_body oracle a x s
  same_item oracle (Do d) x s = same_due oracle d s
  same_item oracle (Reply u) x s = refl
  same_item oracle (Hooks calls held) x s = refl
  same_item oracle (Close b marked) x s = same_close b x s.stack s

  same_idle : (t : Bool) → next_kept h (if t then Over ends.Finished else Unbuilt) ≡ (if t then Over ends.Finished else Unbuilt)
  same_idle true = refl
  same_idle false = refl

  same_next_by : (oracle : Oracle) (stack : List (Item A)) (x : Option Handed) (s : State A) → next_kept h (next_by K setup oracle stack x s) ≡ next_by L setup oracle (stack_by h stack) x (state_by h s)
  same_next_by oracle [] x s = same_idle (is_quiet s)
  same_next_by oracle (i ∷ rest) x s = same_item oracle i x (popped rest s)

  pub same_next : (oracle : Oracle) (s : State A) → next_kept h (next K setup oracle s) ≡ next L setup oracle (state_by h s)
  same_next oracle s = same_next_by oracle s.stack s.hand s

-- ---- ends

module _ {A B : Type 0} (h : A → B) where
  same_depth : (stack : List (Item A)) → depth_of (stack_by h stack) ≡ depth_of stack
  same_depth [] = refl
  same_depth (Body a ∷ rest) = ap suc (same_depth rest)
  same_depth (Do d ∷ rest) = same_depth rest
  same_depth (Reply u ∷ rest) = same_depth rest
  same_depth (Hooks calls held ∷ rest) = same_depth rest
  same_depth (Close b marked ∷ rest) = ap suc (same_depth rest)

  same_above : (most : Most) (s : State A) (es : List Event) → first_above most (state_by h s) es ≡ first_above most s es
  same_above most s es = ap (λ n. if nat_lt most.calls n then Some Calls else above_in_stores s.stores (above_past_stores most s es)) (same_depth s.stack)

  same_ended : (most : Most) (s : State A) (es : List Event) (n : Next A) → ended_by most (state_by h s) es (next_kept h n) ≡ ended_by most s es n
  same_ended most s es (On m) = ap (λ w. option_map (λ x. Ended.Ends (ends.Limit x)) w) (same_above most m.state (m.adds ++ es))
  same_ended most s es TurnDue = refl
  same_ended most s es (Over e) = refl
  same_ended most s es Unbuilt = refl

  same_moved : (e : Option Ended) (n : Next A) (w : World A) → world_by h (moved_by e n w) ≡ moved_by e (next_kept h n) (world_by h w)
  same_moved None (On m) w = refl
  same_moved None TurnDue w = refl
  same_moved None (Over e) w = refl
  same_moved None Unbuilt w = refl
  same_moved (Some e) n w = refl

module _ {A B : Type 0} (K : Bodies A) (L : Bodies B) (h : A → B) (same : StandsFor K L h) (setup : Setup) (most : Most) where
  same_step : (w : World A) → world_by h (step K setup most w) ≡ step L setup most (world_by h w)
  same_step w =
      same_moved h (end_of K setup most w) (next_of K setup most w) w
      ∙ (ap (λ e. moved_by e (next_kept h (next_of K setup most w)) (world_by h w)) (sym (same_ended h most w.state w.events (next_of K setup most w)))
      ∙ ap (λ n. moved_by (ended_by most (state_by h w.state) w.events n) n (world_by h w)) (same_next K L h same setup (walked w.events) w.state))

  pub same_world : (stores : Stores) (k : ℕ) → world_by h (world K setup most stores k) ≡ world L setup most stores k
  same_world stores zero = refl
  same_world stores (suc k) = same_step (world K setup most stores k) ∙ ap (step L setup most) (same_world stores k)

-- ---- a replay does what its rest does

replays_rest : (code : Lists) → StandsFor (replays code) (rests code) (rest_of code)
unfolding first later from
replays_rest code = record {
  wants = λ p. ap (wants_after code p.body p.scope) (append-nil p.answers);
  after = λ a p. fun_ext (λ more. ap (wants_after code p.body p.scope) (append_assoc p.answers (a ∷ []) more));
  begin = λ b s. refl;
}

pub replays_are_rests : (setup : Setup) (most : Most) (stores : Stores) (k : ℕ) → world_by (rest_of setup.code) (world (replays setup.code) setup most stores k) ≡ world (rests setup.code) setup most stores k
replays_are_rests setup most stores k = same_world (replays setup.code) (rests setup.code) (rest_of setup.code) (replays_rest setup.code) setup most stores k
