-- Every move keeps the brackets, and a stack that stands well.
use Rattle.std.proofs.Common.{nat_lt, ◌≡◌, ℕ, zero, suc, ◌+◌, Bool, true, false, List, [], ◌∷◌, ◌++◌, Option, Some, None, if◌then◌else◌, length, reverse, refl, sym, ap, subst, ◌∙◌, arith}
use Rattle.std.proofs.lemmas.List.{append_assoc, reverse-reverse}
use Rattle.std.specs.Option.{option_map, option_or}
use Rattle.actx_text.specs.declared.body_id.BodyId.{BodyId}
use Rattle.actx_event.specs.declared.event.Event.{Event}
use Rattle.actx_event.specs.declared.bracket.Bracket.{Bracket}
use Rattle.actx_event.specs.declared.bracket.Open.{Open}
use Rattle.actx_event.specs.Brackets.{opened}
use Rattle.actx_event.specs.Valid.{first_broken, left_open, failure_before, IsValid}
use Rattle.actx_event.specs.declared.bracket.Bracket.TheVariants.{Running}
use Rattle.actx_value.specs.declared.ids.ObjId.{ObjId}
use Rattle.actx_value.specs.declared.ids.ScopeId.{ScopeId}
use Rattle.actx_value.specs.declared.value.Value.{Value}
use Rattle.actx_value.specs.declared.value.Value.TheVariants as values
use Rattle.actx_value.specs.declared.request.Request.{Request}
use Rattle.actx_value.specs.declared.request.Request.TheVariants as requests
use Rattle.actx_value.specs.declared.operator.UnaryOp.TheVariants as unary
use Rattle.actx_value.specs.declared.operator.BinaryOp.TheVariants as binary
use Rattle.actx_value.specs.declared.error_kind.ErrorKind.TheVariants.{TypeError, ReferenceError}
use Rattle.actx_value.specs.declared.end.End.TheVariants as ends
use Rattle.actx_value.specs.declared.end.Which.{Which}
use Rattle.actx_value.specs.declared.end.Which.TheVariants.{Turns}
use Rattle.actx_cells.specs.Scopes.{cell_of}
use Rattle.actx_request.specs.Outcomes.{Stores, Outcome}
use Rattle.actx_request.specs.Answers.{outcome_of}
use Rattle.actx_want.specs.Run.{Wants, Asks, Returns, Throws}
use Rattle.actx_world.specs.declared.handed.Handed.{Handed}
use Rattle.actx_world.specs.declared.handed.Handed.TheVariants as hand
use Rattle.actx_world.specs.declared.handed.BodyEnd.{BodyEnd}
use Rattle.actx_world.specs.declared.handed.BodyEnd.TheVariants as after
use Rattle.actx_world.specs.Setup.{Bodies, Setup}
use Rattle.actx_world.specs.Parts.{Part, Walk}
use Rattle.actx_world.specs.State.{Activation, Due, Main, Call, Construct, Item, Body, Do, Reply, Hooks, Close, State, with_stores, with_parts}
use Rattle.actx_world.specs.Moves.{Oracle, Next, On, TurnDue, Over, Unbuilt, Asked, Handing, outcome_to}
use Rattle.actx_world.specs.Functions.{Heritage, Extends, Refuses, Leaves, heritage_of}
use Rattle.actx_world.specs.Walks.{Walked, Walkable, LaterWalk, NotIterable, walked_as, Stepped, NoneLeft, walk_step, walk_part, with_walk, opened_walk, open_as, row_stepped, next_of_part, close_of_part}
use Rattle.actx_world.specs.Looks.{type_of, is_in, is_instance}
use Rattle.actx_world.specs.Wishes.{class_of, row_request, this_or_error, end_of_constructor, end_of_derived, row_return, row_wants}
use Rattle.actx_world.specs.Rows.{main_events, main_activation, row_main, row_do, closing_by, is_quiet, row_body, row_item, popped, next_by}
use Rattle.actx_world.specs.Ends.{Most, Ended, Ends, ended_by, first_above}
use Rattle.actx_world.specs.Worlds.{walked, World, moved_by, next_of, end_of, world}
use Rattle.actx_world.specs.Laws.{brackets, closings, NestsAfter, IsValidAfter, IsGround, IsBelow, StandsWell}
use Rattle.actx_world.proofs.Facts.{Nested, Stands, Ready, Keeps, Begins, same_brackets, body_on, hand_on, keeps_closing, keeps_handed, keeps_gives, keeps_throws, keeps_given}
use Rattle.actx_world.proofs.CallRows.{keeps_call, keeps_construct, keeps_new, keeps_super}

-- what a move keeps, whatever an end is
abbrev Moves : {B : Type 0} → List Event → Next B → Type 0
Moves es (On m) = Stands m.state.stack m.state.hand (m.adds ++ es)
Moves es TurnDue = Unit {0}
Moves es (Over e) = Unit {0}
Moves es Unbuilt = Unit {0}

module _ {B : Type 0} (bodies : Bodies B) (setup : Setup) where
  keeps_outcome : (a : Activation B) (o : Outcome) (s : State B) (es : List Event) → Ready s.stack s.hand es → Keeps es (outcome_to bodies setup.builtins a o s)
  keeps_outcome a o s es n = keeps_given bodies setup.builtins a o.given (with_stores o.stores s) es n

  -- ---- walks

  keeps_open : (a : Activation B) (v : Value) (w : Walked) (s : State B) (es : List Event) → Ready s.stack s.hand es → Keeps es (open_as bodies setup a v w s)
  keeps_open a v Walkable s es n = keeps_gives bodies (Asked a) _ (opened_walk bodies setup v s) es n
  keeps_open a v LaterWalk s es n = tt
  keeps_open a v NotIterable s es n = keeps_throws bodies setup.builtins (Asked a) (TypeError 2) s es n

  keeps_stepped : (a : Activation B) (walk of : Value) (t : Stepped) (s : State B) (es : List Event) → Ready s.stack s.hand es → Keeps es (row_stepped bodies setup a walk of t s)
  keeps_stepped a walk of (Stepped.Item v place stores) s es n = keeps_gives bodies (Asked a) v (with_parts (with_walk walk of place s.parts) (with_stores stores s)) es n
  keeps_stepped a walk of NoneLeft s es n = keeps_gives bodies (Asked a) _ s es n

  keeps_next_walk : (a : Activation B) (walk : Value) (p : Part) (s : State B) (es : List Event) → Ready s.stack s.hand es → Keeps es (next_of_part bodies setup a walk p s)
  keeps_next_walk a walk (Walk of place) s es n = keeps_stepped a walk of (walk_step setup.builtins.home s.stores of place) s es n
  keeps_next_walk a walk (Part.Coroutine coroutine) s es n = tt
  keeps_next_walk a walk part s es n = keeps_gives bodies (Asked a) _ s es n

  keeps_close_walk : (a : Activation B) (p : Part) (s : State B) (es : List Event) → Ready s.stack s.hand es → Keeps es (close_of_part bodies setup a p s)
  keeps_close_walk a (Part.Coroutine coroutine) s es n = tt
  keeps_close_walk a part s es n = keeps_gives bodies (Asked a) _ s es n

  -- ---- requests

  keeps_class : (a : Activation B) (b : BodyId) (scope : ScopeId) (h : Heritage) (s : State B) (es : List Event) → Ready s.stack s.hand es → Keeps es (class_of bodies setup a b scope h s)
  keeps_class a b scope (Extends c p) s es n = body_on _ s.hand s.hand s.stack es n
  keeps_class a b scope (Refuses e) s es n = keeps_throws bodies setup.builtins (Asked a) e s es n
  keeps_class a b scope (Leaves r) s es n = tt

  keeps_request : (oracle : Oracle) (a : Activation B) (r : Request) (list : List Value) (s : State B) (es : List Event) → Ready s.stack s.hand es → Keeps es (row_request bodies setup oracle a r list s)
  keeps_request oracle a (requests.Unary unary.TypeOf v) list s es n = keeps_outcome a (type_of setup s.parts v s.stores) s es n
  keeps_request oracle a (requests.Binary binary.In v w) list s es n = keeps_outcome a (is_in setup v w s.stores) s es n
  keeps_request oracle a (requests.Binary binary.InstanceOf v w) list s es n = keeps_outcome a (is_instance setup s.parts v w s.stores) s es n
  keeps_request oracle a (requests.Function b scope) list s es n = body_on _ s.hand s.hand s.stack es n
  keeps_request oracle a (requests.Method b scope home) list s es n = body_on _ s.hand s.hand s.stack es n
  keeps_request oracle a (requests.Class b scope parent) list s es n = keeps_class a b scope (heritage_of setup s.parts s.stores parent) s es n
  keeps_request oracle a (requests.Call callee this) list s es n = keeps_call bodies setup oracle (Asked a) callee this list s es n
  keeps_request oracle a (requests.New callee) list s es n = keeps_new bodies setup a callee list s es n
  keeps_request oracle a (requests.SuperCall callee) list s es n = keeps_super bodies setup a callee list s es n
  keeps_request oracle a (requests.Open v) list s es n = keeps_open a v (walked_as s.stores v) s es n
  keeps_request oracle a (requests.Next walk) list s es n = keeps_next_walk a walk (walk_part s.parts walk) s es n
  keeps_request oracle a (requests.Close walk) list s es n = keeps_close_walk a (walk_part s.parts walk) s es n
  keeps_request oracle a requests.Begin list s es n = keeps_gives bodies (Asked a) _ s es n
  keeps_request oracle a (requests.Yield v) list s es n = keeps_gives bodies (Asked a) _ s es n
  keeps_request oracle a (requests.Await v) list s es n = keeps_gives bodies (Asked a) _ s es n
  keeps_request oracle a r list s es n = keeps_outcome a (outcome_of r list a.arguments setup.builtins.home s.stores) s es n

  -- ---- ends of bodies

  keeps_this : (o : Option Value) (s : State B) (es : List Event) → Ready s.stack s.hand es → Keeps es (this_or_error bodies setup o s)
  keeps_this (Some this) s es n = hand_on _ s.hand s.stack es n
  keeps_this None s es n = keeps_throws bodies setup.builtins Handing (ReferenceError 0) s es n

  keeps_constructor : (this : ObjId) (v : Value) (s : State B) (es : List Event) → Ready s.stack s.hand es → Keeps es (end_of_constructor bodies setup this v s)
  keeps_constructor this (values.Object o) s es n = hand_on _ s.hand s.stack es n
  keeps_constructor this v s es n = hand_on _ s.hand s.stack es n

  keeps_derived : (scope : ScopeId) (v : Value) (s : State B) (es : List Event) → Ready s.stack s.hand es → Keeps es (end_of_derived bodies setup scope v s)
  keeps_derived scope (values.Object o) s es n = hand_on _ s.hand s.stack es n
  keeps_derived scope values.Undefined s es n = keeps_this (cell_of s.stores.cells.scopes 0 scope) s es n
  keeps_derived scope v s es n = keeps_throws bodies setup.builtins Handing (TypeError 10) s es n

  keeps_return : (end : BodyEnd) (scope : ScopeId) (v : Value) (s : State B) (es : List Event) → Ready s.stack s.hand es → Keeps es (row_return bodies setup end scope v s)
  keeps_return after.Plain scope v s es n = hand_on _ s.hand s.stack es n
  keeps_return (after.Constructor this) scope v s es n = keeps_constructor this v s es n
  keeps_return after.DerivedConstructor scope v s es n = keeps_derived scope v s es n

  keeps_wants : (oracle : Oracle) (a : Activation B) (w : Wants) (s : State B) (es : List Event) → Ready s.stack s.hand es → Keeps es (row_wants bodies setup oracle a w s)
  keeps_wants oracle a (Asks r list) s es n = keeps_request oracle a r list s es n
  keeps_wants oracle a (Returns v) s es n = keeps_return a.end a.scope v s es n
  keeps_wants oracle a (Throws v) s es n = hand_on _ s.hand s.stack es n

  -- ---- by the top item

  keeps_body : (oracle : Oracle) (a : Activation B) (h : Option Handed) (s : State B) (es : List Event) → Ready s.stack s.hand es → Keeps es (row_body bodies setup oracle a h s)
  keeps_body oracle a (Some h) s es n = keeps_handed bodies (Asked a) h s es n
  keeps_body oracle a None s es n = keeps_wants oracle a (bodies.wants a.frame) s es n

  -- the main script, where nothing else stands
  abbrev main_bracket : Bracket
  main_bracket = Running (record { 0 = 1 })

  closes_alone : (b : Bracket) (marked : Bool) (stack : List (Item B)) → stack ≡ [] → IsGround (Close b marked ∷ stack)
  closes_alone b marked [] q = (tt, refl)
  closes_alone b marked (i ∷ rest) q = absurd cc

  keeps_main : (s : State B) (es : List Event) → s.stack ≡ [] → es ≡ [] → Keeps es (row_main bodies setup s)
  keeps_main s es q none = record {
    nested = same_brackets (Close main_bracket false ∷ []) (Body (main_activation bodies setup) ∷ Close main_bracket false ∷ s.stack) (main_events ++ es)
        (ap (λ stack. closings {B = B} (Close main_bracket false ∷ stack)) q)
        (subst (λ later. Nested {B = B} (Close main_bracket false ∷ []) (main_events ++ later)) (sym none) (record { open_ones = refl; nests = refl; unbroken = refl; made = (refl, tt) }));
    well = closes_alone main_bracket false s.stack q;
    begins = tt;
  }

  keeps_due : (oracle : Oracle) (d : Due) (s : State B) (es : List Event) → s.hand ≡ None → Nested s.stack es → IsBelow d s.stack → Begins (Do d ∷ s.stack) es → Keeps es (row_do bodies setup oracle d s)
  keeps_due oracle Main s es q n below begins = keeps_main s es below begins
  keeps_due oracle (Call callee this arguments) s es q n below begins = keeps_call bodies setup oracle Handing callee this arguments s es (record { nested = n; empty = q; ground = below })
  keeps_due oracle (Construct callee target arguments) s es q n below begins = keeps_construct bodies setup Handing callee target arguments s es (record { nested = n; empty = q; ground = below })

  keeps_close : (b : Bracket) (marked : Bool) (h : Option Handed) (below : List (Item B)) (s : State B) (es : List Event) → Stands (Close b marked ∷ s.stack) h es → Keeps es (closing_by b h below s)
  keeps_close (Running i) marked (Some (hand.Throws v)) [] s es n = tt
  keeps_close b marked h below s es n = keeps_closing b marked h s es n

  -- the brackets without an item that is none of them
  under_body : (a : Activation B) (stack : List (Item B)) (es : List Event) → Nested (Body a ∷ stack) es → Nested stack es
  under_body a stack es n = same_brackets (Body a ∷ stack) stack es refl n

  under_do : (d : Due) (stack : List (Item B)) (es : List Event) → Nested (Do d ∷ stack) es → Nested stack es
  under_do d stack es n = same_brackets (Do d ∷ stack) stack es refl n

  keeps_item : (oracle : Oracle) (i : Item B) (h : Option Handed) (s : State B) (es : List Event) → s.hand ≡ None → Stands (i ∷ s.stack) h es → Keeps es (row_item bodies setup oracle i h s)
  keeps_item oracle (Body a) h s es q n = keeps_body oracle a h s es (record { nested = under_body a s.stack es n.nested; empty = q; ground = n.well })
  keeps_item oracle (Do d) h s es q n = keeps_due oracle d s es q (under_do d s.stack es n.nested) n.well.1 n.begins
  keeps_item oracle (Reply u) h s es q n = tt
  keeps_item oracle (Hooks calls held) h s es q n = tt
  keeps_item oracle (Close b marked) h s es q n = keeps_close b marked h s.stack s es n

  moves_idle : (t : Bool) (es : List Event) → Moves {B = B} es (if t then Over ends.Finished else Unbuilt)
  moves_idle true es = tt
  moves_idle false es = tt

  weaker : (next : Next B) (es : List Event) → Keeps es next → Moves es next
  weaker (On m) es k = k
  weaker TurnDue es k = tt
  weaker (Over e) es k = tt
  weaker Unbuilt es k = tt

  moves_next : (oracle : Oracle) (stack : List (Item B)) (h : Option Handed) (s : State B) (es : List Event) → Stands stack h es → Moves es (next_by bodies setup oracle stack h s)
  moves_next oracle [] h s es n = moves_idle (is_quiet s) es
  moves_next oracle (i ∷ rest) h s es n = weaker _ es (keeps_item oracle i h (popped rest s) es refl n)

  -- a run is finished only where nothing stands
  finished_alone : (oracle : Oracle) (stack : List (Item B)) (h : Option Handed) (s : State B) (es : List Event) → Stands stack h es → next_by bodies setup oracle stack h s ≡ Over ends.Finished → stack ≡ []
  finished_alone oracle [] h s es n q = refl
  finished_alone oracle (i ∷ rest) h s es n q = absurd (subst (Keeps es) q (keeps_item oracle i h (popped rest s) es refl n))

moved_stands : {B : Type 0} (e : Option Ended) (next : Next B) (w : World B) → Stands w.state.stack w.state.hand w.events → Moves w.events next → Stands (moved_by e next w).state.stack (moved_by e next w).state.hand (moved_by e next w).events
moved_stands None (On m) w n k = k
moved_stands None TurnDue w n k = n
moved_stands None (Over e) w n k = n
moved_stands None Unbuilt w n k = n
moved_stands (Some e) next w n k = n

-- ---- a finished run

no_limit : (o : Option Which) → option_map (λ w. Ends (ends.Limit w)) o ≡ Some (Ends ends.Finished) → ⊥
no_limit None h = cc
no_limit (Some w) h = cc

no_turn : (t : Bool) → (if t then Some (Ends (ends.Limit Turns)) else None) ≡ Some (Ends ends.Finished) → ⊥
no_turn true h = cc
no_turn false h = cc

finished_next : {B : Type 0} (most : Most) (s : State B) (es : List Event) (next : Next B) → ended_by most s es next ≡ Some (Ends ends.Finished) → next ≡ Over ends.Finished
finished_next most s es (On m) h = absurd (no_limit (first_above most m.state (m.adds ++ es)) h)
finished_next most s es TurnDue h = absurd (no_turn (nat_lt most.turns (suc s.turns)) h)
finished_next most s es (Over e) h = let same : e ≡ ends.Finished = cc in ap Over same
finished_next most s es Unbuilt h = absurd cc

-- ---- valid logs

none_open : {P : Type 0} (os : List (Open P)) → brackets os ≡ [] → os ≡ []
none_open [] h = refl
none_open (o ∷ os) h = absurd cc

closed_valid : (es : List Event) → first_broken es ≡ None → brackets (opened es) ≡ [] → IsValid (reverse es)
closed_valid es h q =
    let open_none : opened es ≡ [] = none_open (opened es) q in
    let before : failure_before es ≡ None = ap (λ f. option_or f (left_open (opened es) (length es))) h ∙ ap (λ os. left_open os (length es)) open_none in
    ap failure_before (reverse-reverse es) ∙ before

-- ---- events grow

grows_by : {B : Type 0} (e : Option Ended) (next : Next B) (w : World B) → (adds : List Event) × ((moved_by e next w).events ≡ adds ++ w.events)
grows_by None (On m) w = (m.adds, refl)
grows_by None TurnDue w = ([], refl)
grows_by None (Over e) w = ([], refl)
grows_by None Unbuilt w = ([], refl)
grows_by (Some e) next w = ([], refl)

module _ {B : Type 0} (bodies : Bodies B) (setup : Setup) (most : Most) where
  pub stands : (stores : Stores) (k : ℕ) → Stands (world bodies setup most stores k).state.stack (world bodies setup most stores k).state.hand (world bodies setup most stores k).events
  stands stores zero = record { nested = record { open_ones = refl; nests = refl; unbroken = refl; made = tt }; well = (refl, refl); begins = refl }
  stands stores (suc k) =
      let w = world bodies setup most stores k in
      moved_stands (end_of bodies setup most w) (next_of bodies setup most w) w (stands stores k) (moves_next bodies setup (walked w.events) w.state.stack w.state.hand w.state w.events (stands stores k))

  pub nests_after : (stores : Stores) (k : ℕ) → NestsAfter bodies setup most stores k
  nests_after stores k = record { open_ones = (stands stores k).nested.open_ones; nests = (stands stores k).nested.nests }

  pub stands_well : (stores : Stores) (k : ℕ) → StandsWell (world bodies setup most stores k).state.stack (world bodies setup most stores k).state.hand
  stands_well stores k = (stands stores k).well

  nothing_stands : (stores : Stores) (k : ℕ) → end_of bodies setup most (world bodies setup most stores k) ≡ Some (Ends ends.Finished) → (world bodies setup most stores k).state.stack ≡ []
  nothing_stands stores k q =
      let w = world bodies setup most stores k in
      finished_alone bodies setup (walked w.events) w.state.stack w.state.hand w.state w.events (stands stores k)
      (finished_next most w.state w.events (next_of bodies setup most w) q)

  pub valid_after : (stores : Stores) (k : ℕ) → IsValidAfter bodies setup most stores k
  valid_after stores k =
      let n = (stands stores k).nested in
      record { unbroken = n.unbroken; valid = λ q. closed_valid (world bodies setup most stores k).events n.unbroken (n.open_ones ∙ ap closings (nothing_stands stores k q)) }

  pub grow : (stores : Stores) (k n : ℕ) → (later : List Event) × ((world bodies setup most stores (n + k)).events ≡ later ++ (world bodies setup most stores k).events)
  grow stores k zero = let none : 0 + k ≡ k = omega arith in ([], ap (λ j. (world bodies setup most stores j).events) none)
  grow stores k (suc n) =
      let one : suc n + k ≡ suc (n + k) = omega arith in
      let before = grow stores k n in
      let w = world bodies setup most stores (n + k) in
      let more = grows_by (end_of bodies setup most w) (next_of bodies setup most w) w in
      (more.0 ++ before.0, ap (λ j. (world bodies setup most stores j).events) one ∙ (more.1 ∙ (ap (λ es. more.0 ++ es) before.1 ∙ sym (append_assoc more.0 before.0 (world bodies setup most stores k).events))))
