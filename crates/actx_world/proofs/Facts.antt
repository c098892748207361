-- What every move keeps: the open brackets are the closing items of the stack, and the stack stands well.
use Rattle.std.proofs.Common.{◌≡◌, ℕ, Bool, true, false, ◌&&◌, List, [], ◌∷◌, ◌++◌, length, Option, Some, None, if◌then◌else◌, refl, sym, ap, ◌∙◌, subst, eq-eqb}
use Rattle.std.specs.Prelude.{is_some}
use Rattle.std.specs.Option.{option_or}
use Rattle.actx_event.specs.declared.event.Event.{Event}
use Rattle.actx_event.specs.declared.bracket.Bracket.{Bracket}
use Rattle.actx_event.specs.declared.bracket.Bracket.TheVariants.{Running, Entered, Bound}
use Rattle.actx_event.specs.declared.bracket.Open.{Open}
use Rattle.actx_event.specs.declared.event.Event.TheVariants.{Print}
use Rattle.actx_event.specs.declared.valid.Rule.TheVariants.{Introduction, Nesting}
use Rattle.actx_event.specs.Event.{resource_made, capture_made, variable_made, resource_named, capture_named, variable_named}
use Rattle.actx_event.specs.Valid.{was_made, is_introduced, unless, broken_rule, failure_at, first_broken}
use Rattle.actx_event.specs.Front.{Front, place_before}
use Rattle.actx_event.specs.Brackets.{same_bracket, with_closed, opened, has_opener, nests}
use Rattle.actx_value.specs.declared.ids.ObjId.{ObjId}
use Rattle.actx_value.specs.declared.value.Value.{Value}
use Rattle.actx_value.specs.declared.error_kind.ErrorKind.{ErrorKind}
use Rattle.actx_value.specs.declared.end.End.{End}
use Rattle.actx_value.specs.declared.end.End.TheVariants as ends
use Rattle.actx_request.specs.declared.given.Given.{Given}
use Rattle.actx_request.specs.declared.given.Given.TheVariants as given
use Rattle.actx_world.specs.declared.handed.Handed.{Handed}
use Rattle.actx_world.specs.declared.handed.Handed.TheVariants as hand
use Rattle.actx_world.specs.Setup.{Bodies, Builtins}
use Rattle.actx_world.specs.State.{Activation, Main, Call, Construct, Item, Body, Do, Reply, Hooks, Close, State, pushed, with_stores}
use Rattle.actx_world.specs.Moves.{Next, On, TurnDue, Over, Unbuilt, Asker, Asked, Handing, quiet, with_error, handed_to, waiting, gives_to, throws_to, given_to}
use Rattle.actx_world.specs.Rows.{closer, passed_on, row_closing}
use Rattle.actx_world.specs.Laws.{brackets, closings, AreRunning, IsGround, StandsWell}

-- what the closing events of these brackets name was made
abbrev pub AreMade : List Bracket → List Event → Type 0
AreMade [] es = Unit {0}
AreMade (b ∷ bs) es = (is_introduced (closer b) es ≡ true) × AreMade bs es

pub record Nested {B : Type 0} (stack : List (Item B)) (es : List Event) : Type 0 where
  pub open_ones : brackets (opened es) ≡ closings stack
  pub nests : nests es ≡ true
  pub unbroken : first_broken es ≡ None
  pub made : AreMade (closings stack) es

-- before the main script there are no events
abbrev pub Begins : {B : Type 0} → List (Item B) → List Event → Type 0
Begins [] es = Unit {0}
Begins (Body a ∷ rest) es = Unit {0}
Begins (Do Main ∷ rest) es = es ≡ []
Begins (Do (Call callee this arguments) ∷ rest) es = Unit {0}
Begins (Do (Construct callee target arguments) ∷ rest) es = Unit {0}
Begins (Reply u ∷ rest) es = Unit {0}
Begins (Hooks calls held ∷ rest) es = Unit {0}
Begins (Close b marked ∷ rest) es = Unit {0}

-- what holds after a move
pub record Stands {B : Type 0} (stack : List (Item B)) (h : Option Handed) (es : List Event) : Type 0 where
  pub nested : Nested stack es
  pub well : StandsWell stack h
  pub begins : Begins stack es

-- what a row of a body or a call is given
pub record Ready {B : Type 0} (stack : List (Item B)) (h : Option Handed) (es : List Event) : Type 0 where
  pub nested : Nested stack es
  pub empty : h ≡ None
  pub ground : IsGround stack

-- an end that isn't for want of anything to do
abbrev pub GoesOn : End → Type 0
GoesOn ends.Finished = ⊥
GoesOn (ends.Exited status) = Unit {0}
GoesOn (ends.Uncaught v) = Unit {0}
GoesOn (ends.OutOfProfile r) = Unit {0}
GoesOn (ends.Limit w) = Unit {0}

-- a move keeps it; the others don't move, and where an item stands the run isn't finished
abbrev pub Keeps : {B : Type 0} → List Event → Next B → Type 0
Keeps es (On m) = Stands m.state.stack m.state.hand (m.adds ++ es)
Keeps es TurnDue = Unit {0}
Keeps es (Over e) = GoesOn e
Keeps es Unbuilt = Unit {0}

-- ---- closing

same_self : (b : Bracket) → same_bracket b b ≡ true
same_self (Running i) = eq-eqb i.0 i.0 refl
same_self (Entered s) = eq-eqb s.0 s.0 refl
same_self (Bound v) = eq-eqb v.0 v.0 refl

-- the newest open bracket is closed by its closer
close_newest : (b : Bracket) (os : List (Open Front)) (bs : List Bracket) → brackets os ≡ b ∷ bs → (brackets (with_closed (Some b) os) ≡ bs) × (has_opener (Some b) os ≡ true)
close_newest b [] bs h = absurd (cc)
close_newest b (o ∷ os) bs h =
    let same : o.bracket ≡ b = cc in
    let yes' : same_bracket b o.bracket ≡ true = ap (same_bracket b) same ∙ same_self b in
    (ap brackets (ap (λ t. if t then os else (o ∷ os)) yes') ∙ cc, ap (λ t. is_some (if t then Some o.before else None)) yes')

-- ---- what was made stays made

some_or : {A : Type 0} (a b : Option A) → is_some a ≡ true → is_some (option_or a b) ≡ true
some_or None b h = absurd cc
some_or (Some x) b h = refl

still_made : (makes : Event → Option ℕ) (o : Option ℕ) (e : Event) (es : List Event) → was_made makes o es ≡ true → was_made makes o (e ∷ es) ≡ true
still_made makes None e es h = refl
still_made makes (Some i) e es h = some_or (place_before makes i es) _ h

all_three : (a b c : Bool) → (a && b && c) ≡ true → (a ≡ true) × (b ≡ true) × (c ≡ true)
all_three true true true h = (refl, refl, refl)
all_three true true false h = absurd cc
all_three true false c h = absurd cc
all_three false b c h = absurd cc

three_of : (a b c : Bool) → a ≡ true → b ≡ true → c ≡ true → (a && b && c) ≡ true
three_of a b c p q r = ap (λ t. t && b && c) p ∙ (ap (λ t. t && c) q ∙ r)

still_introduced : (named e : Event) (es : List Event) → is_introduced named es ≡ true → is_introduced named (e ∷ es) ≡ true
still_introduced named e es h =
    let k = all_three (was_made resource_made (resource_named named) es) (was_made capture_made (capture_named named) es) (was_made variable_made (variable_named named) es) h in
    three_of _ _ _ (still_made resource_made (resource_named named) e es k.0) (still_made capture_made (capture_named named) e es k.1) (still_made variable_made (variable_named named) e es k.2)

still_all : (bs : List Bracket) (e : Event) (es : List Event) → AreMade bs es → AreMade bs (e ∷ es)
still_all [] e es h = tt
still_all (b ∷ bs) e es h = (still_introduced (closer b) e es h.0, still_all bs e es h.1)

-- ---- an event that breaks no rule

unbroken_with : (e : Event) (es : List Event) → first_broken es ≡ None → broken_rule e es ≡ None → first_broken (e ∷ es) ≡ None
unbroken_with e es h k = ap (λ f. option_or f (failure_at (length es) (broken_rule e es))) h ∙ ap (failure_at (length es)) k

-- a closing event whose number was made and that has an opener
closer_breaks_none : (b : Bracket) (es : List Event) → is_introduced (closer b) es ≡ true → has_opener (Some b) (opened es) ≡ true → broken_rule (closer b) es ≡ None
closer_breaks_none (Running i) es p q = ap (λ t. unless t Introduction (unless (has_opener (Some (Running i)) (opened es)) Nesting None)) p ∙ ap (λ t. unless t Nesting None) q
closer_breaks_none (Entered c) es p q = ap (λ t. unless t Introduction (unless (has_opener (Some (Entered c)) (opened es)) Nesting None)) p ∙ ap (λ t. unless t Nesting None) q
closer_breaks_none (Bound v) es p q = ap (λ t. unless t Introduction (unless (has_opener (Some (Bound v)) (opened es)) Nesting None)) p ∙ ap (λ t. unless t Nesting None) q

closer_nests : (b : Bracket) (es : List Event) → has_opener (Some b) (opened es) ≡ true → nests es ≡ true → nests (closer b ∷ es) ≡ true
closer_nests (Running i) es k n = ap (λ t. t && nests es) k ∙ n
closer_nests (Entered s) es k n = ap (λ t. t && nests es) k ∙ n
closer_nests (Bound v) es k n = ap (λ t. t && nests es) k ∙ n

closer_opened : (b : Bracket) (es : List Event) → opened (closer b ∷ es) ≡ with_closed (Some b) (opened es)
closer_opened (Running i) es = refl
closer_opened (Entered s) es = refl
closer_opened (Bound v) es = refl

module _ {B : Type 0} where
  closed_by : (b : Bracket) (marked : Bool) (rest : List (Item B)) (es : List Event) → Nested (Close b marked ∷ rest) es → Nested rest (closer b ∷ es)
  closed_by b marked rest es n =
      let k = close_newest b (opened es) (closings rest) n.open_ones in
      record {
        open_ones = ap brackets (closer_opened b es) ∙ k.0;
        nests = closer_nests b es k.1 n.nests;
        unbroken = unbroken_with (closer b) es n.unbroken (closer_breaks_none b es n.made.0 k.1);
        made = still_all (closings rest) (closer b) es n.made.1;
      }

  -- a printed line
  pub printed_nested : (line : List ℕ) (stack : List (Item B)) (es : List Event) → Nested stack es → Nested stack (Print line ∷ es)
  printed_nested line stack es n = record {
    open_ones = n.open_ones;
    nests = n.nests;
    unbroken = unbroken_with (Print line) es n.unbroken refl;
    made = still_all (closings stack) (Print line) es n.made;
  }

  -- the same brackets below another item
  pub same_brackets : (stack other : List (Item B)) (es : List Event) → closings other ≡ closings stack → Nested stack es → Nested other es
  same_brackets stack other es q n = record {
    open_ones = n.open_ones ∙ sym q;
    nests = n.nests;
    unbroken = n.unbroken;
    made = subst (λ bs. AreMade bs es) (sym q) n.made;
  }

  pub ground_begins : (stack : List (Item B)) (es : List Event) → AreRunning stack → Begins stack es
  ground_begins [] es g = tt
  ground_begins (Body a ∷ rest) es g = tt
  ground_begins (Close b marked ∷ rest) es g = tt
  ground_begins (Do d ∷ rest) es g = absurd g
  ground_begins (Reply u ∷ rest) es g = absurd g
  ground_begins (Hooks calls held ∷ rest) es g = absurd g

  -- below a closing item
  passed_well : (b : Bracket) (marked : Bool) (stack : List (Item B)) (h : Option Handed) → is_some h ≡ true → IsGround (Close b marked ∷ stack) → StandsWell stack (passed_on stack h)
  passed_well b marked [] h p g = refl
  passed_well b marked (Body a ∷ rest) h p g = g
  passed_well b marked (Close c m ∷ rest) h p g = (p, g)
  passed_well b marked (Do d ∷ rest) h p g = absurd g.0
  passed_well b marked (Reply u ∷ rest) h p g = absurd g.0
  passed_well b marked (Hooks calls held ∷ rest) h p g = absurd g.0

  pub keeps_closing : (b : Bracket) (marked : Bool) (h : Option Handed) (s : State B) (es : List Event) → Stands (Close b marked ∷ s.stack) h es → Keeps es (row_closing b h s)
  keeps_closing b marked h s es n = record {
    nested = closed_by b marked s.stack es n.nested;
    well = passed_well b marked s.stack h n.well.0 n.well.1;
    begins = ground_begins s.stack (closer b ∷ es) n.well.1.0;
  }

  -- ---- what stands above the ground

  pub body_on : (a : Activation B) (h k : Option Handed) (stack : List (Item B)) (es : List Event) → Ready stack k es → Stands (Body a ∷ stack) h es
  body_on a h k stack es n = record { nested = same_brackets stack (Body a ∷ stack) es refl n.nested; well = n.ground; begins = tt }

  ground_meets : (stack : List (Item B)) (h : Handed) → IsGround stack → StandsWell stack (Some h)
  ground_meets [] h g = absurd cc
  ground_meets (Body a ∷ rest) h g = g
  ground_meets (Close b marked ∷ rest) h g = (refl, g)
  ground_meets (Do d ∷ rest) h g = absurd g.0
  ground_meets (Reply u ∷ rest) h g = absurd g.0
  ground_meets (Hooks calls held ∷ rest) h g = absurd g.0

  pub hand_on : (h : Handed) (k : Option Handed) (stack : List (Item B)) (es : List Event) → Ready stack k es → Stands stack (Some h) es
  hand_on h k stack es n = record { nested = n.nested; well = ground_meets stack h n.ground; begins = ground_begins stack es n.ground.0 }

  -- a call above who waits
  pub call_on : (callee this : Value) (arguments : List Value) (asker : Asker B) (s : State B) (es : List Event) → Ready s.stack s.hand es → Keeps es (quiet (pushed (Do (Call callee this arguments)) (waiting asker s)))
  call_on callee this arguments (Asked a) s es n = record { nested = same_brackets s.stack (Do (Call callee this arguments) ∷ Body a ∷ s.stack) es refl n.nested; well = (n.empty, n.ground); begins = tt }
  call_on callee this arguments Handing s es n = record { nested = same_brackets s.stack (Do (Call callee this arguments) ∷ s.stack) es refl n.nested; well = (n.empty, n.ground); begins = tt }

  pub construct_on : (callee target : ObjId) (arguments : List Value) (asker : Asker B) (s : State B) (es : List Event) → Ready s.stack s.hand es → Keeps es (quiet (pushed (Do (Construct callee target arguments)) (waiting asker s)))
  construct_on callee target arguments (Asked a) s es n = record { nested = same_brackets s.stack (Do (Construct callee target arguments) ∷ Body a ∷ s.stack) es refl n.nested; well = (n.empty, n.ground); begins = tt }
  construct_on callee target arguments Handing s es n = record { nested = same_brackets s.stack (Do (Construct callee target arguments) ∷ s.stack) es refl n.nested; well = (n.empty, n.ground); begins = tt }

  -- ---- completions that reach who waits

  pub keeps_handed : (bodies : Bodies B) (asker : Asker B) (h : Handed) (s : State B) (es : List Event) → Ready s.stack s.hand es → Keeps es (quiet (handed_to bodies asker h s))
  keeps_handed bodies (Asked a) h s es n = body_on _ s.hand s.hand s.stack es n
  keeps_handed bodies Handing h s es n = hand_on h s.hand s.stack es n

  pub keeps_gives : (bodies : Bodies B) (asker : Asker B) (v : Value) (s : State B) (es : List Event) → Ready s.stack s.hand es → Keeps es (gives_to bodies asker v s)
  keeps_gives bodies asker v s es n = keeps_handed bodies asker (hand.Gives v) s es n

  pub keeps_throws : (bodies : Bodies B) (builtins : Builtins) (asker : Asker B) (e : ErrorKind) (s : State B) (es : List Event) → Ready s.stack s.hand es → Keeps es (throws_to bodies builtins asker e s)
  keeps_throws bodies builtins asker e s es n = keeps_handed bodies asker _ (with_stores (with_error builtins e s.stores) s) es n

  pub keeps_given : (bodies : Bodies B) (builtins : Builtins) (a : Activation B) (g : Given) (s : State B) (es : List Event) → Ready s.stack s.hand es → Keeps es (given_to bodies builtins a g s)
  keeps_given bodies builtins a (given.Answer answer) s es n = body_on _ s.hand s.hand s.stack es n
  keeps_given bodies builtins a (given.Throw e) s es n = keeps_throws bodies builtins (Asked a) e s es n
  keeps_given bodies builtins a (given.OutOfProfile r) s es n = tt
  keeps_given bodies builtins a (given.Limit w) s es n = tt
