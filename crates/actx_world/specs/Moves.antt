-- What one move is, what it may ask of the events so far, and how a completion reaches who waits for it.
use Rattle.std.specs.Prelude.{ℕ, true, List, [], ◌∷◌, Some}
use Rattle.actx_event.specs.declared.value.Shown.{Shown}
use Rattle.actx_event.specs.declared.event.Event.{Event}
use Rattle.actx_value.specs.declared.value.Key.TheVariants.{Name}
use Rattle.actx_value.specs.declared.value.Value.{Value}
use Rattle.actx_value.specs.declared.value.Value.TheVariants as values
use Rattle.actx_value.specs.declared.value.Answer.{Answer}
use Rattle.actx_value.specs.declared.value.Answer.TheVariants.{Go, Raise}
use Rattle.actx_value.specs.declared.error_kind.ErrorKind.{ErrorKind}
use Rattle.actx_value.specs.declared.end.End.{End}
use Rattle.actx_value.specs.declared.end.End.TheVariants as ends
use Rattle.actx_objects.specs.declared.kind.Kind.TheVariants.{Error}
use Rattle.actx_objects.specs.Objects.{made}
use Rattle.actx_objects.specs.Writes.{written}
use Rattle.actx_request.specs.declared.given.Given.{Given}
use Rattle.actx_request.specs.declared.given.Given.TheVariants as given
use Rattle.actx_request.specs.Outcomes.{Stores, Outcome, with_objects}
use Rattle.actx_request.specs.Lists.{next_object}
use Rattle.actx_world.specs.declared.handed.Handed.{Handed}
use Rattle.actx_world.specs.declared.handed.Handed.TheVariants.{Gives, Throws}
use Rattle.actx_world.specs.Setup.{Bodies, Builtins}
use Rattle.actx_world.specs.State.{Activation, Body, State, pushed, with_stores, with_hand}

-- what a move may ask of the events so far: reads of variables, the execution identifier and its trigger, and how many
-- resources, captures and variables were made
pub record Oracle : Type 0 where
  pub read : ℕ → Shown
  pub execution : ℕ
  pub trigger : ℕ
  pub resources : ℕ
  pub captures : ℕ
  pub variables : ℕ

-- a move: the events that it adds, the newest first, and the state after it
pub record Move (B : Type 0) : Type 0 where
  pub adds : List Event
  pub state : State B

-- what comes next: a move, a turn that is due, the end of the run, or something that has no row yet
pub data Next (B : Type 0) : Type 0 where
  On : (m : Move B) → Next B
  TurnDue : Next B
  Over : (e : End) → Next B
  Unbuilt : Next B

-- who waits for the completion of a call: a body that asked for it, or an item below, by the hand
pub data Asker (B : Type 0) : Type 0 where
  Asked : (a : Activation B) → Asker B
  Handing : Asker B

abbrev pub answer_of : Handed → Answer
answer_of (Gives v) = Go v
answer_of (Throws v) = Raise v

-- ---- errors that the runtime throws (§10.2, and each "throw a TypeError")

-- the objects with one more error, whose message is hidden
abbrev pub with_error : Builtins → ErrorKind → Stores → Stores
with_error builtins e s =
    with_objects (written s.texts.texts (made s.objects Error (Some (builtins.error e))) (next_object s.objects) (Name builtins.message) (values.Text (builtins.message_text e)) true) s

module _ {B : Type 0} where
  -- a move that adds no event, and one that adds this event
  abbrev pub quiet : State B → Next B
  quiet s = On (record { adds = []; state = s })

  abbrev pub adding : Event → State B → Next B
  adding e s = On (record { adds = e ∷ []; state = s })

  -- the body with one answer more
  abbrev pub resumed : Bodies B → Answer → Activation B → Activation B
  resumed bodies answer a = record a { frame = bodies.after answer a.frame }

  -- the state where who waits has the completion
  abbrev pub handed_to : Bodies B → Asker B → Handed → State B → State B
  handed_to bodies (Asked a) h s = pushed (Body (resumed bodies (answer_of h) a)) s
  handed_to bodies Handing h s = with_hand h s

  -- the state where who waits stands below what comes
  abbrev pub waiting : Asker B → State B → State B
  waiting (Asked a) s = pushed (Body a) s
  waiting Handing s = s

  -- a value for who waits
  abbrev pub value_to : Bodies B → Asker B → Value → State B → State B
  value_to bodies asker v s = handed_to bodies asker (Gives v) s

  abbrev pub gives_to : Bodies B → Asker B → Value → State B → Next B
  gives_to bodies asker v s = quiet (value_to bodies asker v s)

  -- a throw of a new error
  abbrev pub throws_to : Bodies B → Builtins → Asker B → ErrorKind → State B → Next B
  throws_to bodies builtins asker e s =
      quiet (handed_to bodies asker (Throws (values.Object (next_object s.stores.objects))) (with_stores (with_error builtins e s.stores) s))

  -- what a request gave, with the stores that it left
  abbrev pub given_to : Bodies B → Builtins → Activation B → Given → State B → Next B
  given_to bodies builtins a (given.Answer answer) s = quiet (pushed (Body (resumed bodies answer a)) s)
  given_to bodies builtins a (given.Throw e) s = throws_to bodies builtins (Asked a) e s
  given_to bodies builtins a (given.OutOfProfile r) s = Over (ends.OutOfProfile r)
  given_to bodies builtins a (given.Limit w) s = Over (ends.Limit w)

  abbrev pub outcome_to : Bodies B → Builtins → Activation B → Outcome → State B → Next B
  outcome_to bodies builtins a o s = given_to bodies builtins a o.given (with_stores o.stores s)
