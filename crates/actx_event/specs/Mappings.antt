-- The mappings that are carried from event to event: the current one, one for each open bracket, one
-- for each resource and one for each capture (the [[AsyncContextMapping]] of the AsyncContext
-- proposal and its agent, the async resource of Node's async_context). The proposal keeps at most one
-- record for each variable; here a mapping keeps the older ones too, each with its epoch.
use Rattle.std.specs.Prelude.{ℕ, suc, ◌==◌, List, [], ◌∷◌, Option, Some, None, unwrap_or, if◌then◌else◌}
use Rattle.actx_event.specs.declared.value.Shown.{Shown}
use Rattle.actx_event.specs.declared.event.Event.{Event}
use Rattle.actx_event.specs.declared.event.Event.TheVariants.{Before, Enter}
use Rattle.actx_event.specs.declared.bracket.Open.{Open}
use Rattle.actx_event.specs.Event.{Binding, Declaration, resource_made, capture_made, closed_bracket, binding_made, switched_off, trigger_said, declaration_said}
use Rattle.actx_event.specs.Noted.{Noted, first_noted, with_note}
use Rattle.actx_event.specs.Front.{Front}
use Rattle.actx_event.specs.Brackets.{before_opener, brackets_after}
use Rattle.actx_event.specs.Execution.{innermost, trigger_of}
use Rattle.actx_event.specs.Walk.{default_of, left_by_off}

-- a variable and its value, with how often the variable had been switched off before
pub record Entry : Type 0 where
  pub variable : ℕ
  pub value : Shown
  pub epoch : ℕ

-- the newest entry comes first
abbrev pub Mapping : Type 0
Mapping = List Entry

-- the newest entry of v
abbrev pub first_entry : ℕ → Mapping → Option Entry
first_entry v [] = None
first_entry v (e ∷ es) = if v == e.variable then Some e else first_entry v es

-- what is carried
pub record Carried : Type 0 where
  pub current : Mapping
  pub saved : List (Open Mapping)  -- for each open bracket the mapping before its opener
  pub resources : List (Noted Mapping)
  pub captures : List (Noted Mapping)
  pub triggers : List (Noted ℕ)
  pub declarations : List (Noted Declaration)
  pub offs : List ℕ  -- the variables that were switched off

-- what is carried before the first event
abbrev pub none_carried : Carried
none_carried =
    record { current = []; saved = []; resources = []; captures = []; triggers = []; declarations = []; offs = [] }

-- how often v stands in a list
abbrev pub times : ℕ → List ℕ → ℕ
times v [] = 0
times v (w ∷ ws) = if v == w then suc (times v ws) else times v ws

-- the mapping that an event leads back to: that of the resource, that of the capture, the empty one
-- of capture 0, or the one that was saved for the bracket that it closes
abbrev pub mapping_named : Event → Carried → Option Mapping
mapping_named (Before id) c = first_noted id.0 c.resources
mapping_named (Enter snap) c = if snap.0 == 0 then Some [] else first_noted snap.0 c.captures
mapping_named e c = before_opener (closed_bracket e) c.saved

-- a mapping with a further binding
abbrev pub with_binding : Option Binding → List ℕ → Mapping → Mapping
with_binding None offs m = m
with_binding (Some b) offs m =
    record { variable = b.variable; value = b.value; epoch = times b.variable offs } ∷ m

-- a mapping kept under a number
abbrev pub kept_under : Option ℕ → Mapping → Option (Noted Mapping)
kept_under None m = None
kept_under (Some i) m = Some (record { number = i; noted = m })

abbrev pub with_off : Option ℕ → List ℕ → List ℕ
with_off None vs = vs
with_off (Some v) vs = v ∷ vs

-- what is carried after an event
abbrev pub carried_after : Event → Carried → Carried
carried_after e c = record {
  current = with_binding (binding_made e) c.offs (unwrap_or (mapping_named e c) c.current);
  saved = brackets_after e c.current c.saved;
  resources = with_note (kept_under (resource_made e) c.current) c.resources;
  captures = with_note (kept_under (capture_made e) c.current) c.captures;
  triggers = with_note (trigger_said e) c.triggers;
  declarations = with_note (declaration_said e) c.declarations;
  offs = with_off (switched_off e) c.offs;
}

-- what is carried at a place
abbrev pub carried : Front → Carried
carried [] = none_carried
carried (e ∷ es) = carried_after e (carried es)

-- the value that an entry gives, where its variable is now in this epoch
abbrev pub entry_value : Option Entry → Option Declaration → ℕ → Shown
entry_value None d now = default_of d
entry_value (Some e) d now = if e.epoch == now then e.value else left_by_off d

-- what a read of v gives
abbrev pub carried_value : Carried → ℕ → Shown
carried_value c v = entry_value (first_entry v c.current) (first_noted v c.declarations) (times v c.offs)

-- the execution identifier
abbrev pub carried_exec : Carried → ℕ
carried_exec c = innermost c.saved

-- the trigger of the innermost open resource
abbrev pub carried_trigger : Carried → ℕ
carried_trigger c = trigger_of (carried_exec c) (first_noted (carried_exec c) c.triggers)

-- what v is said to be
abbrev pub carried_declaration : Carried → ℕ → Option Declaration
carried_declaration c v = first_noted v c.declarations
