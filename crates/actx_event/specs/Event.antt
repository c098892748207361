-- What each kind of event makes, names, opens, closes and says. An event that has no part in a
-- question answers None.
use Rattle.std.specs.Prelude.{ℕ, ◌==◌, Bool, false, Option, Some, None, is_some, if◌then◌else◌}
use Rattle.actx_event.specs.declared.value.Shown.{Shown}
use Rattle.actx_event.specs.declared.event.VarKind.{VarKind}
use Rattle.actx_event.specs.declared.event.Event.{Event}
use Rattle.actx_event.specs.declared.event.Event.TheVariants.{Init, Before, After, Destroy, Ready, Snap, Enter, Leave, Var, Bind, Unbind, Set, Off, Get, Arrive}
use Rattle.actx_event.specs.declared.event.Numbered.{Numbered}
use Rattle.actx_event.specs.declared.event.Numbered.TheVariants.{Resource, Capture, Variable}
use Rattle.actx_event.specs.declared.bracket.Bracket.{Bracket}
use Rattle.actx_event.specs.declared.bracket.Bracket.TheVariants.{Running, Entered, Bound}
use Rattle.actx_event.specs.Noted.{Noted}

-- the number of the resource that it makes (`init` of Node's async_hooks)
abbrev pub resource_made : Event → Option ℕ
resource_made (Init id kind trigger exec) = Some id.0
resource_made _ = None

-- the number of the capture that it makes (AsyncContextSnapshot of the AsyncContext proposal)
abbrev pub capture_made : Event → Option ℕ
capture_made (Snap snap) = Some snap.0
capture_made _ = None

-- the number of the variable that it makes
abbrev pub variable_made : Event → Option ℕ
variable_made (Var id kind name default) = Some id.0
variable_made _ = None

-- the number that it makes, by what is numbered
abbrev pub number_made : Numbered → Event → Option ℕ
number_made Resource e = resource_made e
number_made Capture e = capture_made e
number_made Variable e = variable_made e

-- the bracket that it opens
abbrev pub opened_bracket : Event → Option Bracket
opened_bracket (Before id) = Some (Running id)
opened_bracket (Enter snap) = Some (Entered snap)
opened_bracket (Bind id value) = Some (Bound id)
opened_bracket _ = None

-- the bracket that it closes
abbrev pub closed_bracket : Event → Option Bracket
closed_bracket (After id) = Some (Running id)
closed_bracket (Leave snap) = Some (Entered snap)
closed_bracket (Unbind id) = Some (Bound id)
closed_bracket _ = None

-- a variable, and a value
pub record Binding : Type 0 where
  pub variable : ℕ
  pub value : Shown

-- the binding that it makes: `run` and `enterWith` of AsyncLocalStorage, `run` of AsyncContext.Variable
abbrev pub binding_made : Event → Option Binding
binding_made (Bind id value) = Some (record { variable = id.0; value = value })
binding_made (Set id value) = Some (record { variable = id.0; value = value })
binding_made _ = None

-- the value that a binding gives v
abbrev pub value_given : ℕ → Option Binding → Option Shown
value_given v None = None
value_given v (Some b) = if v == b.variable then Some b.value else None

-- the value that it binds v to
abbrev pub value_bound : ℕ → Event → Option Shown
value_bound v e = value_given v (binding_made e)

-- whether it binds v
abbrev pub binds : ℕ → Event → Bool
binds v e = is_some (value_bound v e)

-- the variable that it switches off (`disable` of AsyncLocalStorage)
abbrev pub switched_off : Event → Option ℕ
switched_off (Off id) = Some id.0
switched_off _ = None

-- the variable that it reads, and the value that was given
abbrev pub read_said : Event → Option Binding
read_said (Get id value) = Some (record { variable = id.0; value = value })
read_said _ = None

-- the execution identifier that it says (`executionAsyncId` of Node's async_hooks)
abbrev pub execution_said : Event → Option ℕ
execution_said (Init id kind trigger exec) = Some exec
execution_said _ = None

-- the trigger that it says of the resource that it makes (`triggerAsyncId` of Node's async_hooks)
abbrev pub trigger_said : Event → Option (Noted ℕ)
trigger_said (Init id kind trigger exec) = Some (record { number = id.0; noted = trigger })
trigger_said _ = None

-- what the making of a variable says of it
pub record Declaration : Type 0 where
  pub kind : VarKind
  pub default : Shown

-- the kind and the default that it says of the variable that it makes
abbrev pub declaration_said : Event → Option (Noted Declaration)
declaration_said (Var id kind name default) =
    Some (record { number = id.0; noted = record { kind = kind; default = default } })
declaration_said _ = None

-- the resource that it names as one that was made before
abbrev pub resource_named : Event → Option ℕ
resource_named (Before id) = Some id.0
resource_named (After id) = Some id.0
resource_named (Destroy id) = Some id.0
resource_named (Ready id) = Some id.0
resource_named (Arrive op id) = Some id.0
resource_named _ = None

-- the capture that it names as one that was made before; the empty capture, 0, never is
abbrev pub capture_named : Event → Option ℕ
capture_named (Enter snap) = if snap.0 == 0 then None else Some snap.0
capture_named (Leave snap) = if snap.0 == 0 then None else Some snap.0
capture_named _ = None

-- the variable that it names as one that was made before
abbrev pub variable_named : Event → Option ℕ
variable_named (Bind id value) = Some id.0
variable_named (Unbind id) = Some id.0
variable_named (Set id value) = Some id.0
variable_named (Off id) = Some id.0
variable_named (Get id value) = Some id.0
variable_named _ = None

-- the number that it names as one that was made before, by what is numbered
abbrev pub number_named : Numbered → Event → Option ℕ
number_named Resource e = resource_named e
number_named Capture e = capture_named e
number_named Variable e = variable_named e

-- whether it is this number
abbrev pub is_number : ℕ → Option ℕ → Bool
is_number i None = false
is_number i (Some j) = i == j
