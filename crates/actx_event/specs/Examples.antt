-- The definitions on logs of small programs.
use Rattle.std.specs.Prelude.{◌≡◌, pos, true, List, [], ◌∷◌, Some, None, codes}
use Rattle.actx_event.specs.declared.value.Shown.TheVariants.{Undefined, Num}
use Rattle.actx_event.specs.declared.event.VarKind.TheVariants.{Variable, Storage}
use Rattle.actx_event.specs.declared.event.Event.{Event}
use Rattle.actx_event.specs.declared.event.Event.TheVariants.{Init, Before, After, Destroy, Var, Bind, Unbind, Off, Get}
use Rattle.actx_event.specs.declared.bracket.Bracket.TheVariants.{Running, Bound}
use Rattle.actx_event.specs.declared.valid.Rule.TheVariants.{Reading}
use Rattle.actx_event.specs.Front.{front}
use Rattle.actx_event.specs.Brackets.{nests}
use Rattle.actx_event.specs.Execution.{exec, trigger}
use Rattle.actx_event.specs.Walk.{nearest_binding}
use Rattle.actx_event.specs.Mappings.{carried, carried_value, carried_exec}
use Rattle.actx_event.specs.Numbers.{opened_at, step_number, met_number, chain_of_read}
use Rattle.actx_event.specs.Valid.{first_failure}

-- v.run(5, () => queueMicrotask(() => v.get())), with the default 0
abbrev pub microtask_log : List Event
microtask_log =
    Init (record { 0 = 1 }) (codes "ROOT") 0 0
    ∷ Before (record { 0 = 1 })
    ∷ Var (record { 0 = 1 }) Variable (codes "v") (Num (pos 0))
    ∷ Bind (record { 0 = 1 }) (Num (pos 5))
    ∷ Init (record { 0 = 2 }) (codes "Microtask") 1 1
    ∷ Unbind (record { 0 = 1 })
    ∷ After (record { 0 = 1 })
    ∷ Before (record { 0 = 2 })
    ∷ Get (record { 0 = 1 }) (Num (pos 5))
    ∷ After (record { 0 = 2 })
    ∷ Destroy (record { 0 = 2 })
    ∷ []

-- als.run(1, () => { als.disable(); als.getStore(); })
abbrev pub disabled_log : List Event
disabled_log =
    Init (record { 0 = 1 }) (codes "ROOT") 0 0
    ∷ Before (record { 0 = 1 })
    ∷ Var (record { 0 = 1 }) Storage [] Undefined
    ∷ Bind (record { 0 = 1 }) (Num (pos 1))
    ∷ Off (record { 0 = 1 })
    ∷ Get (record { 0 = 1 }) Undefined
    ∷ Unbind (record { 0 = 1 })
    ∷ After (record { 0 = 1 })
    ∷ []

-- a read that gives the value of a run that is over
abbrev pub stale_log : List Event
stale_log =
    Var (record { 0 = 1 }) Variable [] Undefined
    ∷ Bind (record { 0 = 1 }) (Num (pos 1))
    ∷ Unbind (record { 0 = 1 })
    ∷ Get (record { 0 = 1 }) (Num (pos 1))
    ∷ Before (record { 0 = 1 })
    ∷ []

-- at place 5, in the run, the main script's bracket and the binding's stand open
abbrev pub BracketsExample : Type 0
BracketsExample =
    (opened_at microtask_log 5 ≡
    record { bracket = Bound (record { 0 = 1 }); before = 3 } ∷
    record { bracket = Running (record { 0 = 1 }); before = 1 } ∷ []) ×
    (nests (front microtask_log 5) ≡ true)

-- the microtask, made by the main script, executes at its read
abbrev pub ExecutionExample : Type 0
ExecutionExample = (exec (front microtask_log 8) ≡ 2) × (trigger (front microtask_log 8) ≡ 1)

-- its read looks at `before 2` and, from the making of resource 2 on, at `bind 1 5`
abbrev pub WalkExample : Type 0
WalkExample =
    (step_number microtask_log 8 ≡ 4) ×
    (met_number microtask_log 8 1 ≡ Some 3) ×
    (chain_of_read microtask_log 8 ≡ Some (7 ∷ 3 ∷ [])) ×
    (nearest_binding (front microtask_log 8) 1 ≡ Num (pos 5))

-- what is carried to the read gives the same
abbrev pub MappingsExample : Type 0
MappingsExample =
    (carried_value (carried (front microtask_log 8)) 1 ≡ Num (pos 5)) ×
    (carried_exec (carried (front microtask_log 8)) ≡ 2)

-- a read after `disable` meets the binding and gives what switching off leaves
abbrev pub OffExample : Type 0
OffExample =
    (chain_of_read disabled_log 5 ≡ Some (4 ∷ 3 ∷ [])) ×
    (nearest_binding (front disabled_log 5) 1 ≡ Undefined)

-- both are valid; the third fails first at its read
abbrev pub ValidExample : Type 0
ValidExample =
    (first_failure microtask_log ≡ None) ×
    (first_failure disabled_log ≡ None) ×
    (first_failure stale_log ≡ Some (record { place = 3; rule = Reading }))
