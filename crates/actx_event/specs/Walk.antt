-- The causal walk, and the binding that a read finds on it. A place follows what caused it: a
-- callback its resource's making, a call under a capture the capture's making, and what comes after
-- a closed run what came before it (links and causes after Loring, Marron and Leijen, "Semantics of
-- Asynchronous JavaScript", 2017; the mapping of the AsyncContext proposal, AsyncContextSnapshot and
-- AsyncContextSwap).
use Rattle.std.specs.Prelude.{ℕ, zero, suc, ◌==◌, List, [], ◌∷◌, length, Option, Some, None, unwrap_or, if◌then◌else◌}
use Rattle.actx_event.specs.declared.value.Shown.{Shown}
use Rattle.actx_event.specs.declared.value.Shown.TheVariants.{Undefined}
use Rattle.actx_event.specs.declared.event.Event.{Event}
use Rattle.actx_event.specs.declared.event.Event.TheVariants.{Before, Enter}
use Rattle.actx_event.specs.Event.{Declaration, is_number, resource_made, capture_made, closed_bracket, value_bound, binds, switched_off, declaration_said}
use Rattle.actx_event.specs.Front.{Front, place_before, first_said}
use Rattle.actx_event.specs.Brackets.{opened, before_opener}

-- the place that an event leads back to: from `before i` the one before `init i`, from `enter s` the
-- one before `snap s`, from `enter 0` the start, over a closing event the one before its opener
abbrev pub place_named : Event → Front → Option Front
place_named (Before id) es = place_before resource_made id.0 es
place_named (Enter snap) es = if snap.0 == 0 then Some [] else place_before capture_made snap.0 es
place_named e es = before_opener (closed_bracket e) (opened es)

-- one causal step: where the event before the place leads to, else the place before that event
abbrev pub causal_step : Front → Front
causal_step [] = []
causal_step (e ∷ es) = unwrap_or (place_named e es) es

-- a binding that was met: its value, and the place before its event
pub record Met : Type 0 where
  pub value : Shown
  pub place : Front

-- the value that an event binds the variable to is met at the event, and else later on the walk
abbrev pub met_here : Option Shown → Front → Option Met → Option Met
met_here None es later = later
met_here (Some x) es later = Some (record { value = x; place = es })

-- the first binding of v that at most n steps of the walk look at
abbrev pub met_within : ℕ → Front → ℕ → Option Met
met_within zero es v = None
met_within (suc n) [] v = None
met_within (suc n) (e ∷ es) v = met_here (value_bound v e) es (met_within n (causal_step (e ∷ es)) v)

-- the first binding of v that the walk looks at; each step goes to a smaller place, so as many steps
-- as there are events are enough
unfoldable pub met_binding : Front → ℕ → Option Met
met_binding es v = met_within (length es) es v

-- how often v was switched off
abbrev pub epoch : ℕ → Front → ℕ
epoch v [] = 0
epoch v (e ∷ es) = if is_number v (switched_off e) then suc (epoch v es) else epoch v es

-- what v is said to be where it is made
abbrev pub declaration : ℕ → Front → Option Declaration
declaration v es = first_said declaration_said v es

-- what a read gives where no binding is met
abbrev pub default_of : Option Declaration → Shown
default_of None = Undefined
default_of (Some d) = d.default

-- what a read gives where the binding that is met was switched off (`disable` of AsyncLocalStorage)
abbrev pub left_by_off : Option Declaration → Shown
left_by_off d = Undefined

-- the value of what was met, and whether it was switched off since
abbrev pub met_value : Option Met → ℕ → Front → Shown
met_value None v es = default_of (declaration v es)
met_value (Some m) v es = if epoch v m.place == epoch v es then m.value else left_by_off (declaration v es)

-- the nearest binding's value: what a read of v gives at a place
abbrev pub nearest_binding : Front → ℕ → Shown
nearest_binding es v = met_value (met_binding es v) v es

-- the events that at most n steps of the walk look at, down to the first binding of v or the start,
-- each as the place before it
abbrev pub walk_within : ℕ → Front → ℕ → List Front
walk_within zero es v = []
walk_within (suc n) [] v = []
walk_within (suc n) (e ∷ es) v = es ∷ (if binds v e then [] else walk_within n (causal_step (e ∷ es)) v)

-- the chain of a read of v at a place
unfoldable pub chain : Front → ℕ → List Front
chain es v = walk_within (length es) es v
