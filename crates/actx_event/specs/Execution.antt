-- Which resource executes at a place, and which one caused it (`executionAsyncId` and
-- `triggerAsyncId` of Node's async_hooks).
use Rattle.std.specs.Prelude.{ℕ, ◌==◌, List, [], ◌∷◌, Option, Some, None, unwrap_or, if◌then◌else◌}
use Rattle.actx_event.specs.declared.bracket.Bracket.{Bracket}
use Rattle.actx_event.specs.declared.bracket.Bracket.TheVariants.{Running}
use Rattle.actx_event.specs.declared.bracket.Open.{Open}
use Rattle.actx_event.specs.Event.{trigger_said}
use Rattle.actx_event.specs.Front.{Front, first_said}
use Rattle.actx_event.specs.Brackets.{opened}

-- the resource whose callback the bracket runs
abbrev pub running : Bracket → Option ℕ
running (Running id) = Some id.0
running _ = None

-- the innermost open resource, or 0
abbrev pub innermost : {P : Type 0} → List (Open P) → ℕ
innermost [] = 0
innermost (o ∷ os) = unwrap_or (running o.bracket) (innermost os)

-- the execution identifier at a place
abbrev pub exec : Front → ℕ
exec es = innermost (opened es)

-- the trigger of resource i, or 0 where i is 0 or was never made
abbrev pub trigger_of : ℕ → Option ℕ → ℕ
trigger_of i said = if i == 0 then 0 else unwrap_or said 0

-- the trigger of the innermost open resource at a place
abbrev pub trigger : Front → ℕ
trigger es = trigger_of (exec es) (first_said trigger_said (exec es) es)
