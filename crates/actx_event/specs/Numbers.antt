-- The same notions by numbers. The events of a log are numbered from 0, the oldest first; place p
-- stands after the first p events, so event n stands right behind place n.
use Rattle.std.specs.Prelude.{ℕ, zero, suc, ◌==◌, nat_le, Bool, false, ◌&&◌, ◌||◌, List, [], ◌∷◌, Option, Some, None, unwrap_or, option_map, option_and_then, slice_get, if◌then◌else◌}
use Rattle.std.specs.Option.{option_or}
use Rattle.actx_event.specs.declared.value.Shown.{Shown}
use Rattle.actx_event.specs.declared.value.Shown.TheVariants.{Undefined}
use Rattle.actx_event.specs.declared.event.Event.{Event}
use Rattle.actx_event.specs.declared.event.Event.TheVariants.{Before, Enter}
use Rattle.actx_event.specs.declared.bracket.Open.{Open}
use Rattle.actx_event.specs.Noted.{noted_under}
use Rattle.actx_event.specs.Event.{Declaration, is_number, resource_made, capture_made, closed_bracket, value_bound, binds, switched_off, read_said, declaration_said}
use Rattle.actx_event.specs.Brackets.{before_opener, brackets_after}
use Rattle.actx_event.specs.Walk.{default_of, left_by_off}

-- the open brackets behind event n, each with its opener's number
abbrev pub opened_behind : Option Event → ℕ → List (Open ℕ) → List (Open ℕ)
opened_behind None n os = os
opened_behind (Some e) n os = brackets_after e n os

-- the open brackets at place p, the newest first
abbrev pub opened_at : List Event → ℕ → List (Open ℕ)
opened_at log zero = []
opened_at log (suc n) = opened_behind (slice_get log n) n (opened_at log n)

-- the number of the first event below p that makes number i
abbrev pub first_made : (Event → Option ℕ) → ℕ → List Event → ℕ → Option ℕ
first_made makes i log zero = None
first_made makes i log (suc n) =
    option_or (first_made makes i log n)
    (if is_number i (option_and_then makes (slice_get log n)) then Some n else None)

-- the place that event n leads back to
abbrev pub place_number_named : Event → List Event → ℕ → Option ℕ
place_number_named (Before id) log n = first_made resource_made id.0 log n
place_number_named (Enter snap) log n = if snap.0 == 0 then Some 0 else first_made capture_made snap.0 log n
place_number_named e log n = before_opener (closed_bracket e) (opened_at log n)

abbrev pub step_behind : Option Event → List Event → ℕ → ℕ
step_behind None log n = n
step_behind (Some e) log n = unwrap_or (place_number_named e log n) n

-- one causal step from place p
abbrev pub step_number : List Event → ℕ → ℕ
step_number log zero = 0
step_number log (suc n) = step_behind (slice_get log n) log n

-- whether event n binds v
abbrev pub binds_at : ℕ → Option Event → Bool
binds_at v None = false
binds_at v (Some e) = binds v e

abbrev pub met_number_within : ℕ → List Event → ℕ → ℕ → Option ℕ
met_number_within zero log p v = None
met_number_within (suc k) log zero v = None
met_number_within (suc k) log (suc n) v =
    if binds_at v (slice_get log n) then Some n else met_number_within k log (step_number log (suc n)) v

-- the number of the first binding of v that the walk from place p looks at
unfoldable pub met_number : List Event → ℕ → ℕ → Option ℕ
met_number log p v = met_number_within p log p v

-- whether an `off v` stands in the log between event m and place p
abbrev pub is_off_between : ℕ → List Event → ℕ → ℕ → Bool
is_off_between v log m zero = false
is_off_between v log m (suc n) =
    is_off_between v log m n || nat_le m n && is_number v (option_and_then switched_off (slice_get log n))

-- what v is said to be below p
abbrev pub declaration_at : ℕ → List Event → ℕ → Option Declaration
declaration_at v log zero = None
declaration_at v log (suc n) =
    option_or (declaration_at v log n) (noted_under v (option_and_then declaration_said (slice_get log n)))

abbrev pub value_at : Option ℕ → List Event → ℕ → ℕ → Shown
value_at None log p v = default_of (declaration_at v log p)
value_at (Some m) log p v =
    if is_off_between v log m p then left_by_off (declaration_at v log p)
    else unwrap_or (option_and_then (value_bound v) (slice_get log m)) Undefined

-- the nearest binding's value at place p
abbrev pub nearest_at : List Event → ℕ → ℕ → Shown
nearest_at log p v = value_at (met_number log p v) log p v

-- the numbers of the events that the walk from place p looks at, down to the first binding of v or
-- the start
abbrev pub walk_number_within : ℕ → List Event → ℕ → ℕ → List ℕ
walk_number_within zero log p v = []
walk_number_within (suc k) log zero v = []
walk_number_within (suc k) log (suc n) v =
    n ∷ (if binds_at v (slice_get log n) then [] else walk_number_within k log (step_number log (suc n)) v)

unfoldable pub chain_at : List Event → ℕ → ℕ → List ℕ
chain_at log p v = walk_number_within p log p v

-- the variable that a `get` reads
abbrev pub variable_read : Option Event → Option ℕ
variable_read None = None
variable_read (Some e) = option_map (λ r. r.variable) (read_said e)

-- the chain of the read with number n; there is none where event n is missing or no `get`
abbrev pub chain_of_read : List Event → ℕ → Option (List ℕ)
chain_of_read log n = option_map (chain_at log n) (variable_read (slice_get log n))
