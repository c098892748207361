-- Places in a log. A log is a list of events, the oldest first; its events are numbered from 0, and
-- place p stands after the first p of them. A place as a list, a front, holds the events before it,
-- the newest first: it says all that is known there, and it stays as it is while the log grows.
use Rattle.std.specs.Prelude.{ℕ, List, [], ◌∷◌, reverse, take, Option, Some, None, if◌then◌else◌}
use Rattle.std.specs.Option.{option_or}
use Rattle.actx_event.specs.declared.event.Event.{Event}
use Rattle.actx_event.specs.Event.{is_number}
use Rattle.actx_event.specs.Noted.{Noted, noted_under}

abbrev pub Front : Type 0
Front = List Event

-- place p of a log; the number of a place is the front's length
abbrev pub front : List Event → ℕ → Front
front log p = reverse (take p log)

-- the place before the first event that makes number i, where there is one
abbrev pub place_before : (Event → Option ℕ) → ℕ → Front → Option Front
place_before makes i [] = None
place_before makes i (e ∷ es) =
    option_or (place_before makes i es) (if is_number i (makes e) then Some es else None)

-- what the first event that speaks of number i says of it
abbrev pub first_said : {A : Type 0} → (Event → Option (Noted A)) → ℕ → Front → Option A
first_said says i [] = None
first_said says i (e ∷ es) = option_or (first_said says i es) (noted_under i (says e))
