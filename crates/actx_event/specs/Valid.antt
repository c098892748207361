-- Which logs are valid, and the first failure of one that isn't. The rules speak of each event and of
-- the events before it; a log may come from anywhere.
use Rattle.std.specs.Prelude.{◌≡◌, ℕ, suc, ◌==◌, ℤ, pos, negsuc, Bool, true, false, ◌&&◌, List, [], ◌∷◌, length, reverse, Option, Some, None, is_some, if◌then◌else◌}
use Rattle.std.specs.Option.{option_or}
use Rattle.actx_event.specs.declared.value.Shown.{Shown}
use Rattle.actx_event.specs.declared.value.Shown.TheVariants.{Undefined, Null, Bool as Truth, Num, Text, Made, Native}
use Rattle.actx_event.specs.declared.event.Event.{Event}
use Rattle.actx_event.specs.declared.bracket.Open.{Open}
use Rattle.actx_event.specs.declared.valid.Failure.{Failure}
use Rattle.actx_event.specs.declared.valid.Rule.{Rule}
use Rattle.actx_event.specs.declared.valid.Rule.TheVariants.{Numbering, Introduction, Nesting, Execution, Reading, Closing}
use Rattle.actx_event.specs.Event.{Binding, resource_made, capture_made, variable_made, closed_bracket, read_said, execution_said, resource_named, capture_named, variable_named}
use Rattle.actx_event.specs.Front.{Front, place_before}
use Rattle.actx_event.specs.Brackets.{opened, has_opener}
use Rattle.actx_event.specs.Execution.{exec}
use Rattle.actx_event.specs.Walk.{nearest_binding}

-- the rules are numbered in the order in which they are looked at
abbrev pub rule_number : Rule → ℕ
rule_number Numbering = 1
rule_number Introduction = 2
rule_number Nesting = 3
rule_number Execution = 4
rule_number Reading = 5
rule_number Closing = 6

-- whether two values are the same
abbrev pub same_integer : ℤ → ℤ → Bool
same_integer (pos m) (pos n) = m == n
same_integer (negsuc m) (negsuc n) = m == n
same_integer _ _ = false

abbrev pub same_truth : Bool → Bool → Bool
same_truth true b = b
same_truth false true = false
same_truth false false = true

abbrev pub same_units : List ℕ → List ℕ → Bool
same_units [] [] = true
same_units (a ∷ xs) (b ∷ ys) = a == b && same_units xs ys
same_units _ _ = false

abbrev pub same_value : Shown → Shown → Bool
same_value Undefined Undefined = true
same_value Null Null = true
same_value (Truth a) (Truth b) = same_truth a b
same_value (Num a) (Num b) = same_integer a b
same_value (Text a) (Text b) = same_units a b
same_value (Made a) (Made b) = a == b
same_value (Native a) (Native b) = a == b
same_value _ _ = false

-- how many numbers were made
abbrev pub made_count : (Event → Option ℕ) → Front → ℕ
made_count makes [] = 0
made_count makes (e ∷ es) = if is_some (makes e) then suc (made_count makes es) else made_count makes es

-- whether a number is the next one
abbrev pub is_next : Option ℕ → ℕ → Bool
is_next None n = true
is_next (Some i) n = i == suc n

-- the k-th resource, capture and variable have number k
abbrev pub is_numbered : Event → Front → Bool
is_numbered e es =
    is_next (resource_made e) (made_count resource_made es) &&
    is_next (capture_made e) (made_count capture_made es) &&
    is_next (variable_made e) (made_count variable_made es)

-- whether a number was made before
abbrev pub was_made : (Event → Option ℕ) → Option ℕ → Front → Bool
was_made makes None es = true
was_made makes (Some i) es = is_some (place_before makes i es)

-- what an event names was made before
abbrev pub is_introduced : Event → Front → Bool
is_introduced e es =
    was_made resource_made (resource_named e) es &&
    was_made capture_made (capture_named e) es &&
    was_made variable_made (variable_named e) es

-- a closing event has an opener
abbrev pub is_nested : Event → Front → Bool
is_nested e es = has_opener (closed_bracket e) (opened es)

abbrev pub is_this : Option ℕ → ℕ → Bool
is_this None n = true
is_this (Some i) n = i == n

-- an `init` says the execution identifier of its place
abbrev pub is_executed : Event → Front → Bool
is_executed e es = is_this (execution_said e) (exec es)

abbrev pub gives_nearest : Option Binding → Front → Bool
gives_nearest None es = true
gives_nearest (Some b) es = same_value b.value (nearest_binding es b.variable)

-- a `get` says the nearest binding's value
abbrev pub is_read : Event → Front → Bool
is_read e es = gives_nearest (read_said e) es

-- the rule where it is broken, else a later one
abbrev pub unless : Bool → Rule → Option Rule → Option Rule
unless true r later = later
unless false r later = Some r

-- the first rule that an event breaks
abbrev pub broken_rule : Event → Front → Option Rule
broken_rule e es =
    unless (is_numbered e es) Numbering (
    unless (is_introduced e es) Introduction (
    unless (is_nested e es) Nesting (
    unless (is_executed e es) Execution (
    unless (is_read e es) Reading None))))

abbrev pub failure_at : ℕ → Option Rule → Option Failure
failure_at n None = None
failure_at n (Some r) = Some (record { place = n; rule = r })

-- the first failure at an event: of the least place, then of the first rule
abbrev pub first_broken : Front → Option Failure
first_broken [] = None
first_broken (e ∷ es) = option_or (first_broken es) (failure_at (length es) (broken_rule e es))

-- nothing is open at the end
abbrev pub left_open : {P : Type 0} → List (Open P) → ℕ → Option Failure
left_open [] n = None
left_open (o ∷ os) n = Some (record { place = n; rule = Closing })

abbrev pub failure_before : Front → Option Failure
failure_before es = option_or (first_broken es) (left_open (opened es) (length es))

-- the first failure of a log, or none
abbrev pub first_failure : List Event → Option Failure
first_failure log = failure_before (reverse log)

abbrev pub IsValid : List Event → Type 0
IsValid log = first_failure log ≡ None
