-- The standard limits of a run.
use Rattle.std.specs.Prelude.{ℕ, ◌≤◌}

-- the most of each count
abbrev pub most_calls : ℕ
most_calls = 4000

abbrev pub most_objects : ℕ
most_objects = 2000000

abbrev pub most_properties : ℕ
most_properties = 8000000

abbrev pub most_cells : ℕ
most_cells = 8000000

abbrev pub most_text : ℕ
most_text = 67108864

abbrev pub most_bindings : ℕ
most_bindings = 1000000

abbrev pub most_variables : ℕ
most_variables = 1024

abbrev pub most_resources : ℕ
most_resources = 2000000

abbrev pub most_turns : ℕ
most_turns = 1000000

-- a number from 1 to this one
abbrev pub IsFromOneTo : ℕ → ℕ → Type 0
IsFromOneTo most n = (1 ≤ n) × (n ≤ most)
