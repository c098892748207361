-- Numbers, and what is noted under them. Where a number is noted several times, the first one counts.
use Rattle.std.specs.Prelude.{ℕ, ◌==◌, List, [], ◌∷◌, Option, Some, None, if◌then◌else◌}
use Rattle.std.specs.Option.{option_or}

-- a number, and what is noted under it
pub record Noted (A : Type 0) : Type 0 where
  pub number : ℕ
  pub noted : A

-- what is noted under this number
abbrev pub noted_under : {A : Type 0} → ℕ → Option (Noted A) → Option A
noted_under i None = None
noted_under i (Some n) = if i == n.number then Some n.noted else None

-- the first note under a number, of notes that stand newest first
abbrev pub first_noted : {A : Type 0} → ℕ → List (Noted A) → Option A
first_noted i [] = None
first_noted i (n ∷ ns) = option_or (first_noted i ns) (noted_under i (Some n))

-- the notes with a further one
abbrev pub with_note : {A : Type 0} → Option (Noted A) → List (Noted A) → List (Noted A)
with_note None ns = ns
with_note (Some n) ns = n ∷ ns
