-- Counting down.
use Rattle.std.specs.Prelude.{ℕ, zero, suc, Option, Some, None}

-- one less, or nothing for 0
abbrev pub less_one : ℕ → Option ℕ
less_one zero = None
less_one (suc n) = Some n
