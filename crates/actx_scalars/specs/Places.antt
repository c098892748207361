-- Places in a text of this length.
use Rattle.std.specs.Prelude.{ℕ, suc, ◌-◌, min, ℤ, pos, negsuc}

-- a position as a place between 0 and the length (as in ECMA-262 §22.1.3.9)
abbrev pub clamped : ℕ → ℤ → ℕ
clamped len (pos n) = min n len
clamped len (negsuc n) = 0

-- the same, where a position below 0 counts from the end (as in §22.1.3.22); `negsuc n` is −(n + 1)
abbrev pub relative : ℕ → ℤ → ℕ
relative len (pos n) = min n len
relative len (negsuc n) = len - suc n
