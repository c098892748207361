-- Unicode scalar values.
use Rattle.std.specs.Prelude.{ℕ, ◌≤◌, ◌⊎◌}

-- a code point that is no surrogate (the Unicode Standard §3.9, "Unicode scalar value")
abbrev pub IsScalar : ℕ → Type 0
IsScalar c = (c ≤ 0xD7FF) ⊎ ((0xE000 ≤ c) × (c ≤ 0x10FFFF))
