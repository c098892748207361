-- Arithmetic on safe integers (ECMA-262 §6.1.6.1). There is no answer where ECMA-262 gives another
-- number: a fraction, not a number, infinite, −0, or an integer that is not safe.
use Rattle.std.specs.Prelude.{ℕ, suc, zero, Bool, true, false, not, ◌&&◌, ◌||◌, nat_le, nat_lt, ℤ, pos, negsuc, ◌+ℤ◌, ◌-ℤ◌, ◌*ℤ◌, neg_ℤ, int_div, int_rem, Option, Some, None, if◌then◌else◌}

-- Number.MAX_SAFE_INTEGER (§21.1.2.6)
abbrev pub greatest_safe : ℕ
greatest_safe = 9007199254740991

-- whether an integer is safe; `negsuc n` is −(n + 1)
abbrev pub is_safe : ℤ → Bool
is_safe (pos n) = nat_le n greatest_safe
is_safe (negsuc n) = nat_lt n greatest_safe

abbrev pub is_zero : ℤ → Bool
is_zero (pos zero) = true
is_zero (pos (suc n)) = false
is_zero (negsuc n) = false

abbrev pub is_below_zero : ℤ → Bool
is_below_zero (pos n) = false
is_below_zero (negsuc n) = true

-- an integer where it is safe
abbrev pub safe : ℤ → Option ℤ
safe n = if is_safe n then Some n else None

-- a + b (Number::add, §6.1.6.1.7)
abbrev pub sum_of : ℤ → ℤ → Option ℤ
sum_of a b = safe (a +ℤ b)

-- a − b (Number::subtract, §6.1.6.1.8)
abbrev pub difference_of : ℤ → ℤ → Option ℤ
difference_of a b = safe (a -ℤ b)

-- a · b (Number::multiply, §6.1.6.1.4); 0 times a negative number is −0
abbrev pub product_of : ℤ → ℤ → Option ℤ
product_of a b = if is_zero (a *ℤ b) && (is_below_zero a || is_below_zero b) then None else safe (a *ℤ b)

-- a / b (Number::divide, §6.1.6.1.5); 0 by a negative number is −0, and by 0 none is finite
abbrev pub quotient_of : ℤ → ℤ → Option ℤ
quotient_of a b =
    if is_zero b || not (is_zero (int_rem a b)) || (is_zero a && is_below_zero b) then None else safe (int_div a b)

-- a % b (Number::remainder, §6.1.6.1.6), with the sign of a; a negative number without remainder
-- leaves −0
abbrev pub remainder_of : ℤ → ℤ → Option ℤ
remainder_of a b =
    if is_zero b || (is_zero (int_rem a b) && is_below_zero a) then None else safe (int_rem a b)

-- −a (Number::unaryMinus, §6.1.6.1.1); of 0 it is −0
abbrev pub negation_of : ℤ → Option ℤ
negation_of a = if is_zero a then None else safe (neg_ℤ a)
