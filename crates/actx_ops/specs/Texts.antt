-- Numbers that texts spell in decimal. A text does so where it is `0`, or an optional `-` and digits
-- without a leading 0: the texts that Number::toString (ECMA-262 §6.1.6.1.20) gives for safe integers.
use Rattle.std.specs.Prelude.{ℕ, suc, zero, ◌&&◌, ◌==◌, nat_le, ℤ, pos, negsuc, List, [], ◌∷◌, Option, Some, None, if◌then◌else◌, option_and_then}
use Rattle.std.specs.Fmt.{decimal}
use Rattle.std.specs.Option.{option_map}
use Rattle.std.specs.Str.Parse.{digits_value}
use Rattle.actx_value.specs.Texts.{texts_eq}
use Rattle.actx_ops.specs.Numbers.{greatest_safe}

-- the number whose digits these are, where it is safe
abbrev pub natural_in : List ℕ → Option ℕ
natural_in digits =
    let n = digits_value 10 digits in
    if texts_eq (decimal n) digits && nat_le n greatest_safe then Some n else None

-- a number above 0 as a negative one
abbrev pub negative : ℕ → Option ℤ
negative zero = None
negative (suc n) = Some (negsuc n)

-- the safe integer that a text spells; 45 is `-`
abbrev pub number_in : List ℕ → Option ℤ
number_in [] = None
number_in (u ∷ us) = if u == 45 then option_and_then negative (natural_in us) else option_map pos (natural_in (u ∷ us))

-- the greatest array index (ECMA-262 §6.1.7)
abbrev pub greatest_index : ℕ
greatest_index = 4294967294

abbrev pub index_up_to_greatest : ℕ → Option ℕ
index_up_to_greatest n = if nat_le n greatest_index then Some n else None

-- the array index that a text spells
abbrev pub index_in : List ℕ → Option ℕ
index_in text = option_and_then index_up_to_greatest (natural_in text)

-- the array index that a number is
abbrev pub index_of : ℤ → Option ℕ
index_of (pos n) = index_up_to_greatest n
index_of (negsuc n) = None
