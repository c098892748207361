-- What each operator gives, where `texts` are the texts by number (ECMA-262 §13.15.3, §13.15.4).
use Rattle.std.specs.Prelude.{ℕ, Bool, true, false, not, ◌&&◌, ◌||◌, ◌==◌, ◌++◌, ℤ, int_lt, List, Option, Some, None, if◌then◌else◌}
use Rattle.std.specs.Option.{option_map}
use Rattle.std.specs.Ordering.{int_eq, nat_cmp, is_lt}
use Rattle.std.specs.Cmp.Lexicographic.{slice_cmp}
use Rattle.actx_value.specs.Texts.{text_at, texts_eq}
use Rattle.actx_value.specs.declared.value.Value.{Value}
use Rattle.actx_value.specs.declared.value.Value.TheVariants.{Undefined, Null, Bool as Truth, Num, Text, Object, Scope, Mark}
use Rattle.actx_value.specs.declared.operator.Op.{Op}
use Rattle.actx_value.specs.declared.operator.Op.TheVariants.{Negate, ToNumber, Add, Subtract, Multiply, Divide, Remainder, Less, Greater, LessOrEqual, GreaterOrEqual, Equal, NotEqual, StrictlyEqual, StrictlyNotEqual}
use Rattle.actx_value.specs.declared.end.Reason.TheVariants.{Number, Conversion}
use Rattle.actx_ops.specs.declared.out.OpOut.{OpOut}
use Rattle.actx_ops.specs.declared.out.OpOut.TheVariants.{Value as Gives, OutOfProfile}
use Rattle.actx_ops.specs.Numbers.{safe, sum_of, difference_of, product_of, quotient_of, remainder_of, negation_of}
use Rattle.actx_ops.specs.Conversions.{number_of_value, text_of_value, new_text}

-- a number, or none in the profile
abbrev pub number_out : Option ℤ → OpOut
number_out (Some n) = Gives (Num n)
number_out None = OutOfProfile Number

-- true or false, or no conversion
abbrev pub truth_out : Option Bool → OpOut
truth_out (Some b) = Gives (Truth b)
truth_out None = OutOfProfile Conversion

abbrev pub pair_of : {A : Type 0} → Option A → Option A → Option (A × A)
pair_of None b = None
pair_of (Some x) None = None
pair_of (Some x) (Some y) = Some (x, y)

-- both values as numbers
abbrev pub numbers_of : List (List ℕ) → Value → Value → Option (ℤ × ℤ)
numbers_of texts a b = pair_of (number_of_value texts a) (number_of_value texts b)

-- an operator on one number, after the conversion
abbrev pub with_number : (ℤ → Option ℤ) → Option ℤ → OpOut
with_number f None = OutOfProfile Conversion
with_number f (Some n) = number_out (f n)

-- an operator on two numbers, after their conversion
abbrev pub with_numbers : (ℤ → ℤ → Option ℤ) → Option (ℤ × ℤ) → OpOut
with_numbers f None = OutOfProfile Conversion
with_numbers f (Some p) = number_out (f p.0 p.1)

abbrev pub is_text : Value → Bool
is_text (Text t) = true
is_text v = false

-- both values as one text
abbrev pub joined : Option (List ℕ × List ℕ) → Option (List ℕ)
joined p = option_map (λ q. q.0 ++ q.1) p

-- `+` (§13.15.3): a text on either side joins both as texts
abbrev pub added : List (List ℕ) → Value → Value → OpOut
added texts a b =
    if is_text a || is_text b then new_text (joined (pair_of (text_of_value texts a) (text_of_value texts b)))
    else with_numbers sum_of (numbers_of texts a b)

-- whether a is less than b (IsLessThan, §7.2.13): two texts by their units, other values as numbers
abbrev pub less_than : List (List ℕ) → Value → Value → Option Bool
less_than texts (Text s) (Text t) = Some (is_lt (slice_cmp nat_cmp (text_at texts s.0) (text_at texts t.0)))
less_than texts a b = option_map (λ p. int_lt p.0 p.1) (numbers_of texts a b)

-- IsStrictlyEqual (§7.2.16): the same type and the same value
abbrev pub strictly_equal : List (List ℕ) → Value → Value → Bool
strictly_equal texts Undefined Undefined = true
strictly_equal texts Null Null = true
strictly_equal texts (Truth true) (Truth b) = b
strictly_equal texts (Truth false) (Truth b) = not b
strictly_equal texts (Num m) (Num n) = int_eq m n
strictly_equal texts (Text s) (Text t) = texts_eq (text_at texts s.0) (text_at texts t.0)
strictly_equal texts (Object o) (Object p) = o.0 == p.0
strictly_equal texts (Scope s) (Scope t) = s.0 == t.0
strictly_equal texts Mark Mark = true
strictly_equal texts a b = false

abbrev pub is_nullish : Value → Bool
is_nullish Undefined = true
is_nullish Null = true
is_nullish v = false

abbrev pub is_same_type : Value → Value → Bool
is_same_type Undefined Undefined = true
is_same_type Null Null = true
is_same_type (Truth a) (Truth b) = true
is_same_type (Num m) (Num n) = true
is_same_type (Text s) (Text t) = true
is_same_type (Object o) (Object p) = true
is_same_type (Scope s) (Scope t) = true
is_same_type Mark Mark = true
is_same_type a b = false

-- IsLooselyEqual (§7.2.15): `undefined` and `null` equal each other and nothing else, one type is as
-- by `===`, and two types are compared as numbers
abbrev pub loosely_equal : List (List ℕ) → Value → Value → Option Bool
loosely_equal texts a b =
    if is_nullish a || is_nullish b then Some (is_nullish a && is_nullish b)
    else if is_same_type a b then Some (strictly_equal texts a b)
    else option_map (λ p. int_eq p.0 p.1) (numbers_of texts a b)

-- the operators; a unary one doesn't look at b
abbrev pub applied : List (List ℕ) → Op → Value → Value → OpOut
applied texts Negate a b = with_number negation_of (number_of_value texts a)
applied texts ToNumber a b = with_number safe (number_of_value texts a)
applied texts Add a b = added texts a b
applied texts Subtract a b = with_numbers difference_of (numbers_of texts a b)
applied texts Multiply a b = with_numbers product_of (numbers_of texts a b)
applied texts Divide a b = with_numbers quotient_of (numbers_of texts a b)
applied texts Remainder a b = with_numbers remainder_of (numbers_of texts a b)
applied texts Less a b = truth_out (less_than texts a b)
applied texts Greater a b = truth_out (less_than texts b a)
applied texts LessOrEqual a b = truth_out (option_map not (less_than texts b a))
applied texts GreaterOrEqual a b = truth_out (option_map not (less_than texts a b))
applied texts Equal a b = truth_out (loosely_equal texts a b)
applied texts NotEqual a b = truth_out (option_map not (loosely_equal texts a b))
applied texts StrictlyEqual a b = truth_out (Some (strictly_equal texts a b))
applied texts StrictlyNotEqual a b = truth_out (Some (not (strictly_equal texts a b)))
