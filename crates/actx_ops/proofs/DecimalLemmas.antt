-- When digits are the text of a number.
use Rattle.std.proofs.Common.{◌≡◌, ℕ, zero, suc, ◌<◌, ◌≤◌, ◌+◌, ◌*◌, ◌^◌, Bool, true, false, nat_le, List, [], ◌∷◌, length, get_or, take, drop, Option, Some, None, refl, sym, subst, ap, ◌∙◌, arith, drop-cons}
use Rattle.std.proofs.lemmas.Bool.{leb-true, le-leb}
use Rattle.std.proofs.lemmas.Fmt.{decimal_is_IsNumeral, decimal_digit, decimal_nonempty, first_decimal, decimal-digits_value}
use Rattle.std.proofs.lemmas.Str.Parse.{IsNumeralModel, numerals_by_value, tells_digits, digit_at}
use Rattle.std.proofs.lemmas.Str.{digit_value_digit}
use Rattle.std.proofs.lemmas.Int.Digits.{digits_more}
use Rattle.std.specs.Char.{digit_value}
use Rattle.std.specs.Cmp.Lexicographic.{bytes_decides}
use Rattle.std.specs.Fmt.{decimal}
use Rattle.std.specs.Int.{IsInRange}
use Rattle.std.specs.Str.Parse.{AllDigits, digits_value, digits_value_after}
use Rattle.actx_value.specs.Texts.{texts_eq}
use Rattle.actx_ops.specs.Numbers.{greatest_safe}
use Rattle.actx_ops.specs.Texts.{natural_in}

-- the text of n is that of a safe number
pub record IsTextOf (digits : List ℕ) (n : ℕ) : Type 0 where
  pub text : digits ≡ decimal n
  pub safe : n ≤ 9007199254740991

small : (n : ℕ) → n ≤ 9007199254740991 → n < 2 ^ 64
small n h = omega arith

-- its value is that number
pub value_is : (digits : List ℕ) (n : ℕ) → IsTextOf digits n → digits_value 10 digits ≡ n
value_is digits n is = ap (digits_value 10) is.text ∙ (decimal_is_IsNumeral n (small n is.safe)).1

-- such digits have a number, and no others have one
pub natural_some : (digits : List ℕ) (n : ℕ) → IsTextOf digits n → natural_in digits ≡ Some n
natural_some digits n is =
    let value : digits_value 10 digits ≡ n = value_is digits n is in
    let same : texts_eq (decimal n) digits ≡ true = (bytes_decides (decimal n) digits).1 (sym is.text) in
    let fits : nat_le n greatest_safe ≡ true = le-leb n greatest_safe is.safe in
    rw (value, same, fits) refl

pub natural_is : (digits : List ℕ) (n : ℕ) → natural_in digits ≡ Some n → IsTextOf digits n
natural_is digits n h = by (texts_eq (decimal m) digits) (nat_le m greatest_safe) refl refl
  where
    m : ℕ
    m = digits_value 10 digits

    by : (a b : Bool) → texts_eq (decimal (digits_value 10 digits)) digits ≡ a → nat_le (digits_value 10 digits) greatest_safe ≡ b → IsTextOf digits n
    by true true e f =
        let given : Some (digits_value 10 digits) ≡ Some n = sym (rw (e, f) refl) ∙ h in
        let same : digits_value 10 digits ≡ n = cc in
        record { text = sym ((bytes_decides (decimal (digits_value 10 digits)) digits).0 e) ∙ ap decimal same; safe = subst (λ k. k ≤ 9007199254740991) same (leb-true (digits_value 10 digits) greatest_safe f) }
    by true false e f = let none : None ≡ Some n = sym (rw (e, f) refl) ∙ h in cc
    by false b e f = let none : None ≡ Some n = sym (rw e refl) ∙ h in cc

pub natural_none : (digits : List ℕ) → ((n : ℕ) → IsTextOf digits n → ⊥) → None ≡ natural_in digits
natural_none digits never = by (natural_in digits) refl
  where
    by : (o : Option ℕ) → natural_in digits ≡ o → None ≡ natural_in digits
    by None e = sym e
    by (Some n) e = absurd (never n (natural_is digits n e))

-- no text of a number is empty
pub not_empty : (digits : List ℕ) (n : ℕ) → IsTextOf digits n → 0 < length digits
not_empty digits n is = let e : length digits ≡ length (decimal n) = ap length is.text in omega (arith, decimal_nonempty n (small n is.safe))

-- the text of a number begins with 0 only where that is all
pub no_leading_zero : (digits : List ℕ) (n : ℕ) → IsTextOf digits n → get_or digits 0 0 ≡ 48 → length digits ≡ 1
no_leading_zero digits zero is first = ap length (is.text ∙ decimal_digit 0 (omega arith))
no_leading_zero digits (suc n) is first =
    let above : 48 < get_or (decimal (suc n)) 0 0 = first_decimal (suc n) (omega arith) (small (suc n) is.safe) in
    let same : get_or digits 0 0 ≡ get_or (decimal (suc n)) 0 0 = ap (λ ds. get_or ds 0 0) is.text in
    absurd (omega arith)

-- the text of a number has digits alone
pub digits_alone : (digits : List ℕ) (n : ℕ) → IsTextOf digits n → (i : ℕ) → i < length digits → IsInRange 48 57 (get_or digits i 0)
digits_alone digits n is i within =
    let all : AllDigits 10 digits = subst (AllDigits 10) (sym is.text) (decimal_is_IsNumeral n (small n is.safe)).0.1 in
    digit_at digits i all within

own : IsNumeralModel (AllDigits 10) (digits_value 10)
own = numerals_by_value (AllDigits 10) tells_digits

-- digits without a leading 0 are the text of their value
pub text_of_value : (digits : List ℕ) (n : ℕ) → AllDigits 10 digits → 0 < length digits → (get_or digits 0 0 ≡ 48 → length digits ≡ 1) → n ≡ digits_value 10 digits → n ≤ 9007199254740991 → IsTextOf digits n
text_of_value digits n all filled no_zero value safe = record {
  text = sym (ap decimal value ∙ decimal-digits_value own digits all filled no_zero (omega arith));
  safe = safe;
}

-- more digits make no smaller number
pub value_grows : (n : ℕ) (digits : List ℕ) → n ≤ digits_value_after 10 n digits
value_grows n [] = omega arith
value_grows n (c ∷ cs) = omega (arith, value_grows (n * 10 + digit_value c) cs)

-- the value of a digit
digit_value_is : (c : ℕ) → 48 ≤ c → c ≤ 57 → digit_value c + 48 ≡ c
digit_value_is c low high = digit_value_digit c (low, high)

-- one digit more is read
pub value_step : (digits : List ℕ) (n i d : ℕ) → i < length digits → 48 ≤ get_or digits i 0 → get_or digits i 0 ≤ 57 → d + 48 ≡ get_or digits i 0
    → digits_value_after 10 (n * 10 + d) (drop (i + 1) digits) ≡ digits_value_after 10 n (drop i digits)
value_step digits n i d within low high is =
    let value : digit_value (get_or digits i 0) ≡ d = omega (arith, digit_value_is (get_or digits i 0) low high) in
    let next : i + 1 ≡ suc i = omega arith in
    let split : drop i digits ≡ get_or digits i 0 ∷ drop (suc i) digits = drop-cons digits i 0 within in
    sym (ap (digits_value_after 10 n) split ∙ ap (λ v. digits_value_after 10 (n * 10 + v) (drop (suc i) digits)) value ∙ ap (λ k. digits_value_after 10 (n * 10 + d) (drop k digits)) (sym next))

pub digits_step : (digits : List ℕ) (i : ℕ) → i < length digits → 48 ≤ get_or digits i 0 → get_or digits i 0 ≤ 57 → AllDigits 10 (take i digits) → AllDigits 10 (take (i + 1) digits)
digits_step digits i within low high all = digits_more 10 digits i within all (omega (arith, digit_value_is (get_or digits i 0) low high))

-- a value that has grown past the safe numbers is that of no safe number
pub too_great : (digits : List ℕ) (n i m : ℕ) → digits_value_after 10 n (drop i digits) ≡ digits_value 10 digits → 9007199254740991 < n → IsTextOf digits m → ⊥
too_great digits n i m value over is = omega (arith, value_grows n (drop i digits), value, value_is digits m is, is.safe)
