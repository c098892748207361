use Rattle.std.proofs.Common.{◌≡◌, ◌≢◌, ◌<◌, ◌≤◌, ◌+◌, ◌*◌, ◌∙◌, ℕ, List, length, get_or, drop, sym, subst, ap, arith}
use Rattle.std.proofs.lemmas.Bool.{eqb-true, eq-eqb, true≢false}
use Rattle.std.proofs.lemmas.List.{take_all, drop_all}
use Rattle.std.specs.Str.Parse.{AllDigits, digits_value, digits_value_after}
use Rattle.actx_ops.proofs.DecimalLemmas.{natural_some, natural_none, not_empty, no_leading_zero, digits_alone, text_of_value, value_step, digits_step, too_great}
use Rattle.actx_ops.proofs.decimal.natural_in.Goals as goal
use Rattle.actx_ops.proofs.decimal.natural_in.Goals.{else-digits-eq-ZERO-via-then-digits-eq-ZERO+else-digits-gt1, else-digits-eq-ZERO-via-else-digits-eq-ZERO, then-digit-lt-ZERO-via-then-digit-lt-ZERO, then-digit-lt-ZERO-via-else-digit-lt-ZERO+then-digit-gt-NINE}

pub returns-then-is_empty : goal.returns-then-is_empty
returns-then-is_empty c =
    let none : length c.args.digits.now ≡ 0 = eqb-true _ _ (sym c.is_empty.ensures ∙ c.if-is_empty.true) in
    natural_none c.args.digits.now (λ n is. omega (arith, none, not_empty c.args.digits.now n is))

pub returns-then-digits-gt1 : goal.returns-then-digits-gt1
returns-then-digits-gt1 c = natural_none c.args.digits.now (λ n is. omega (arith, no_leading_zero c.args.digits.now n is c.if-digits-eq-ZERO.true))

pub returns-then-digit-lt-ZERO : goal.returns-then-digit-lt-ZERO
returns-then-digit-lt-ZERO c =
    let within : c.loop-digit.digit-index < length c.args.digits.now = omega arith in
    natural_none c.args.digits.now (λ n is.
    let digit = digits_alone c.args.digits.now n is c.loop-digit.digit-index within in
    elim c.then-digit-lt-ZERO.branch [
      | then-digit-lt-ZERO-via-then-digit-lt-ZERO w ↦ omega (arith, digit)
      | then-digit-lt-ZERO-via-else-digit-lt-ZERO+then-digit-gt-NINE w ↦ omega (arith, digit)
    ])

pub returns-then-n : goal.returns-then-n
returns-then-n c =
    let digits : List ℕ = c.args.digits.now in
    let i : ℕ = c.loop-digit.digit-index in
    let d : ℕ = c.from.result in
    let within : i < length digits = omega arith in
    let low : 48 ≤ get_or digits i 0 = omega arith in
    let high : get_or digits i 0 ≤ 57 = omega arith in
    let is : d + 48 ≡ get_or digits i 0 = omega arith in
    let value : digits_value_after 10 (c.loop-digit.n * 10 + d) (drop (i + 1) digits) ≡ digits_value 10 digits = value_step digits c.loop-digit.n i d within low high is ∙ c.loop-digit.invariant.2 in
    natural_none digits (λ n text. too_great digits (c.loop-digit.n * 10 + d) (i + 1) n value (omega arith) text)

pub loop-digit-preserved : goal.loop-digit-preserved
loop-digit-preserved c =
    let digits : List ℕ = c.args.digits.now in
    let i : ℕ = c.loop-digit.digit-index in
    let d : ℕ = c.from.result in
    let within : i < length digits = omega arith in
    let low : 48 ≤ get_or digits i 0 = omega arith in
    let high : get_or digits i 0 ≤ 57 = omega arith in
    let is : d + 48 ≡ get_or digits i 0 = omega arith in
    (omega arith, digits_step digits i within low high c.loop-digit.invariant.1, value_step digits c.loop-digit.n i d within low high is ∙ c.loop-digit.invariant.2)

pub returns : goal.returns
returns c =
    let digits : List ℕ = c.args.digits.now in
    let i : ℕ = c.loop-digit.digit-index in
    let past : length digits ≤ i = omega arith in
    let all : AllDigits 10 digits = subst (AllDigits 10) (take_all i digits past) c.loop-digit.invariant.1 in
    let value : c.loop-digit.n ≡ digits_value 10 digits = ap (digits_value_after 10 c.loop-digit.n) (sym (drop_all i digits past)) ∙ c.loop-digit.invariant.2 in
    let some : length digits ≢ 0 = λ e. true≢false (sym (eq-eqb (length digits) 0 e) ∙ sym c.is_empty.ensures ∙ c.if-is_empty.false) in
    let no_zero : get_or digits 0 0 ≡ 48 → length digits ≡ 1 =
    λ first. elim c.else-digits-eq-ZERO.branch [
      | else-digits-eq-ZERO-via-then-digits-eq-ZERO+else-digits-gt1 w ↦ omega arith
      | else-digits-eq-ZERO-via-else-digits-eq-ZERO w ↦ absurd (w.if-digits-eq-ZERO.false first)
    ] in
    sym (natural_some digits c.loop-digit.n (text_of_value digits c.loop-digit.n all (omega arith) no_zero value c.loop-digit.invariant.0))
