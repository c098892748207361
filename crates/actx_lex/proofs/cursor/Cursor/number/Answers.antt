use Rattle.std.proofs.Common.{sym, ◌∙◌}
use Rattle.actx_lex.proofs.Numbers.{naught-found, number-found, naught-none, number-none, number-large, number-other}
use Rattle.actx_lex.proofs.cursor.Cursor.number.Goals as goal

pub returns-then-ends_number-clause-number : goal.returns-then-ends_number-clause-number
returns-then-ends_number-clause-number c = naught-found _ _ c.if-first-eq0.true (sym c.in-Some.ensures.value) (sym c.ends_number.ensures ∙ c.if-ends_number.true)

pub returns-in_default-digits-clause-number : goal.returns-in_default-digits-clause-number
returns-in_default-digits-clause-number c =
    let e = c.in_default-digits.ensures in
    number-large _ c.in-Some.left e.1 e.0 c.if-first-eq0.false (sym c.in-Some.ensures.value) e.2 e.3

pub returns-then-ends_number-2-clause-number : goal.returns-then-ends_number-2-clause-number
returns-then-ends_number-2-clause-number c =
    let e = c.in-Some-digits.ensures in
    number-found _ c.in-Some.left _ _ c.if-first-eq0.false (sym c.in-Some.ensures.value) e.0 e.2 (sym c.ends_number-2.ensures ∙ c.if-ends_number-2.true)

pub returns-else-ends_number-2-clause-number : goal.returns-else-ends_number-2-clause-number
returns-else-ends_number-2-clause-number c =
    let e = c.in-Some-digits.ensures in
    number-none _ c.in-Some.left _ _ c.if-first-eq0.false (sym c.in-Some.ensures.value) e.0 e.1 (sym c.ends_number-2.ensures ∙ c.if-ends_number-2.false)

pub returns-in_default-clause-number : goal.returns-in_default-clause-number
returns-in_default-clause-number c = number-other _ (sym c.in_default.ensures.value)

pub returns-then-first-eq0-clause-number : goal.returns-then-first-eq0-clause-number
returns-then-first-eq0-clause-number c = naught-none _ _ c.if-first-eq0.true (sym c.in-Some.ensures.value) (sym c.ends_number.ensures ∙ c.if-ends_number.false)
