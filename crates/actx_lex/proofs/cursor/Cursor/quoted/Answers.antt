use Rattle.std.proofs.Common.{sym, ◌∙◌}
use Rattle.actx_lex.proofs.Quotes.{quoted-found, quoted-none, quoted-other}
use Rattle.actx_lex.proofs.cursor.Cursor.quoted.Goals as goal

pub returns-in_default : goal.returns-in_default
returns-in_default c = quoted-other _ (sym c.in_default.ensures)

pub returns-then-begins : goal.returns-then-begins
returns-then-begins c =
    let e = c.in_ok-units.ensures in
    rw c.rest.ensures (rw c.from_units.ensures (quoted-found _ c.in-Some.left _ _ c.in-Some.quote (sym c.in-Some.ensures) e.spelled e.whole (sym c.begins.ensures ∙ c.if-begins.true)))

pub returns-else-begins : goal.returns-else-begins
returns-else-begins c =
    let e = c.in_ok-units.ensures in
    quoted-none _ c.in-Some.left _ _ c.in-Some.quote (sym c.in-Some.ensures) e.spelled e.whole (sym c.begins.ensures ∙ c.if-begins.false)
