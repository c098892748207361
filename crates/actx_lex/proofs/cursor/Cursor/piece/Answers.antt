use Rattle.std.proofs.Common.{sym, subst}
use Rattle.actx_lex.specs.Parts.{Parts}
use Rattle.actx_lex.specs.Templates.{TemplatePart}
use Rattle.actx_lex.proofs.Quotes.{piece-found, piece-none}
use Rattle.actx_lex.proofs.cursor.Cursor.piece.Goals as goal

pub returns-in-None : goal.returns-in-None
returns-in-None c =
    let e = c.in_ok-units.ensures in
    piece-none _ _ c.in_ok-units.units.items (subst (λ x. Parts TemplatePart c.in_ok-units.units.items x c.template_parts.new.self) c.again-left.ensures e.spelled) e.whole (sym c.in-None.ensures)

pub returns-in-Some : goal.returns-in-Some
returns-in-Some c =
    let e = c.in_ok-units.ensures in
    rw c.from_units.ensures
    (piece-found _ _ c.in_ok-units.units.items _ _ (subst (λ x. Parts TemplatePart c.in_ok-units.units.items x c.template_parts.new.self) c.again-left.ensures e.spelled) e.whole (sym c.in-Some.ensures))
