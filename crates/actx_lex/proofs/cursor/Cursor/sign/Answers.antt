use Rattle.std.proofs.Common.{sym, ◌∙◌}
use Rattle.actx_lex.proofs.Signs.{sign_at-first, sign-found, sign-none}
use Rattle.actx_lex.proofs.cursor.Cursor.sign.Goals as goal

pub returns-in-None : goal.returns-in-None
returns-in-None c = sign-none _ _ (sym (sign_at-first _ _) ∙ sym c.in-None.ensures)

pub returns-in-Some : goal.returns-in-Some
returns-in-Some c = sign-found _ _ _ _ (sym (sign_at-first _ _) ∙ sym c.in-Some.ensures)
