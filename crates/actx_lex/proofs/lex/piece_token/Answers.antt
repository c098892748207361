use Rattle.actx_lex.proofs.OneKind.{piece-token, piece-no}
use Rattle.actx_lex.proofs.lex.piece_token.Goals as goal

pub returns-in-None : goal.returns-in-None
returns-in-None c = piece-no _ _ (rw c.rest-after.ensures at (rw c.in-None.is at c.in_ok-piece.ensures))

pub returns-in-Some : goal.returns-in-Some
returns-in-Some c = piece-token _ _ _ _ _ (rw c.rest-after.ensures at (rw c.in-Some.is at c.in_ok-piece.ensures))
