use Rattle.std.proofs.Common.{sym, arith, w64, ◌<◌, ◌≤◌, ◌^◌}
use Rattle.std.proofs.lemmas.Int.{to_z_pos}
use Rattle.actx_lex.specs.Numbers.{max_safe_integer}
use Rattle.actx_lex.proofs.OneKind.{word-no, word-token, number-no, number-token, text-no, text-token, sign-no, sign-token, first-scans, later-scans}
use Rattle.actx_lex.proofs.lex.token.Goals as goal

pub returns-in-None : goal.returns-in-None
returns-in-None c = word-no _ _ (sym c.in-Word.ensures) (rw c.in-None.is at c.in_ok-word-in-Word.ensures)

pub returns-in-Some : goal.returns-in-Some
returns-in-Some c = rw c.word_kind.ensures (word-token _ _ _ _ (sym c.in-Word.ensures) (rw c.in-Some.is at c.in_ok-word-in-Word.ensures))

pub returns-in-None-number : goal.returns-in-None-number
returns-in-None-number c = number-no _ _ (sym c.in-Number.ensures) c.in-None-number.ensures.number

pub returns-in-Some-number : goal.returns-in-Some-number
returns-in-Some-number c =
    let l : c.in-Some-number.value ≤ max_safe_integer = c.in-Some-number.ensures.small in
    let small : c.in-Some-number.value < 2 ^ 63 = omega arith in
    rw (to_z_pos w64 c.in-Some-number.value small) (number-token _ _ _ _ (sym c.in-Number.ensures) c.in-Some-number.ensures.number)

pub returns-in-None-2 : goal.returns-in-None-2
returns-in-None-2 c = text-no _ _ (sym c.in-Text.ensures) (rw c.in-None-2.is at c.in_ok-quoted-in-Text.ensures)

pub returns-in-Some-2 : goal.returns-in-Some-2
returns-in-Some-2 c = text-token _ _ _ _ (sym c.in-Text.ensures) (rw c.in-Some-2.is at c.in_ok-quoted-in-Text.ensures)

pub returns-in-None-sign : goal.returns-in-None-sign
returns-in-None-sign c = sign-no _ _ (sym c.in-Sign.ensures) c.in-None-sign.ensures

pub returns-in-Some-sign : goal.returns-in-Some-sign
returns-in-Some-sign c = sign-token _ _ _ _ (sym c.in-Sign.ensures) c.in-Some-sign.ensures

pub returns-in-FirstPiece : goal.returns-in-FirstPiece
returns-in-FirstPiece c = first-scans _ _ _ _ (sym c.in-FirstPiece.ensures) c.piece_token.ensures

pub returns-in-LaterPiece : goal.returns-in-LaterPiece
returns-in-LaterPiece c = later-scans _ _ _ _ (sym c.in-LaterPiece.ensures) c.piece_token-in-LaterPiece.ensures
