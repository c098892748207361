use Rattle.std.proofs.Common.{◌≡◌, length}
use Rattle.actx_lex.specs.Readers.{first_sign}
use Rattle.actx_lex.proofs.cursor.Cursor.first_sign.Given as goal

abbrev pub invariant-loop-left : goal.invariant-loop-left
invariant-loop-left l = first_sign l.signs l.in_template l.self ≡ first_sign l.left l.in_template l.self

abbrev pub decreases-loop-left : goal.decreases-loop-left
decreases-loop-left l = length l.left
