use Rattle.std.proofs.Common.{◌≡◌, length, false}
use Rattle.actx_lex.specs.Readers.{to_star}
use Rattle.actx_lex.proofs.cursor.Cursor.to_star.Given as goal

abbrev pub invariant-loop-left : goal.invariant-loop-left
invariant-loop-left l = to_star false l.fn.self ≡ to_star l.line l.left

abbrev pub decreases-loop-left : goal.decreases-loop-left
decreases-loop-left l = length l.left
