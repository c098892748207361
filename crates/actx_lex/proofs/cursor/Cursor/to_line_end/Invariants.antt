use Rattle.std.proofs.Common.{◌≡◌, length}
use Rattle.actx_lex.specs.Readers.{to_line_end}
use Rattle.actx_lex.proofs.cursor.Cursor.to_line_end.Given as goal

abbrev pub invariant-loop-left : goal.invariant-loop-left
invariant-loop-left l = to_line_end l.fn.self ≡ to_line_end l.left

abbrev pub decreases-loop-left : goal.decreases-loop-left
decreases-loop-left l = length l.left
