use Rattle.std.proofs.Common.{length}
use Rattle.actx_lex.proofs.Words.{Joins}
use Rattle.actx_lex.proofs.cursor.Cursor.word.Given as goal

abbrev pub invariant-loop-after : goal.invariant-loop-after
invariant-loop-after l = Joins l.initial.end l.end

abbrev pub decreases-loop-after : goal.decreases-loop-after
decreases-loop-after l = length l.end
