use Rattle.std.proofs.Common.{length}
use Rattle.actx_lex.proofs.Gaps.{Goes}
use Rattle.actx_lex.proofs.cursor.Cursor.gap.Given as goal

abbrev pub invariant-loop-found : goal.invariant-loop-found
invariant-loop-found l = Goes l.fn.self l.line l.self

abbrev pub decreases-loop-found : goal.decreases-loop-found
decreases-loop-found l = length l.self
