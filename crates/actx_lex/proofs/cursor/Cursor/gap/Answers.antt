use Rattle.std.proofs.Common.{sym}
use Rattle.actx_lex.proofs.Gaps.{goes_on, ends_here}
use Rattle.actx_lex.proofs.GapItems.{shorter}
use Rattle.actx_lex.proofs.cursor.Cursor.gap.Goals as goal

pub loop-found-smaller : goal.loop-found-smaller
loop-found-smaller c = shorter c.loop-found.self _ (sym c.in-Some.ensures)

pub loop-found-preserved : goal.loop-found-preserved
loop-found-preserved c = goes_on c.loop-found.line c.loop-found.self _ c.loop-found.invariant (sym c.in-Some.ensures)

pub returns-clause-gap : goal.returns-clause-gap
returns-clause-gap c = ends_here c.loop-found.line c.loop-found.invariant
