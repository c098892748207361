use Rattle.std.proofs.Common.{arith}
use Rattle.actx_grammar.specs.Lines.{below}
use Rattle.actx_pattern.proofs.Turns.{deeper}
use Rattle.actx_expr.proofs.knot.+knot.Goals as goal

pub below-returns-clause-reads : goal.below-returns-clause-reads
unfolding below
below-returns-clause-reads t c = rw (deeper (λ n. (below n).read c.args.line c.args.cursor.now) c.args.limit (omega arith)) c.line_of.ensures.reads

pub target_below-returns-clause-reads : goal.target_below-returns-clause-reads
unfolding below
target_below-returns-clause-reads t c = rw (deeper (λ n. (below n).target c.args.cursor.now) c.args.limit (omega arith)) c.read_target.ensures.reads
