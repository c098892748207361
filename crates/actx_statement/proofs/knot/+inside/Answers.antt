use Rattle.std.proofs.Common.{arith}
use Rattle.actx_program.specs.StatementReader.{inside}
use Rattle.actx_pattern.proofs.Turns.{deeper}
use Rattle.actx_statement.proofs.knot.+inside.Goals as goal

pub read_stmt-returns-clause-reads : goal.read_stmt-returns-clause-reads
unfolding inside
read_stmt-returns-clause-reads t c = rw (deeper (λ n. (inside n).stmt c.args.cursor.now) c.args.limit (omega arith)) c.statement.ensures.reads

pub read_item-returns-clause-reads : goal.read_item-returns-clause-reads
unfolding inside
read_item-returns-clause-reads t c = rw (deeper (λ n. (inside n).item c.args.cursor.now) c.args.limit (omega arith)) c.an_item.ensures.reads
