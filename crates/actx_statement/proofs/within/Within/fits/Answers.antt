use Rattle.std.proofs.Common.{arith}
use Rattle.actx_statement.proofs.Insides.{allowed, refused}
use Rattle.actx_statement.proofs.within.Within.fits.Goals as goal

pub returns-then-levels-self-clause-reads : goal.returns-then-levels-self-clause-reads
returns-then-levels-self-clause-reads g c = λ i. allowed c.args.self.now.room c.args.levels i (omega arith)

pub returns-else-levels-self-clause-reads : goal.returns-else-levels-self-clause-reads
returns-else-levels-self-clause-reads g c = λ i _. refused c.args.self.now.room c.args.levels i (omega arith)
