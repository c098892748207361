use Rattle.actx_program.proofs.StatementLevels as levels
use Rattle.actx_program.proofs.StatementLow as low
use Rattle.actx_program.proofs.laws.counted_levels.Goals as goal

pub returns-clause-stmt : goal.returns-clause-stmt
returns-clause-stmt c = λ x h a b s. (levels.levels-stmt s, low.low-stmt s)

pub returns-clause-items : goal.returns-clause-items
returns-clause-items c = λ xs h a b s. (levels.levels-items s, low.low-items s)
