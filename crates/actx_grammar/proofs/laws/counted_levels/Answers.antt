use Rattle.actx_grammar.proofs.LevelLines as levels
use Rattle.actx_grammar.proofs.LowLines as low
use Rattle.actx_grammar.proofs.laws.counted_levels.Goals as goal

pub returns-clause-expr : goal.returns-clause-expr
returns-clause-expr c = λ x h a b s. (levels.levels-expr s, low.low-expr s)

pub returns-clause-assign : goal.returns-clause-assign
returns-clause-assign c = λ x h a b s. (levels.levels-assign s, low.low-assign s)

pub returns-clause-left : goal.returns-clause-left
returns-clause-left c = λ x h a b s. (levels.levels-left s, low.low-left s)

pub returns-clause-target : goal.returns-clause-target
returns-clause-target c = λ x h a b s. (levels.levels-target s, low.low-target s)

pub returns-clause-params : goal.returns-clause-params
returns-clause-params c = λ x h a b s. (levels.levels-params s, low.low-params s)
