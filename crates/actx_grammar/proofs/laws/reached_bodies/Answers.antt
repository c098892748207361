use Rattle.actx_grammar.proofs.ReachLines as reached
use Rattle.actx_grammar.proofs.laws.reached_bodies.Goals as goal

pub returns-clause-expr : goal.returns-clause-expr
returns-clause-expr c = λ x h d a b s. reached.reach-expr s d

pub returns-clause-assign : goal.returns-clause-assign
returns-clause-assign c = λ x h d a b s. reached.reach-assign s d

pub returns-clause-left : goal.returns-clause-left
returns-clause-left c = λ x h d a b s. reached.reach-left s d

pub returns-clause-target : goal.returns-clause-target
returns-clause-target c = λ x h d a b s. reached.reach-target s d

pub returns-clause-params : goal.returns-clause-params
returns-clause-params c = λ x h d a b s. reached.reach-params s d
