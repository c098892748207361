use Rattle.std.proofs.Common.{arith}
use Rattle.actx_grammar.proofs.SizeLines as sized
use Rattle.actx_grammar.proofs.laws.small_trees.Goals as goal

pub returns-clause-expr : goal.returns-clause-expr
returns-clause-expr c = λ x h d a b s. let e = sized.size-expr s d in omega arith

pub returns-clause-assign : goal.returns-clause-assign
returns-clause-assign c = λ x h d a b s. let e = sized.size-assign s d in omega arith

pub returns-clause-left : goal.returns-clause-left
returns-clause-left c = λ x h d a b s. let e = sized.size-left s d in omega arith

pub returns-clause-target : goal.returns-clause-target
returns-clause-target c = λ x h d a b s. let e = sized.size-target s d in omega arith

pub returns-clause-params : goal.returns-clause-params
returns-clause-params c = λ x h d a b s. let e = sized.size-params s d in omega arith
