use Rattle.actx_grammar.proofs.TopLaws as law
use Rattle.actx_grammar.proofs.laws.one_assign.Goals as goal

pub returns : goal.returns
returns c = law.one_assign
