use Rattle.actx_grammar.proofs.TopLaws as law
use Rattle.actx_grammar.proofs.laws.one_target.Goals as goal

pub returns : goal.returns
returns c = law.one_target
