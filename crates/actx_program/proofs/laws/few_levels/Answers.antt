use Rattle.actx_program.proofs.TreeLaws as law
use Rattle.actx_program.proofs.laws.few_levels.Goals as goal

pub returns : goal.returns
returns c = law.few_levels
