use Rattle.actx_program.proofs.TreeLaws as law
use Rattle.actx_program.proofs.laws.one_program.Goals as goal

pub returns : goal.returns
returns c = law.one_program
