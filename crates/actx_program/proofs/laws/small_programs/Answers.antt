use Rattle.actx_program.proofs.TreeLaws as law
use Rattle.actx_program.proofs.laws.small_programs.Goals as goal

pub returns : goal.returns
returns c = law.small_programs
