use Rattle.actx_program.proofs.TreeLaws as law
use Rattle.actx_program.proofs.laws.read_programs.Goals as goal

pub returns-clause-given : goal.returns-clause-given
returns-clause-given c = law.gives_spelled

pub returns-clause-spelled : goal.returns-clause-spelled
returns-clause-spelled c = law.spells_given

pub returns-clause-no_tree : goal.returns-clause-no_tree
returns-clause-no_tree c = law.spells_none

pub returns-clause-too_nested : goal.returns-clause-too_nested
returns-clause-too_nested c = law.spells_deep
