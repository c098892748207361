use Rattle.actx_core.proofs.Worked as worked
use Rattle.actx_core.proofs.laws.names_of_files.Goals as goal

pub returns-clause-empty : goal.returns-clause-empty
returns-clause-empty c = worked.empty

pub returns-clause-declared : goal.returns-clause-declared
returns-clause-declared c = worked.name_declared

pub returns-clause-in_a_block : goal.returns-clause-in_a_block
returns-clause-in_a_block c = worked.names_in_a_block

pub returns-clause-this : goal.returns-clause-this
returns-clause-this c = worked.this_of_a_file

pub returns-clause-pattern : goal.returns-clause-pattern
returns-clause-pattern c = worked.pattern_declared
