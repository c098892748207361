use Rattle.actx_scope_rules.proofs.Worked as worked
use Rattle.actx_scope_rules.proofs.laws.names_of_files.Goals as goal

pub returns-clause-declared_twice : goal.returns-clause-declared_twice
returns-clause-declared_twice c = worked.declared_twice

pub returns-clause-in_a_block : goal.returns-clause-in_a_block
returns-clause-in_a_block c = worked.in_a_block

pub returns-clause-unknown : goal.returns-clause-unknown
returns-clause-unknown c = worked.unknown

pub returns-clause-global : goal.returns-clause-global
returns-clause-global c = worked.global

pub returns-clause-global_use : goal.returns-clause-global_use
returns-clause-global_use c = worked.global_use

pub returns-clause-const_assigned : goal.returns-clause-const_assigned
returns-clause-const_assigned c = worked.const_assigned

pub returns-clause-parameter : goal.returns-clause-parameter
returns-clause-parameter c = worked.parameter

pub returns-clause-parameter_use : goal.returns-clause-parameter_use
returns-clause-parameter_use c = worked.parameter_use

pub returns-clause-shorthand : goal.returns-clause-shorthand
returns-clause-shorthand c = worked.shorthand
