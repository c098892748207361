use Rattle.actx_scope_rules.proofs.Worked as worked
use Rattle.actx_scope_rules.proofs.laws.forms_of_files.Goals as goal

pub returns-clause-deleted : goal.returns-clause-deleted
returns-clause-deleted c = worked.deleted

pub returns-clause-proto : goal.returns-clause-proto
returns-clause-proto c = worked.proto

pub returns-clause-constructors : goal.returns-clause-constructors
returns-clause-constructors c = worked.constructors
