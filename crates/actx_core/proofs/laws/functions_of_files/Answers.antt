use Rattle.actx_core.proofs.Worked as worked
use Rattle.actx_core.proofs.laws.functions_of_files.Goals as goal

pub returns-clause-arrow : goal.returns-clause-arrow
returns-clause-arrow c = worked.arrow_named

pub returns-clause-function : goal.returns-clause-function
returns-clause-function c = worked.function_declared

pub returns-clause-generator : goal.returns-clause-generator
returns-clause-generator c = worked.generator_begins

pub returns-clause-object : goal.returns-clause-object
returns-clause-object c = worked.object_of_entries
