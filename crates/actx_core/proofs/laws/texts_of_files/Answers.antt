use Rattle.actx_core.proofs.Worked as worked
use Rattle.actx_core.proofs.laws.texts_of_files.Goals as goal

pub returns-clause-once : goal.returns-clause-once
returns-clause-once c = worked.texts_once

pub returns-clause-template : goal.returns-clause-template
returns-clause-template c = worked.template_of_two
