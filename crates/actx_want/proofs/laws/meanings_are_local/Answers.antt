use Rattle.actx_want.proofs.LocalForms.{form_local, pattern_local}
use Rattle.actx_want.proofs.laws.meanings_are_local.Goals as goal

pub returns-clause-forms : goal.returns-clause-forms
returns-clause-forms c = form_local

pub returns-clause-patterns : goal.returns-clause-patterns
returns-clause-patterns c = pattern_local
