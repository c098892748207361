use Rattle.actx_core.proofs.Worked as worked
use Rattle.actx_core.proofs.laws.bundle_of_functions.Goals as goal

pub returns : goal.returns
returns c = worked.bundle_behind
