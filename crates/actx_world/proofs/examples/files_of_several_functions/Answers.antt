use Rattle.actx_world.proofs.Runs.{files_run}
use Rattle.actx_world.proofs.examples.files_of_several_functions.Goals as goal

pub returns : goal.returns
returns c = files_run
