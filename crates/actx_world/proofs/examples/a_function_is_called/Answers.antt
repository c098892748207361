use Rattle.actx_world.proofs.Runs.{function_runs}
use Rattle.actx_world.proofs.examples.a_function_is_called.Goals as goal

pub returns : goal.returns
returns c = function_runs
