use Rattle.actx_world.proofs.Runs.{bound_runs}
use Rattle.actx_world.proofs.examples.a_function_is_bound.Goals as goal

pub returns : goal.returns
returns c = bound_runs
