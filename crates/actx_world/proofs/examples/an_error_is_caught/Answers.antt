use Rattle.actx_world.proofs.Runs.{caught_runs}
use Rattle.actx_world.proofs.examples.an_error_is_caught.Goals as goal

pub returns : goal.returns
returns c = caught_runs
