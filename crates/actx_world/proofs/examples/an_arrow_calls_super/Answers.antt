use Rattle.actx_world.proofs.Runs.{arrow_runs}
use Rattle.actx_world.proofs.examples.an_arrow_calls_super.Goals as goal

pub returns : goal.returns
returns c = arrow_runs
