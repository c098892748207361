use Rattle.actx_world.proofs.Runs.{thrown_runs}
use Rattle.actx_world.proofs.examples.a_throw_ends_the_run.Goals as goal

pub returns : goal.returns
returns c = thrown_runs
