use Rattle.actx_world.proofs.Runs.{walk_runs}
use Rattle.actx_world.proofs.examples.an_array_is_walked.Goals as goal

pub returns : goal.returns
returns c = walk_runs
