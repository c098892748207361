use Rattle.actx_world.proofs.Runs.{division_runs}
use Rattle.actx_world.proofs.examples.a_division_leaves_the_profile.Goals as goal

pub returns : goal.returns
returns c = division_runs
