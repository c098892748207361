use Rattle.actx_world.proofs.Runs.{class_runs}
use Rattle.actx_world.proofs.examples.a_class_is_made.Goals as goal

pub returns : goal.returns
returns c = class_runs
