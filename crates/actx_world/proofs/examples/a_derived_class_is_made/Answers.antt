use Rattle.actx_world.proofs.Runs.{derived_runs}
use Rattle.actx_world.proofs.examples.a_derived_class_is_made.Goals as goal

pub returns : goal.returns
returns c = derived_runs
