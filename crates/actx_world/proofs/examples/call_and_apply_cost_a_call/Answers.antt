use Rattle.actx_world.proofs.Runs.{through_runs}
use Rattle.actx_world.proofs.examples.call_and_apply_cost_a_call.Goals as goal

pub returns : goal.returns
returns c = through_runs
