use Rattle.actx_world.proofs.Runs.{empty_runs}
use Rattle.actx_world.proofs.examples.an_empty_file_is_three_moves.Goals as goal

pub returns : goal.returns
returns c = empty_runs
