use Rattle.actx_world.proofs.Runs.{typed_runs}
use Rattle.actx_world.proofs.examples.types_are_printed.Goals as goal

pub returns : goal.returns
returns c = typed_runs
