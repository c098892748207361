use Rattle.actx_world.proofs.Runs.{walks_run}
use Rattle.actx_world.proofs.examples.maps_sets_and_texts_are_walked.Goals as goal

pub returns : goal.returns
returns c = walks_run
