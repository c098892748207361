use Rattle.actx_world.proofs.KeptRuns.{replays_are_rests}
use Rattle.actx_world.proofs.laws.replaying.Goals as goal

pub returns : goal.returns
returns c = replays_are_rests
