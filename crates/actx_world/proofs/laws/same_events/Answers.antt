use Rattle.actx_world.proofs.Oracles.{same_after}
use Rattle.actx_world.proofs.laws.same_events.Goals as goal

pub returns-clause-rests : goal.returns-clause-rests
returns-clause-rests c = same_after

pub returns-clause-replays : goal.returns-clause-replays
returns-clause-replays c = same_after
