use Rattle.actx_world.proofs.EachMove.{stands_well}
use Rattle.actx_world.proofs.laws.standing.Goals as goal

pub returns-clause-rests : goal.returns-clause-rests
returns-clause-rests c = stands_well

pub returns-clause-replays : goal.returns-clause-replays
returns-clause-replays c = stands_well
