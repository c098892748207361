use Rattle.actx_world.proofs.EachMove.{grow}
use Rattle.actx_world.proofs.laws.growing.Goals as goal

pub returns-clause-rests : goal.returns-clause-rests
returns-clause-rests c = grow

pub returns-clause-replays : goal.returns-clause-replays
returns-clause-replays c = grow
