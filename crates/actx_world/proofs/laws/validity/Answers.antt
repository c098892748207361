use Rattle.actx_world.proofs.EachMove.{valid_after}
use Rattle.actx_world.proofs.laws.validity.Goals as goal

pub returns-clause-rests : goal.returns-clause-rests
returns-clause-rests c = valid_after

pub returns-clause-replays : goal.returns-clause-replays
returns-clause-replays c = valid_after
