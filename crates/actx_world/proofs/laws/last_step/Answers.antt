use Rattle.actx_world.proofs.LastSteps.{last_is_first, ended_stays}
use Rattle.actx_world.proofs.laws.last_step.Goals as goal

pub returns-clause-rests : goal.returns-clause-rests
returns-clause-rests c = last_is_first

pub returns-clause-replays : goal.returns-clause-replays
returns-clause-replays c = last_is_first

pub returns-clause-rests_stay : goal.returns-clause-rests_stay
returns-clause-rests_stay c = ended_stays

pub returns-clause-replays_stay : goal.returns-clause-replays_stay
returns-clause-replays_stay c = ended_stays
