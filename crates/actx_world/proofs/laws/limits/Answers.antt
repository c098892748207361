use Rattle.actx_world.proofs.LastSteps.{limits_hold, requests_meet}
use Rattle.actx_world.proofs.laws.limits.Goals as goal

pub returns-clause-rests : goal.returns-clause-rests
returns-clause-rests c = limits_hold

pub returns-clause-replays : goal.returns-clause-replays
returns-clause-replays c = limits_hold

pub returns-clause-requests : goal.returns-clause-requests
returns-clause-requests c = requests_meet
