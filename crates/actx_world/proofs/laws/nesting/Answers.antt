use Rattle.actx_world.proofs.EachMove.{nests_after}
use Rattle.actx_world.proofs.laws.nesting.Goals as goal

pub returns-clause-rests : goal.returns-clause-rests
returns-clause-rests c = nests_after

pub returns-clause-replays : goal.returns-clause-replays
returns-clause-replays c = nests_after
