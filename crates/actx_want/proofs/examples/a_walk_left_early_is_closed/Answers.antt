use Rattle.actx_want.proofs.ExampleLaws.{closes}
use Rattle.actx_want.proofs.examples.a_walk_left_early_is_closed.Goals as goal

pub returns : goal.returns
returns c = closes
