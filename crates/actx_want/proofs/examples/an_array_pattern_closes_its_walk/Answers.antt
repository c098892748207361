use Rattle.actx_want.proofs.ExampleLaws.{closes_open}
use Rattle.actx_want.proofs.examples.an_array_pattern_closes_its_walk.Goals as goal

pub returns : goal.returns
returns c = closes_open
