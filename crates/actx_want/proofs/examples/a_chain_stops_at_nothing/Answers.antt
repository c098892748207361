use Rattle.actx_want.proofs.ExampleLaws.{stops}
use Rattle.actx_want.proofs.examples.a_chain_stops_at_nothing.Goals as goal

pub returns : goal.returns
returns c = stops
