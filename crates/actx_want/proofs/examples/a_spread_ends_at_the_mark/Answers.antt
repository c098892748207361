use Rattle.actx_want.proofs.ExampleLaws.{spreads}
use Rattle.actx_want.proofs.examples.a_spread_ends_at_the_mark.Goals as goal

pub returns : goal.returns
returns c = spreads
