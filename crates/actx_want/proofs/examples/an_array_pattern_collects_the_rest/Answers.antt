use Rattle.actx_want.proofs.ExampleLaws.{collects}
use Rattle.actx_want.proofs.examples.an_array_pattern_collects_the_rest.Goals as goal

pub returns : goal.returns
returns c = collects
