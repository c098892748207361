use Rattle.actx_want.proofs.ExampleLaws.{counts}
use Rattle.actx_want.proofs.examples.a_let_loop_counts_in_copies.Goals as goal

pub returns : goal.returns
returns c = counts
