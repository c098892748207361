use Rattle.actx_event.proofs.Closers.{nests_where}
use Rattle.actx_event.proofs.laws.nesting.Goals as goal

pub returns : goal.returns
returns c = nests_where
