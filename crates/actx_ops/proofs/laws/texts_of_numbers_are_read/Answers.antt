use Rattle.actx_ops.proofs.ReadLemmas.{texts_are_read}
use Rattle.actx_ops.proofs.laws.texts_of_numbers_are_read.Goals as goal

pub returns : goal.returns
returns c = texts_are_read
