use Rattle.actx_scalars.proofs.LengthLemmas.{lengths_are_told}
use Rattle.actx_scalars.proofs.laws.lengths_are_told.Goals as goal

pub returns : goal.returns
returns c = lengths_are_told
