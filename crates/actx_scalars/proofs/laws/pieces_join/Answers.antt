use Rattle.actx_scalars.proofs.JoinLemmas.{pieces_join}
use Rattle.actx_scalars.proofs.laws.pieces_join.Goals as goal

pub returns : goal.returns
returns c = pieces_join
