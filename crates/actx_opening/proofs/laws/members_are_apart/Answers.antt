use Rattle.actx_opening.proofs.Tables.{all_apart}
use Rattle.actx_opening.proofs.laws.members_are_apart.Goals as goal

pub returns : goal.returns
returns c = all_apart
