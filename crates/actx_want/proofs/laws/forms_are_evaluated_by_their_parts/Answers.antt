use Rattle.actx_want.proofs.LoopLaws.{parts_law}
use Rattle.actx_want.proofs.laws.forms_are_evaluated_by_their_parts.Goals as goal

pub returns : goal.returns
returns c = parts_law
