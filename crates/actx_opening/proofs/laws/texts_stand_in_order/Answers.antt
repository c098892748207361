use Rattle.actx_opening.proofs.Numbers.{in_order}
use Rattle.actx_opening.proofs.laws.texts_stand_in_order.Goals as goal

pub returns : goal.returns
returns c literals all = in_order literals all
