use Rattle.actx_want.proofs.LoopLaws.{items_law}
use Rattle.actx_want.proofs.laws.items_ask_tick_first.Goals as goal

pub returns : goal.returns
returns c = items_law
