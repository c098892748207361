use Rattle.actx_printing.proofs.Injective.{one_printing}
use Rattle.actx_printing.proofs.laws.one_printing.Goals as goal

pub returns : goal.returns
returns c = one_printing
