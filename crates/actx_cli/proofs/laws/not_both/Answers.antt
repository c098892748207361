use Rattle.actx_cli.proofs.Refusals.{not_both}
use Rattle.actx_cli.proofs.laws.not_both.Goals as goal

pub returns : goal.returns
returns c = not_both
