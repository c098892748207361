use Rattle.actx_cli.proofs.Refusals.{one_text}
use Rattle.actx_cli.proofs.laws.one_text.Goals as goal

pub returns : goal.returns
returns c = one_text
