use Rattle.actx_cli.proofs.Refusals.{one_refusal}
use Rattle.actx_cli.proofs.laws.one_refusal.Goals as goal

pub returns : goal.returns
returns c = one_refusal
