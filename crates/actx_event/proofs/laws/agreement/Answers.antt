use Rattle.actx_event.proofs.Agree as proved
use Rattle.actx_event.proofs.laws.agreement.Goals as goal

pub returns : goal.returns
returns c = record { everywhere = proved.agreement; kept = proved.agreement_after }
