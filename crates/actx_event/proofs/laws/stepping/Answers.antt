use Rattle.actx_event.proofs.Smaller.{step_short}
use Rattle.actx_event.proofs.ByNumber.{steps_agree}
use Rattle.actx_event.proofs.laws.stepping.Goals as goal

pub returns : goal.returns
returns c = record { smaller = step_short; numbers = steps_agree }
