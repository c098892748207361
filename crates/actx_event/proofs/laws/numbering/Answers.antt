use Rattle.actx_event.proofs.ByNumber.{opened_agrees}
use Rattle.actx_event.proofs.WalkByNumber.{met_numbers_agree, met_number_none, met_number_step, chain_agrees}
use Rattle.actx_event.proofs.NearestByNumber.{nearest_agrees}
use Rattle.actx_event.proofs.laws.numbering.Goals as goal

pub returns : goal.returns
returns c = record { opened = opened_agrees; met = met_numbers_agree; nearest = nearest_agrees; chain = chain_agrees; ends = met_number_none; goes_on = met_number_step }
