use Rattle.actx_event.proofs.Validity.{valid_where, valid_read, valid_closed, failure_is_first, closing_fails}
use Rattle.actx_event.proofs.laws.validity.Goals as goal

pub returns : goal.returns
returns c = record { rules = valid_where; reads = valid_read; closed = valid_closed; first = failure_is_first; closing = closing_fails }
