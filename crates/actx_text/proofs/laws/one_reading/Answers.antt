use Rattle.actx_text.proofs.QuotedLemmas.{one_reading}
use Rattle.actx_text.proofs.laws.one_reading.Goals as goal

pub returns : goal.returns
returns c = one_reading
