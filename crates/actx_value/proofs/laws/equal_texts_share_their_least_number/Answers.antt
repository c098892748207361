use Rattle.actx_value.proofs.NumberLemmas.{tells}
use Rattle.actx_value.proofs.laws.equal_texts_share_their_least_number.Goals as goal

pub returns : goal.returns
returns c = tells
