use Rattle.actx_text.proofs.Utf8Lemmas.{one_decoding}
use Rattle.actx_text.proofs.laws.one_decoding.Goals as goal

pub returns : goal.returns
returns c = one_decoding
