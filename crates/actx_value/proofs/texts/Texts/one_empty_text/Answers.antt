use Rattle.actx_value.proofs.IndexLemmas.{one_empty}
use Rattle.actx_value.proofs.texts.Texts.one_empty_text.Goals as goal

pub returns : goal.returns
returns c = rw (← c.self.view_is) (one_empty c.self.invariant)
