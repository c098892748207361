use Rattle.actx_lex.proofs.InOrder.{tokens-in-order}
use Rattle.actx_lex.proofs.laws.order_of_tokens.Goals as goal

pub returns : goal.returns
returns c text ts d = tokens-in-order d
