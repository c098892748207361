use Rattle.actx_lex.proofs.OneList.{one-list}
use Rattle.actx_lex.proofs.laws.one_list.Goals as goal

pub returns : goal.returns
returns c text ts us d e = one-list d e
