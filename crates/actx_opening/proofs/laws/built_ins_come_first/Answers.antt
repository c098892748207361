use Rattle.std.proofs.Common.{length}
use Rattle.actx_opening.specs.Texts.{with_literals, opening_texts}
use Rattle.actx_opening.proofs.Counts.{as_many}
use Rattle.actx_opening.proofs.laws.built_ins_come_first.Goals as goal

pub returns : goal.returns
returns c literals objects properties = as_many (opening_texts literals) (length (with_literals literals)) _ _
