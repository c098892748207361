use Rattle.std.proofs.Common.{length}
use Rattle.actx_opening.specs.Texts.{with_literals, opening_texts}
use Rattle.actx_opening.proofs.StartKinds.{kinds_are}
use Rattle.actx_opening.proofs.laws.kinds_are_those_of_the_table.Goals as goal

pub returns : goal.returns
returns c literals objects properties = kinds_are (opening_texts literals) (length (with_literals literals)) _ _
