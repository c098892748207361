use Rattle.actx_opening.proofs.Numbers.{word_found}
use Rattle.actx_opening.proofs.laws.words_are_there.Goals as goal

pub returns : goal.returns
returns c literals w there = word_found literals w there
