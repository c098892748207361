use Rattle.actx_value.proofs.NumberLemmas.{keeps}
use Rattle.actx_value.proofs.laws.numbers_outlast_additions.Goals as goal

pub returns : goal.returns
returns c = keeps
