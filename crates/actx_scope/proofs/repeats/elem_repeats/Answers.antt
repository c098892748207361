use Rattle.actx_scope_rules.proofs.PartEquations.{elem_part-fields}
use Rattle.actx_scope.proofs.repeats.elem_repeats.Goals as goal

pub returns : goal.returns
returns c = rw (elem_part-fields) c.target_repeats.ensures
