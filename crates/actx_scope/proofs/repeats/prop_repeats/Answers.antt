use Rattle.actx_scope_rules.proofs.PartEquations.{prop_part-Shorthand, prop_part-Pair}
use Rattle.actx_scope.proofs.repeats.prop_repeats.Goals as goal

pub returns-in-Shorthand : goal.returns-in-Shorthand
returns-in-Shorthand c = rw (c.in-Shorthand.is, prop_part-Shorthand) c.has.ensures

pub returns-in-Pair : goal.returns-in-Pair
returns-in-Pair c = rw (c.in-Pair.is, prop_part-Pair) c.elem_repeats.ensures
