use Rattle.actx_scope_rules.proofs.Names.{any_repeats-append}
use Rattle.actx_scope_rules.proofs.PartEquations.{params_part-fields}
use Rattle.actx_scope.proofs.repeats.params_repeat.Goals as goal

pub returns : goal.returns
returns c = let e = rw (c.in_ok-repeats.ensures.whether, c.last_param_repeats-last.ensures, c.in_ok-repeats.ensures.behind, c.as_slice.ensures, c.new-earlier.ensures) at c.either.ensures in rw (params_part-fields, any_repeats-append) e
