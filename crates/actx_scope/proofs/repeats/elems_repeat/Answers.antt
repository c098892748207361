use Rattle.actx_scope_rules.proofs.Names.{any_repeats-append}
use Rattle.actx_scope.proofs.Insides.{back-again}
use Rattle.actx_scope.proofs.repeats.elems_repeat.Goals as goal

pub returns-clause-whether : goal.returns-clause-whether
returns-clause-whether c = let e = rw (c.in_ok-repeats.ensures.whether, c.rest_repeats-last.ensures, c.in_ok-repeats.ensures.behind) at c.either.ensures in rw (any_repeats-append) e

pub returns-clause-same : goal.returns-clause-same
returns-clause-same c = back-again _ _ c.args.earlier.now _ c.len-start.result c.len-start.ensures c.in_ok-repeats.ensures.behind c.back_to.ensures
