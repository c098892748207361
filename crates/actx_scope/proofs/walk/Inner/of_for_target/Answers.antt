use Rattle.actx_scope_rules.specs.Statements as statements
use Rattle.actx_scope.proofs.Insides.{scoped_adds}
use Rattle.actx_scope.proofs.walk.Inner.of_for_target.Goals as goal

pub returns : goal.returns
returns g c = scoped_adds _ (statements.target_marks c.args.target.now) (statements.target_slots c.args.is_const c.args.target.now) _ _ _ _ _ _ _ _ c.in_ok-slots.ensures c.in_ok-outer.ensures.inside c.in_ok-outer.ensures.outer c.in_ok-of_target.ensures c.leave.ensures
