use Rattle.std.proofs.Common.{refl, map}
use Rattle.actx_scope_rules.specs.Nodes as nodes
use Rattle.actx_scope.proofs.Patterns.{declared_adds}
use Rattle.actx_scope.proofs.walk.Inner.of_declared.Goals as goal

pub returns : goal.returns
returns g c = declared_adds _ (map nodes.elem_part c.args.elems.now) _ _ _ _ _ _ _ c.len-start.result _ c.in_ok-repeats.ensures.whether refl c.in_ok-repeats.ensures.same refl (rw c.when.ensures at c.in_ok-add.ensures) c.len-start.ensures c.in_ok-of_elems.ensures refl refl c.back_to.ensures
