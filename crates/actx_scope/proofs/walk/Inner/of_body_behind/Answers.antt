use Rattle.std.proofs.Common.{refl}
use Rattle.actx_scope_rules.specs.Nodes as nodes
use Rattle.actx_scope.proofs.Insides.{behind_adds}
use Rattle.actx_scope.proofs.walk.Inner.of_body_behind.Goals as goal

pub returns : goal.returns
returns g c = behind_adds _ (nodes.body_marks c.args.body) (nodes.params_part c.args.params.now).names _ _ _ _ _ _ c.len-start.result c.len-start.ensures refl refl c.in_ok-pass_params.ensures c.in_ok-of_body.ensures refl refl c.back_to.ensures
