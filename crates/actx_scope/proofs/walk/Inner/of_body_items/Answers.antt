use Rattle.std.proofs.Common.{refl}
use Rattle.actx_scope.proofs.Patterns.{body_adds}
use Rattle.actx_scope.proofs.walk.Inner.of_body_items.Goals as goal

pub returns : goal.returns
returns g c = body_adds _ c.args.items.now _ _ _ _ _ _ c.len-start.result _ c.in_ok-slots.ensures c.in_ok-opened.ensures.scopes refl refl c.in_ok-opened.ensures.whether c.len-start.ensures c.in_ok-of_items.ensures c.close.ensures refl c.back_to.ensures
