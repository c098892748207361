use Rattle.actx_scope.proofs.Adds.{name_ok}
use Rattle.actx_scope.proofs.walk.Inner.of_name.Goals as goal

pub returns : goal.returns
returns g c = name_ok _ c.args.name.now c.args.role c.args.place _ _ _ _ _ c.find-found.ensures c.name_error.ensures c.add.ensures
