use Rattle.actx_scope.proofs.Adds.{adds-none}
use Rattle.actx_scope.proofs.walk.Inner.of_caught.Goals as goal

pub returns-in-Some : goal.returns-in-Some
returns-in-Some g c = rw c.in-Some.is c.of_target.ensures

pub returns-in-None : goal.returns-in-None
returns-in-None g c = rw c.in-None.is (adds-none _ _ _ _)
