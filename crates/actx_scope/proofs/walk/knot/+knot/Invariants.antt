use Rattle.std.proofs.Common.{length}
use Rattle.actx_scope.proofs.walk.knot.+knot.Given as goal

abbrev pub decreases-walk_body : goal.decreases-walk_body
decreases-walk_body l = length l.bodies.list.now
