use Rattle.actx_core.proofs.FollowStmts.{trees_follow}
use Rattle.actx_core.proofs.laws.trees_follow.Goals as goal

pub returns : goal.returns
returns c = trees_follow
