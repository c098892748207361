use Rattle.actx_scope.proofs.Knots.{whole_tree}
use Rattle.actx_scope.proofs.walk.knot.walk_tree.Goals as goal

pub returns : goal.returns
returns c = whole_tree c.args.tree.now c.args.count c.as_slice-list.result.now c.as_slice.result.now c.file_place.result _ _ c.requires c.as_slice-list.ensures c.as_slice.ensures c.file_place.ensures (cc) c.in_ok-of_block.ensures
