use Rattle.actx_cli.proofs.LowTrees.{low_levels}
use Rattle.actx_cli.proofs.reading.sound_tree_of.Goals as goal

pub check-requires : goal.check-requires
check-requires c = record { low = low_levels c.in_ok-tree.ensures }
