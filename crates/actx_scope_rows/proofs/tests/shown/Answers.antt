use Rattle.actx_scope_rows.proofs.LowTrees.{low_levels}
use Rattle.actx_scope_rows.proofs.tests.shown.Goals as goal

pub check-requires : goal.check-requires
check-requires c = record { low = low_levels c.in-Ok-program.ensures.spelled }
