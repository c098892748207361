use Rattle.actx_statement.proofs.knot.+inside.Given as goal

abbrev pub decreases-read_stmt : goal.decreases-read_stmt
decreases-read_stmt l = l.limit

abbrev pub decreases-read_item : goal.decreases-read_item
decreases-read_item l = l.limit
