use Rattle.actx_expr.proofs.knot.+knot.Given as goal

abbrev pub decreases-below : goal.decreases-below
decreases-below l = l.limit

abbrev pub decreases-target_below : goal.decreases-target_below
decreases-target_below l = l.limit
