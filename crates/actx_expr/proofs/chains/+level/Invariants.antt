use Rattle.actx_expr.proofs.chains.+level.Given as goal

abbrev pub decreases-level : goal.decreases-level
decreases-level g l = l.own
