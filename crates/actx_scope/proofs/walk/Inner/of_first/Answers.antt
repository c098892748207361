use Rattle.actx_scope.proofs.Adds.{adds-none}
use Rattle.actx_scope.proofs.walk.Inner.of_first.Goals as goal

pub returns-in-Nothing : goal.returns-in-Nothing
returns-in-Nothing g c = rw c.in-Nothing.is (adds-none _ _ _ _)

pub returns-in-Let : goal.returns-in-Let
returns-in-Let g c = rw c.in-Let.is (rw c.as_slice.ensures at c.of_declared.ensures)

pub returns-in-Expr : goal.returns-in-Expr
returns-in-Expr g c = rw c.in-Expr.is c.of_expr.ensures
