use Rattle.std.proofs.Common.{refl}
use Rattle.std.proofs.lemmas.List.{append-nil}
use Rattle.actx_scope_rules.proofs.StatementEquations as stmt
use Rattle.actx_scope_rules.proofs.PartEquations.{function_part-fields, class_part-fields}
use Rattle.actx_scope_rules.proofs.bound.add_stmt.Goals as goal

pub returns-in-Let : goal.returns-in-Let
returns-in-Let c = rw (c.in-Let.is, stmt.statement-Let) (rw c.as_slice.ensures at c.add_elems.ensures)

pub returns-in-Function : goal.returns-in-Function
returns-in-Function c = rw (c.in-Function.is, stmt.statement-Function, function_part-fields) c.add_optional.ensures

pub returns-in-Class : goal.returns-in-Class
returns-in-Class c = rw (c.in-Class.is, stmt.statement-Class, class_part-fields) c.add_optional-in-Class.ensures

pub returns-in-Block : goal.returns-in-Block
returns-in-Block c = rw (c.in-Block.is, stmt.statement-Block, append-nil) refl

pub returns-in-Empty : goal.returns-in-Empty
returns-in-Empty c = rw (c.in-Empty.is, stmt.statement-Empty, append-nil) refl

pub returns-in-If : goal.returns-in-If
returns-in-If c = rw (c.in-If.is, stmt.statement-If, append-nil) refl

pub returns-in-While : goal.returns-in-While
returns-in-While c = rw (c.in-While.is, stmt.statement-While, append-nil) refl

pub returns-in-Do : goal.returns-in-Do
returns-in-Do c = rw (c.in-Do.is, stmt.statement-Do, append-nil) refl

pub returns-in-For : goal.returns-in-For
returns-in-For c = rw (c.in-For.is, stmt.statement-For, append-nil) refl

pub returns-in-ForOf : goal.returns-in-ForOf
returns-in-ForOf c = rw (c.in-ForOf.is, stmt.statement-ForOf, append-nil) refl

pub returns-in-Return : goal.returns-in-Return
returns-in-Return c = rw (c.in-Return.is, stmt.statement-Return, append-nil) refl

pub returns-in-Throw : goal.returns-in-Throw
returns-in-Throw c = rw (c.in-Throw.is, stmt.statement-Throw, append-nil) refl

pub returns-in-Break : goal.returns-in-Break
returns-in-Break c = rw (c.in-Break.is, stmt.statement-Break, append-nil) refl

pub returns-in-Continue : goal.returns-in-Continue
returns-in-Continue c = rw (c.in-Continue.is, stmt.statement-Continue, append-nil) refl

pub returns-in-Try : goal.returns-in-Try
returns-in-Try c = rw (c.in-Try.is, stmt.statement-Try, append-nil) refl

pub returns-in-Expr : goal.returns-in-Expr
returns-in-Expr c = rw (c.in-Expr.is, stmt.statement-Expr, append-nil) refl
