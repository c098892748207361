use Rattle.actx_printing.proofs.Found.{gives_all}
use Rattle.actx_printing.proofs.statement.printing.Goals as goal

pub returns-clause-only : goal.returns-clause-only
returns-clause-only c = gives_all c.args.tree.now c.statements.result (rw c.as_slice.ensures at c.statements.ensures)
