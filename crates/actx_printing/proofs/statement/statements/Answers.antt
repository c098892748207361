use Rattle.std.specs.declared.vec.Vec.{Vec}
use Rattle.std.specs.declared.alloc.Global.{Global}
use Rattle.actx_printing.specs.declared.lit.Lit.{Lit}
use Rattle.actx_printing.specs.Printing.{literals, statement_of}
use Rattle.actx_printing.proofs.Lists.{fails_at}
use Rattle.actx_printing.proofs.statement.statements.Goals as goal

pub returns-in-Err : goal.returns-in-Err
returns-in-Err c = fails_at (λ (ls : Vec Lit Global). ls.items) literals statement_of c.args.xs.now c.loop-x.x-index c.x-item.result c.in-Err.e c.loop-x-test.true c.x-item.is c.in-Err.ensures
