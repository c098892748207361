use Rattle.std.specs.declared.vec.Vec.{Vec}
use Rattle.std.specs.declared.alloc.Global.{Global}
use Rattle.actx_printing.specs.declared.lit.Lit.{Lit}
use Rattle.actx_printing.specs.Printing.{argument_of}
use Rattle.actx_printing.proofs.Lists.{fails_at}
use Rattle.actx_printing.proofs.literal.arguments.Goals as goal

pub returns-in-Err : goal.returns-in-Err
returns-in-Err c = fails_at (λ l. l) (λ (ls : Vec Lit Global). ls.items) argument_of c.args.xs.now c.loop-x.x-index c.x-item.result c.in-Err.e c.loop-x-test.true c.x-item.is c.in-Err.ensures
