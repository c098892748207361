use Rattle.std.proofs.Common.{refl}
use Rattle.actx_printing.proofs.Found.{calls_log, makes_statement}
use Rattle.actx_printing.proofs.statement.statement.Goals as goal

pub returns-in-Some : goal.returns-in-Some
returns-in-Some c =
    let i = c.in-Left in
    let e = calls_log c.args.x.now c.in-Expr.call i.first c.get.result.now i.suffixes c.as_slice.result.now c.in-Some.xs.now c.in-Expr.is i.is c.get.ensures (c.if-not-is_console.ensures.0 refl) c.as_slice.ensures c.in-Some.ensures in
    makes_statement c.args.x.now c.in-Some.xs.now c.arguments.result e c.arguments.ensures
