use Rattle.std.proofs.Common.{◌<◌, rules, arith}
use Rattle.std.proofs.lemmas.Grind.{common_steps}
use Rattle.actx_grammar.specs.Reader.{and_then}
use Rattle.actx_grammar.specs.Lines.{below}
use Rattle.actx_expr.proofs.Steps.{level_above}
use Rattle.actx_expr.proofs.chains.+level.Goals as goal

pub returns-in_err-first-clause-reads : goal.returns-in_err-first-clause-reads
unfolding and_then
returns-in_err-first-clause-reads g t c =
    let some : 0 < c.args.own = omega arith in
    rw (level_above (below c.args.inner.now.room) c.args.own c.args.cursor.now some) (first_of (search rules, grind (arith, common_steps)))

pub returns-clause-reads : goal.returns-clause-reads
unfolding and_then
returns-clause-reads g t c =
    let some : 0 < c.args.own = omega arith in
    rw (level_above (below c.args.inner.now.room) c.args.own c.args.cursor.now some) (first_of (search rules, grind (arith, common_steps)))
