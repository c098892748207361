use Rattle.std.proofs.Common.{rules, arith}
use Rattle.std.proofs.lemmas.Grind.{common_steps}
use Rattle.actx_grammar.specs.Reader.{many_from, and_then}
use Rattle.actx_grammar.specs.Lines.{below, has_operator, operand, operands}
use Rattle.actx_pattern.proofs.Turns.{one_more}
use Rattle.actx_expr.proofs.chains.operands.Goals as goal

pub loop-turn-preserved : goal.loop-turn-preserved
unfolding many_from and_then
loop-turn-preserved g c =
    let e = one_more (λ n. many_from (has_operator c.args.own) (operand (below c.args.inner.now.room) c.args.own c.args.inner_level) n c.loop-turn.found c.loop-turn.highest c.loop-turn.cursor) _ c.loop-turn._turn c.loop-turn-test.true c.loop-turn.invariant.reads in
    record { reads = first_of (search rules, grind (arith, common_steps)); low = first_of (search rules, grind (arith, common_steps)) }

pub returns-in_err-next-clause-reads : goal.returns-in_err-next-clause-reads
unfolding operands many_from and_then
returns-in_err-next-clause-reads g c =
    let e = one_more (λ n. many_from (has_operator c.args.own) (operand (below c.args.inner.now.room) c.args.own c.args.inner_level) n c.loop-turn.found c.loop-turn.highest c.loop-turn.cursor) _ c.loop-turn._turn c.loop-turn-test.true c.loop-turn.invariant.reads in
    first_of (search rules, grind (arith, common_steps))
