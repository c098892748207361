use Rattle.std.proofs.Common.{rules, arith}
use Rattle.std.proofs.lemmas.Grind.{common_steps}
use Rattle.actx_grammar.specs.Reader.{many_from, and_then}
use Rattle.actx_grammar.specs.Lines.{below, goes_on_comma, next_assign, commas}
use Rattle.actx_pattern.proofs.Turns.{one_more, no_more}
use Rattle.actx_expr.proofs.exprs.commas.Goals as goal

pub loop-turn-preserved : goal.loop-turn-preserved
unfolding many_from and_then
loop-turn-preserved g c =
    let e = one_more (λ n. many_from goes_on_comma (next_assign (below c.args.inner.now.room)) n c.loop-turn.found c.loop-turn.highest c.loop-turn.cursor) _ c.loop-turn._turn c.loop-turn-test.true c.loop-turn.invariant.reads in
    record { reads = first_of (search rules, grind (arith, common_steps)); low = first_of (search rules, grind (arith, common_steps)) }
