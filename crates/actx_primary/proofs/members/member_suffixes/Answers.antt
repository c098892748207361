use Rattle.std.proofs.Common.{rules, arith}
use Rattle.std.proofs.lemmas.Grind.{common_steps}
use Rattle.actx_grammar.specs.Reader.{and_then, many_from}
use Rattle.actx_grammar.specs.Lines.{below, goes_on_member, member_suffix, member_suffixes}
use Rattle.actx_pattern.proofs.Turns.{one_more}
use Rattle.actx_primary.proofs.members.member_suffixes.Goals as goal

pub loop-turn-preserved : goal.loop-turn-preserved
unfolding many_from goes_on_member and_then
loop-turn-preserved g c =
    let e = one_more (λ n. many_from goes_on_member (member_suffix (below c.args.inner.now.room)) n c.loop-turn.found c.loop-turn.highest c.loop-turn.cursor) _ c.loop-turn._turn c.loop-turn-test.true c.loop-turn.invariant.reads in
    record { reads = first_of (search rules, grind (arith, common_steps)); low = first_of (search rules, grind (arith, common_steps)) }

pub returns-in_err-member-clause-reads : goal.returns-in_err-member-clause-reads
unfolding member_suffixes many_from goes_on_member and_then
returns-in_err-member-clause-reads g c =
    let e = one_more (λ n. many_from goes_on_member (member_suffix (below c.args.inner.now.room)) n c.loop-turn.found c.loop-turn.highest c.loop-turn.cursor) _ c.loop-turn._turn c.loop-turn-test.true c.loop-turn.invariant.reads in
    first_of (search rules, grind (arith, common_steps))
