use Rattle.std.proofs.Common.{◌≡◌, true, false, Err, [], rules, arith}
use Rattle.std.proofs.lemmas.Grind.{common_steps}
use Rattle.actx_grammar.specs.declared.bracket.Bracket.TheVariants as bracket
use Rattle.actx_grammar.specs.declared.error.Cause.{Cause}
use Rattle.actx_grammar.specs.Kinds.{closes, is_semicolon}
use Rattle.actx_grammar.specs.Lines.{below}
use Rattle.actx_grammar.specs.Patterns.{member, members_from}
use Rattle.actx_grammar.specs.Reader.{count}
use Rattle.actx_grammar.specs.Tokens.{next}
use Rattle.actx_pattern.proofs.MemberTurns.{members_pass, members_fail, members_go_on}
use Rattle.actx_pattern.proofs.classes.members.Goals as goal

pub loop-turn-preserved-then-is_semicolon : goal.loop-turn-preserved-then-is_semicolon
loop-turn-preserved-then-is_semicolon g c =
    let q : closes bracket.Curly (next c.loop-turn.cursor) ≡ false = first_of (search rules, grind (arith, common_steps)) in
    let r : is_semicolon (next c.loop-turn.cursor) ≡ true = first_of (search rules, grind (arith, common_steps)) in
    record {
      reads = rw c.skip.ensures (members_pass _ {w = members_from (below c.args.inner.now.room) (count c.args.cursor.now) [] c.args.levels c.args.cursor.now} _ _ _ _ _ c.loop-turn-test.true c.loop-turn.invariant.reads q r);
      low = c.loop-turn.invariant.low;
    }

pub returns-in_err-item-clause-reads : goal.returns-in_err-item-clause-reads
returns-in_err-item-clause-reads g c =
    let q : closes bracket.Curly (next c.loop-turn.cursor) ≡ false = first_of (search rules, grind (arith, common_steps)) in
    let r : is_semicolon (next c.loop-turn.cursor) ≡ false = first_of (search rules, grind (arith, common_steps)) in
    let t : (cause : Cause) → member (below c.args.inner.now.room) c.loop-turn.cursor ≡ Err cause
    → members_from (below c.args.inner.now.room) (count c.args.cursor.now) [] c.args.levels c.args.cursor.now ≡ Err cause =
    λ cause s. members_fail _ {w = members_from (below c.args.inner.now.room) (count c.args.cursor.now) [] c.args.levels c.args.cursor.now} _ _ _ _ _ c.loop-turn-test.true c.loop-turn.invariant.reads q r s in
    first_of (search (rules, t), grind (arith, common_steps, t))

pub loop-turn-preserved : goal.loop-turn-preserved
loop-turn-preserved g c =
    let q : closes bracket.Curly (next c.loop-turn.cursor) ≡ false = first_of (search rules, grind (arith, common_steps)) in
    let r : is_semicolon (next c.loop-turn.cursor) ≡ false = first_of (search rules, grind (arith, common_steps)) in
    record {
      reads = rw (c.in_ok-push.ensures.ok, c.max-highest.ensures) (members_go_on _ {w = members_from (below c.args.inner.now.room) (count c.args.cursor.now) [] c.args.levels c.args.cursor.now} _ _ _ _ _ c.loop-turn-test.true c.loop-turn.invariant.reads q r c.in_ok-item.ensures.reads);
      low = first_of (search rules, grind (arith, common_steps));
    }
