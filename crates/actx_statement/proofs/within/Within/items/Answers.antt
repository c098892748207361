use Rattle.std.proofs.Common.{◌≡◌, true, false, Ok, Err, rules, arith}
use Rattle.std.proofs.lemmas.Grind.{common_steps}
use Rattle.actx_grammar.specs.declared.error.Cause.{Cause}
use Rattle.actx_program.specs.StatementReader.{inside, items, goes_on_items}
use Rattle.actx_pattern.proofs.Rows.{many_ends, many_fails, many_goes_on, many_runs_out}
use Rattle.actx_statement.proofs.within.Within.items.Goals as goal

pub returns-then-ends_items-clause-reads : goal.returns-then-ends_items-clause-reads
unfolding goes_on_items
returns-then-ends_items-clause-reads g c =
    let q : goes_on_items c.loop-turn.cursor ≡ false = first_of (search rules, grind (arith, common_steps)) in
    many_ends _ _ {w = items (inside c.args.self.now.room) c.args.cursor.now} _ _ _ _ _ c.loop-turn-test.true c.loop-turn.invariant.reads q

pub returns-in_err-item-clause-reads : goal.returns-in_err-item-clause-reads
unfolding goes_on_items
returns-in_err-item-clause-reads g c =
    let q : goes_on_items c.loop-turn.cursor ≡ true = first_of (search rules, grind (arith, common_steps)) in
    let t : (cause : Cause) → (inside c.args.self.now.room).item c.loop-turn.cursor ≡ Err cause → items (inside c.args.self.now.room) c.args.cursor.now ≡ Err cause =
    λ cause r. many_fails _ _ {w = items (inside c.args.self.now.room) c.args.cursor.now} _ _ _ _ _ c.loop-turn-test.true c.loop-turn.invariant.reads q r in
    first_of (search (rules, t), grind (arith, common_steps, t))

pub loop-turn-preserved : goal.loop-turn-preserved
unfolding goes_on_items
loop-turn-preserved g c =
    let q : goes_on_items c.loop-turn.cursor ≡ true = first_of (search rules, grind (arith, common_steps)) in
    record {
      reads = rw (c.in_ok-push.ensures.ok, c.max-highest.ensures) (many_goes_on _ _ {w = items (inside c.args.self.now.room) c.args.cursor.now} _ _ _ _ _ c.loop-turn-test.true c.loop-turn.invariant.reads q c.in_ok-item.ensures.reads);
      low = first_of (search rules, grind (arith, common_steps));
    }

pub returns-clause-reads : goal.returns-clause-reads
returns-clause-reads g c = many_runs_out _ _ {w = items (inside c.args.self.now.room) c.args.cursor.now} _ _ _ _ _ c.loop-turn-test.false c.loop-turn.invariant.reads
