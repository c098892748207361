use Rattle.std.proofs.Common.{◌≡◌, true, false, Ok, Err, rules, arith}
use Rattle.std.proofs.lemmas.Grind.{common_steps}
use Rattle.actx_grammar.specs.declared.error.Cause.{Cause}
use Rattle.actx_grammar.specs.Lines.{below}
use Rattle.actx_grammar.specs.Patterns.{elems, elem, ends_elems}
use Rattle.actx_grammar.specs.Tokens.{next}
use Rattle.actx_pattern.specs.Lists.{list_goes_on}
use Rattle.actx_pattern.proofs.Rows.{row_ends, row_fails, row_stops, row_last, row_goes_on, row_runs_out}
use Rattle.actx_pattern.proofs.elements.elems.Goals as goal

pub returns-then-ends_elems-clause-reads : goal.returns-then-ends_elems-clause-reads
returns-then-ends_elems-clause-reads g c =
    let q : ends_elems c.args.bracket (next c.loop-turn.cursor) ≡ true = first_of (search rules, grind (arith, common_steps)) in
    row_ends _ _ _ {w = elems (below c.args.inner.now.room) c.args.bracket c.args.cursor.now} _ _ _ _ _ c.loop-turn-test.true c.loop-turn.invariant.reads q

pub returns-in_err-item-clause-reads : goal.returns-in_err-item-clause-reads
returns-in_err-item-clause-reads g c =
    let q : ends_elems c.args.bracket (next c.loop-turn.cursor) ≡ false = first_of (search rules, grind (arith, common_steps)) in
    let t : (cause : Cause) → elem (below c.args.inner.now.room) c.loop-turn.cursor ≡ Err cause → elems (below c.args.inner.now.room) c.args.bracket c.args.cursor.now ≡ Err cause =
    λ cause r. row_fails _ _ _ {w = elems (below c.args.inner.now.room) c.args.bracket c.args.cursor.now} _ _ _ _ _ c.loop-turn-test.true c.loop-turn.invariant.reads q r in
    first_of (search (rules, t), grind (arith, common_steps, t))

pub returns-in_err-list_goes_on-clause-reads : goal.returns-in_err-list_goes_on-clause-reads
returns-in_err-list_goes_on-clause-reads g c =
    let q : ends_elems c.args.bracket (next c.loop-turn.cursor) ≡ false = first_of (search rules, grind (arith, common_steps)) in
    let t : (cause : Cause) → list_goes_on c.args.bracket c.elem.new.cursor ≡ Err cause → elems (below c.args.inner.now.room) c.args.bracket c.args.cursor.now ≡ Err cause =
    λ cause s. row_stops _ _ _ {w = elems (below c.args.inner.now.room) c.args.bracket c.args.cursor.now} _ _ _ _ _ c.loop-turn-test.true c.loop-turn.invariant.reads q c.in_ok-item.ensures.reads s in
    first_of (search (rules, t), grind (arith, common_steps, t))

pub returns-then-not-branch-clause-reads : goal.returns-then-not-branch-clause-reads
returns-then-not-branch-clause-reads g c =
    let q : ends_elems c.args.bracket (next c.loop-turn.cursor) ≡ false = first_of (search rules, grind (arith, common_steps)) in
    let s : list_goes_on c.args.bracket c.elem.new.cursor ≡ Ok (false, c.list_goes_on.new.cursor) = first_of (search rules, grind (arith, common_steps)) in
    rw (c.in_ok-push.ensures.ok, c.max-highest.ensures) (row_last _ _ _ {w = elems (below c.args.inner.now.room) c.args.bracket c.args.cursor.now} _ _ _ _ _ c.loop-turn-test.true c.loop-turn.invariant.reads q c.in_ok-item.ensures.reads s)

pub loop-turn-preserved : goal.loop-turn-preserved
loop-turn-preserved g c =
    let q : ends_elems c.args.bracket (next c.loop-turn.cursor) ≡ false = first_of (search rules, grind (arith, common_steps)) in
    let s : list_goes_on c.args.bracket c.elem.new.cursor ≡ Ok (true, c.list_goes_on.new.cursor) = first_of (search rules, grind (arith, common_steps)) in
    record {
      reads = rw (c.in_ok-push.ensures.ok, c.max-highest.ensures) (row_goes_on _ _ _ {w = elems (below c.args.inner.now.room) c.args.bracket c.args.cursor.now} _ _ _ _ _ c.loop-turn-test.true c.loop-turn.invariant.reads q c.in_ok-item.ensures.reads s);
      low = first_of (search rules, grind (arith, common_steps));
    }

pub returns-clause-reads : goal.returns-clause-reads
returns-clause-reads g c = λ _. row_runs_out _ _ _ {w = elems (below c.args.inner.now.room) c.args.bracket c.args.cursor.now} _ _ _ _ _ c.loop-turn-test.false c.loop-turn.invariant.reads
