use Rattle.std.proofs.Common.{◌≡◌, ℕ, ◌-◌, length, sym, ap, ◌∙◌, subst, arith, true, Err, [], Result}
use Rattle.actx_lex.specs.declared.token.LexError.{LexError}
use Rattle.actx_lex.specs.declared.token.LexError.TheVariants.{BadToken}
use Rattle.actx_lex.specs.Readers.{opened}
use Rattle.actx_lex.proofs.GapItems.{opened-read, opened-short}
use Rattle.actx_lex.proofs.InOrder.{tokens-in-order, between-count}
use Rattle.actx_lex.proofs.Runs.{begin, next, spells, no_further, the_list, step-short, left-short, all_spelled, from_start, Reached}
use Rattle.actx_lex.proofs.lex.tokens.Goals as goal

pub loop-left-init : goal.loop-left-init
loop-left-init c =
    let e = c.opened-left.ensures ∙ ap opened c.new.ensures ∙ ap opened c.as_units-units.ensures in
    let l = ap length e in
    let s = opened-short c.args.text.now in
    rw c.new-braces.ensures.items (rw c.new-found.ensures.items (record {
      reached = subst (λ x. Reached (length c.args.text.now) (opened c.args.text.now) [] true [] x) (sym e) (begin _ _);
      low = omega arith;
    }))

pub returns-then-len-eq0-clause-spelled : goal.returns-then-len-eq0-clause-spelled
returns-then-len-eq0-clause-spelled c = record {
  start = opened c.args.text.now;
  opened = opened-read c.args.text.now;
  spelled = all_spelled _ c.loop-left.invariant.reached c.gap-line.ensures.gap (sym c.len.ensures ∙ c.if-len-eq0.true);
}

pub returns-then-len-eq0-clause-given : goal.returns-then-len-eq0-clause-given
returns-then-len-eq0-clause-given c ts d =
    the_list _ c.loop-left.invariant.reached c.gap-line.ensures.gap (sym c.len.ensures ∙ c.if-len-eq0.true) ts (from_start d)

pub returns-then-len-eq0-clause-in_order : goal.returns-then-len-eq0-clause-in_order
returns-then-len-eq0-clause-in_order c = tokens-in-order (returns-then-len-eq0-clause-spelled c)

pub returns-then-len-eq0-clause-few : goal.returns-then-len-eq0-clause-few
returns-then-len-eq0-clause-few c =
    let h = between-count 0 (length c.args.text.now) c.loop-left.found.items (returns-then-len-eq0-clause-in_order c) in omega arith

pub overflow_sub-from : goal.overflow_sub-from
overflow_sub-from c =
    let e = ap length c.as_units-units.ensures in
    let s = left-short _ c.loop-left.invariant.low c.gap-line.ensures.gap in
    let l = c.len-in-loop-left.ensures in omega arith

place_of : ℕ → {A : Type 0} → Result A LexError → ℕ
place_of d (Err (BadToken at)) = at
place_of d _ = d

place : {A : Type 0} (p q : ℕ) → ◌≡◌ {A = Result A LexError} (Err (BadToken p)) (Err (BadToken q)) → p ≡ q
unfolding place_of
place p q e = ap (place_of p) e

pub returns-in-None-clause-given : goal.returns-in-None-clause-given
returns-in-None-clause-given c ts d =
    let none = rw c.in_template.ensures at (rw c.in-None.is at c.in_ok-token.ensures) in
    let x = no_further _ c.loop-left.invariant.reached c.gap-line.ensures.gap c.gap-line.ensures.whole none ts [] (from_start d) in
    let y = c.if-len-eq0.false in
    let z = c.len.ensures in
    Prim.absurd (omega arith)

pub returns-in-None-clause-reached : goal.returns-in-None-clause-reached
returns-in-None-clause-reached c at e =
    let l = c.len-in-loop-left.ensures in
    let s = left-short _ c.loop-left.invariant.low c.gap-line.ensures.gap in
    let k = ap length c.as_units-units.ensures in
    let q : length c.as_units-units.result.now - c.len-in-loop-left.result ≡ at = place _ _ e in
    record {
      tokens = c.loop-left.found.items;
      left = c.gap-line.new.self;
      spelled = record { start = opened c.args.text.now; opened = opened-read c.args.text.now; spelled = spells _ c.loop-left.invariant.reached c.gap-line.ensures.gap };
      place = omega arith;
    }

pub returns-in-None-clause-no_further : goal.returns-in-None-clause-no_further
returns-in-None-clause-no_further c at q e r =
    let none = rw c.in_template.ensures at (rw c.in-None.is at c.in_ok-token.ensures) in
    let x = no_further _ c.loop-left.invariant.reached c.gap-line.ensures.gap c.gap-line.ensures.whole none r.tokens r.left (from_start r.spelled) in
    let l = c.len-in-loop-left.ensures in
    let s = left-short _ c.loop-left.invariant.low c.gap-line.ensures.gap in
    let k = ap length c.as_units-units.ensures in
    let y : length c.as_units-units.result.now - c.len-in-loop-left.result ≡ at = place _ _ e in
    let z = r.place in
    omega arith

pub overflow_sub-to : goal.overflow_sub-to
overflow_sub-to c =
    let h = rw c.in-Some.is at c.in_ok-token.ensures in
    let s = step-short c.gap-line.ensures.gap h in
    let k = ap length c.as_units-units.ensures in
    let l = c.loop-left.invariant.low in
    let m = c.len-in-Some.ensures in omega arith

pub loop-left-smaller : goal.loop-left-smaller
loop-left-smaller c = step-short c.gap-line.ensures.gap (rw c.in-Some.is at c.in_ok-token.ensures)

pub loop-left-preserved : goal.loop-left-preserved
loop-left-preserved c =
    let h = rw c.in-Some.is at c.in_ok-token.ensures in
    let s = step-short c.gap-line.ensures.gap h in
    let l = c.loop-left.invariant.low in
    record {
      reached = rw c.in_ok-follow-in-Some.ensures (rw c.in_ok-add_token-in-Some.ensures (rw c.as_units-units.ensures (rw c.len-in-loop-left.ensures (rw c.len-in-Some.ensures
          (next c.loop-left.left c.gap-line.new.self c.token.new.text c.loop-left.invariant.reached c.gap-line.ensures.gap c.gap-line.ensures.whole (rw c.in_template.ensures at h))))));
      low = omega arith;
    }
