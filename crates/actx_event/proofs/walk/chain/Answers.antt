use Rattle.std.proofs.Common.{◌≡◌, ◌<◌, ◌-◌, ◌∙◌, sym, ap, true, false, [], ◌∷◌, ◌++◌, arith}
use Rattle.std.proofs.lemmas.List.{append_assoc, append-nil}
use Rattle.actx_event.specs.Event.{binds}
use Rattle.actx_event.specs.Numbers.{step_number, chain_at}
use Rattle.actx_event.proofs.WalkByNumber.{chain_none}
use Rattle.actx_event.proofs.WalkSteps.{binds_found, step_falls, chain_turn}
use Rattle.actx_event.proofs.walk.chain.Goals as goal

pub returns-then-is_some : goal.returns-then-is_some
returns-then-is_some c =
    let l = c.loop-at in
    let e = c.event_at.result.now in
    let v = c.args.variable.0 in
    let bound : binds v e ≡ true = binds_found v e c.value_bound.result c.value_bound.ensures ∙ (sym c.is_some.ensures ∙ c.if-is_some.true) in
    c.in_ok-push.ensures.items ∙ sym (l.invariant.same ∙ ap (λ ns. l.numbers.items ++ ns) (chain_turn c.args.log.now l.at v e true c.loop-at-test.true l.invariant.within c.event_at.ensures bound))

pub loop-at-smaller : goal.loop-at-smaller
loop-at-smaller c =
    let l = c.loop-at in
    let falls : step_number c.args.log.now l.at < l.at = step_falls c.args.log.now l.at c.loop-at-test.true l.invariant.within in
    omega (arith, c.in_ok-at.ensures, falls)

pub loop-at-preserved : goal.loop-at-preserved
loop-at-preserved c =
    let l = c.loop-at in
    let e = c.event_at.result.now in
    let v = c.args.variable.0 in
    let free : binds v e ≡ false = binds_found v e c.value_bound.result c.value_bound.ensures ∙ (sym c.is_some.ensures ∙ c.if-is_some.false) in
    let falls : step_number c.args.log.now l.at < l.at = step_falls c.args.log.now l.at c.loop-at-test.true l.invariant.within in
    let rest = chain_at c.args.log.now c.in_ok-at.at v in
    record {
      within = omega (arith, c.in_ok-at.ensures, falls, l.invariant.within);
      same = l.invariant.same ∙ (ap (λ ns. l.numbers.items ++ ns) (chain_turn c.args.log.now l.at v e false c.loop-at-test.true l.invariant.within c.event_at.ensures free ∙ ap (λ p. (l.at - 1) ∷ chain_at c.args.log.now p v) (sym c.in_ok-at.ensures)) ∙ (sym (append_assoc l.numbers.items ((l.at - 1) ∷ []) rest) ∙ ap (λ ns. ns ++ rest) (sym c.in_ok-push.ensures.items)));
    }

pub returns : goal.returns
returns c =
    let l = c.loop-at in
    let start : l.at ≡ 0 = omega arith in
    sym (l.invariant.same ∙ (ap (λ p. l.numbers.items ++ chain_at c.args.log.now p c.args.variable.0) start ∙ (ap (λ ns. l.numbers.items ++ ns) (chain_none c.args.log.now c.args.variable.0) ∙ append-nil l.numbers.items)))
