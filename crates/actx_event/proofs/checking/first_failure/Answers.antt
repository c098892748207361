use Rattle.std.proofs.Common.{◌≡◌, ◌∙◌, sym, ap, reverse, length, Some, None, arith}
use Rattle.actx_event.specs.Front.{front}
use Rattle.actx_event.specs.Valid.{broken_rule, left_open}
use Rattle.actx_event.proofs.Standing.{opened_more}
use Rattle.actx_event.proofs.Validity.{fails_at}
use Rattle.actx_event.proofs.Rules.{unbroken_more, ends_at}
use Rattle.actx_event.proofs.checking.first_failure.Goals as goal

pub returns-in-Some : goal.returns-in-Some
returns-in-Some c =
    let l = c.loop-n in
    let e = c.event_at-event.result.now in
    let broken : broken_rule e (front c.args.log.now l.n) ≡ Some c.in-Some.rule = sym c.in_ok-rule.ensures ∙ c.in-Some.is in
    sym (fails_at c.args.log.now l.n e c.in-Some.rule c.event_at-event.ensures l.invariant.unbroken broken)

pub loop-n-preserved : goal.loop-n-preserved
loop-n-preserved c =
    let l = c.loop-n in
    let e = c.event_at-event.result.now in
    let sound : broken_rule e (front c.args.log.now l.n) ≡ None = sym c.in_ok-rule.ensures ∙ c.in_default.is in
    let more = opened_more c.args.log.now l.n e c.event_at-event.ensures in
    record {
      standing = cc (c.in_ok-follow.ensures, l.invariant.standing);
      unbroken = unbroken_more c.args.log.now l.n e c.event_at-event.ensures l.invariant.unbroken sound;
    }

pub returns : goal.returns
returns c =
    let l = c.loop-n in
    let all : l.n ≡ length c.args.log.now = omega arith in
    c.left_open.ensures ∙ (ap (λ os. left_open os (length c.args.log.now)) (ap reverse c.deref-2.ensures.value ∙ l.invariant.standing) ∙ ends_at c.args.log.now l.n all l.invariant.unbroken)
