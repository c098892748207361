use Rattle.std.proofs.Common.{◌≡◌, ◌∙◌, sym, false, true, ◌+◌}
use Rattle.actx_event.specs.Event.{closed_bracket}
use Rattle.actx_event.specs.Brackets.{has_opener}
use Rattle.actx_event.specs.Numbers.{opened_at}
use Rattle.actx_event.proofs.Standing.{opened_more, nests_more, nests_never}
use Rattle.actx_event.proofs.open_brackets.nests.Goals as goal

pub returns-then-not-has_opener : goal.returns-then-not-has_opener
returns-then-not-has_opener c =
    let l = c.loop-n in
    let e = c.event_at-event.result.now in
    let well : c.has_opener.result ≡ has_opener (closed_bracket e) (opened_at c.args.log.now l.n) = cc (c.has_opener.ensures, c.deref.ensures.value, c.closed_bracket.ensures, l.invariant.standing) in
    let off : c.has_opener.result ≡ false = c.if-not-has_opener.true in
    sym (nests_never c.args.log.now (l.n + 1) (nests_more c.args.log.now l.n e c.has_opener.result c.event_at-event.ensures well l.invariant.nesting ∙ off))

pub loop-n-preserved : goal.loop-n-preserved
loop-n-preserved c =
    let l = c.loop-n in
    let e = c.event_at-event.result.now in
    let well : c.has_opener.result ≡ has_opener (closed_bracket e) (opened_at c.args.log.now l.n) = cc (c.has_opener.ensures, c.deref.ensures.value, c.closed_bracket.ensures, l.invariant.standing) in
    let on : c.has_opener.result ≡ true = c.if-not-has_opener.false in
    record {
      standing = let more = opened_more c.args.log.now l.n e c.event_at-event.ensures in cc (c.in_ok-follow.ensures, l.invariant.standing);
      nesting = nests_more c.args.log.now l.n e c.has_opener.result c.event_at-event.ensures well l.invariant.nesting ∙ on;
    }
