use Rattle.std.proofs.Common.{◌≡◌, ◌∙◌, sym}
use Rattle.actx_event.specs.Event.{closed_bracket}
use Rattle.actx_event.specs.Front.{front}
use Rattle.actx_event.specs.Valid.{is_nested}
use Rattle.actx_event.proofs.Standing.{opener_number}
use Rattle.actx_event.proofs.Rules.{nesting_broken, none_broken}
use Rattle.actx_event.proofs.checking.broken_rule.Goals as goal

pub returns-then-not-has_opener : goal.returns-then-not-has_opener
returns-then-not-has_opener c =
    let e = c.args.event.now in
    let p = front c.args.log.now c.args.n in
    let nested : c.has_opener.result ≡ is_nested e p = let same = opener_number c.args.log.now c.args.n (closed_bracket e) in cc (c.has_opener.ensures, c.closed_bracket.ensures, c.requires.standing) in
    sym (nesting_broken e p (sym c.is_numbered.ensures ∙ c.if-not-is_numbered.false) (sym c.is_introduced.ensures ∙ c.if-not-is_introduced.false) (sym nested ∙ c.if-not-has_opener.true))

pub returns : goal.returns
returns c =
    let e = c.args.event.now in
    let p = front c.args.log.now c.args.n in
    let nested : c.has_opener.result ≡ is_nested e p = let same = opener_number c.args.log.now c.args.n (closed_bracket e) in cc (c.has_opener.ensures, c.closed_bracket.ensures, c.requires.standing) in
    sym (none_broken e p (sym c.is_numbered.ensures ∙ c.if-not-is_numbered.false) (sym c.is_introduced.ensures ∙ c.if-not-is_introduced.false) (sym nested ∙ c.if-not-has_opener.false) (sym c.is_executed.ensures ∙ c.if-not-is_executed.false) (sym c.in_ok-is_read.ensures ∙ c.if-not-branch.false))
