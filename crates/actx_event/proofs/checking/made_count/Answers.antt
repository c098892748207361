use Rattle.std.proofs.Common.{◌≡◌, ◌+◌, ◌∙◌, sym, ap, Bool, if◌then◌else◌, arith}
use Rattle.std.specs.Prelude.{is_some}
use Rattle.actx_event.specs.Event.{number_made}
use Rattle.actx_event.specs.Front.{front}
use Rattle.actx_event.specs.Valid.{made_count}
use Rattle.actx_event.proofs.Rules.{count_more}
use Rattle.actx_event.proofs.checking.made_count.Goals as goal
use Rattle.actx_event.proofs.checking.made_count.Goals.{then-is_some, else-is_some}

pub loop-n-preserved : goal.loop-n-preserved
loop-n-preserved c =
    let l = c.loop-n in
    let e = c.event_at.result.now in
    let test : is_some (number_made c.args.what e) ≡ c.is_some.result = ap is_some (sym c.number_made.ensures) ∙ sym c.is_some.ensures in
    let more = count_more (number_made c.args.what) c.args.log.now l.n e c.is_some.result c.event_at.ensures test in
    elim c.if-is_some.branch [
      | then-is_some w ↦ record {
        counted = let grows = more ∙ ap (λ (t : Bool). if t then made_count (number_made c.args.what) (front c.args.log.now l.n) + 1 else made_count (number_made c.args.what) (front c.args.log.now l.n)) w.if-is_some.true in omega (arith, grows, w.count-is, l.invariant.counted);
        bound = omega (arith, w.count-is, l.invariant.bound);
      }
      | else-is_some w ↦ record {
        counted = let stays = more ∙ ap (λ (t : Bool). if t then made_count (number_made c.args.what) (front c.args.log.now l.n) + 1 else made_count (number_made c.args.what) (front c.args.log.now l.n)) w.if-is_some.false in omega (arith, stays, w.count-is, l.invariant.counted);
        bound = omega (arith, w.count-is, l.invariant.bound);
      }
    ]
