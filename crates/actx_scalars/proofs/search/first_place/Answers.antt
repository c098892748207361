use Rattle.std.proofs.Common.{◌≡◌, ◌<◌, true, false, nat_eq, sym, ap, ◌∙◌, arith}
use Rattle.std.proofs.lemmas.List.{take_rest}
use Rattle.std.specs.List.{starts_with}
use Rattle.actx_scalars.specs.Searches.{stands_at}
use Rattle.actx_scalars.proofs.RangeLemmas.{found_here, found_later}
use Rattle.actx_scalars.proofs.search.first_place.Goals as goal

pub returns-then-starts_with-clause-value : goal.returns-then-starts_with-clause-value
returns-then-starts_with-clause-value c =
    let below : c.loop-i.i < c.saturating_sub-past.result = omega arith in
    let good : stands_at c.args.text.now c.args.search.now c.loop-i.i ≡ true = ap (λ ys. starts_with nat_eq ys c.args.search.now) (sym (take_rest c.args.text.now c.loop-i.i)) ∙ sym c.if-starts_with.ensures.value in
    sym (found_here (stands_at c.args.text.now c.args.search.now) c.loop-i.i c.saturating_sub-past.result below good) ∙ c.loop-i.invariant.1

pub loop-i-preserved : goal.loop-i-preserved
loop-i-preserved c =
    let below : c.loop-i.i < c.saturating_sub-past.result = omega arith in
    let bad : stands_at c.args.text.now c.args.search.now c.loop-i.i ≡ false = ap (λ ys. starts_with nat_eq ys c.args.search.now) (sym (take_rest c.args.text.now c.loop-i.i)) ∙ sym c.if-starts_with.ensures.value in
    (omega arith, sym (found_later (stands_at c.args.text.now c.args.search.now) c.loop-i.i c.saturating_sub-past.result below bad) ∙ c.loop-i.invariant.1)
