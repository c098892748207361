use Rattle.std.proofs.Common.{◌≡◌, ◌+◌, ◌<◌, ◌++◌, ℕ, suc, length, drop, None, slice_set, ap, ◌∙◌, arith}
use Rattle.actx_objects.specs.Slots.{blanks}
use Rattle.actx_objects.proofs.ClearLemmas.{blanks_more}
use Rattle.actx_objects.proofs.entries.empty_slots.Goals as goal

pub loop-p-preserved : goal.loop-p-preserved
loop-p-preserved c =
    let p : ℕ = c.loop-p.p in
    let next : suc p ≡ p + 1 = omega arith in
    let old = c.args.slots.now.items in
    let less : p < length old = omega arith in
    ap (λ slots. slice_set slots p None) c.loop-p.invariant ∙ blanks_more p old less ∙ ap (λ m. blanks m ++ drop m old) next
