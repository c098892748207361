use Rattle.std.proofs.Common.{◌≡◌, ◌∙◌, true, false, List, sym, ap}
use Rattle.actx_value.specs.declared.value.Key.{Key}
use Rattle.actx_value.specs.declared.value.Value.{Value}
use Rattle.actx_objects.specs.Objects.{ObjectStore}
use Rattle.actx_request.specs.Limits.{properties_above}
use Rattle.actx_request.specs.Copies.{blank_pairs, with_pairs_at}
use Rattle.actx_request.specs.Puts.{with_units_at}
use Rattle.actx_request.proofs.WriteLemmas.{thawed_is_there}
use Rattle.actx_request.proofs.UnitLemmas.{blank_above, above_by, not_true, not_false}
use Rattle.actx_request.proofs.pairs.put_units.Goals as goal

pub returns-then-branch-2-clause-above : goal.returns-then-branch-2-clause-above
returns-then-branch-2-clause-above c =
    let s : ObjectStore = c.args.objects.now in
    let there = thawed_is_there s c.args.o c.requires.thawed in
    let keys : c.as_slice-in-None.result.now ≡ blank_pairs c.args.units.now = c.as_slice-in-None.ensures.value ∙ c.in_ok-pairs-in-None.ensures in
    let low : properties_above s (with_units_at c.args.units.now c.args.o s c.args.texts.now) ≡ false =
    sym (ap (λ (es : List (Key × Value)). properties_above s (with_pairs_at c.add_units.new.texts.texts es c.args.o s)) keys ∙ blank_above s c.args.o there.0 there.1 c.add_units.new.texts.texts c.args.units.now c.args.texts.now)
    ∙ not_true _ (sym c.if-branch-2.true ∙ c.in_ok-put_pairs-in-None.ensures.fits) in
    above_by c.args.units.now c.args.o s c.args.texts.now false true low (rw c.in-None.is at c.in_ok-pairs.ensures.above)

pub returns-clause-above : goal.returns-clause-above
returns-clause-above c =
    let s : ObjectStore = c.args.objects.now in
    let there = thawed_is_there s c.args.o c.requires.thawed in
    let keys : c.as_slice-in-None.result.now ≡ blank_pairs c.args.units.now = c.as_slice-in-None.ensures.value ∙ c.in_ok-pairs-in-None.ensures in
    let high : properties_above s (with_units_at c.args.units.now c.args.o s c.args.texts.now) ≡ true =
    sym (ap (λ (es : List (Key × Value)). properties_above s (with_pairs_at c.add_units.new.texts.texts es c.args.o s)) keys ∙ blank_above s c.args.o there.0 there.1 c.add_units.new.texts.texts c.args.units.now c.args.texts.now)
    ∙ not_false _ (sym c.if-branch-2.false ∙ c.in_ok-put_pairs-in-None.ensures.fits) in
    above_by c.args.units.now c.args.o s c.args.texts.now true true high (rw c.in-None.is at c.in_ok-pairs.ensures.above)
