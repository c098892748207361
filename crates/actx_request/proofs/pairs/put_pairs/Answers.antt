use Rattle.std.proofs.Common.{◌≡◌, ◌∙◌, ◌+◌, ◌++◌, ◌∷◌, [], suc, Some, None, true, false, not, List, sym, ap, take, drop, get_or, add-one}
use Rattle.std.proofs.Math.Seq.{take-suc, drop-cons}
use Rattle.std.proofs.lemmas.List.{take_all, take-append-drop}
use Rattle.actx_value.specs.declared.value.Key.{Key}
use Rattle.actx_value.specs.declared.value.Key.TheVariants.{Index}
use Rattle.actx_value.specs.declared.value.Value.{Value}
use Rattle.actx_value.specs.declared.value.Value.TheVariants.{Undefined}
use Rattle.actx_objects.specs.Objects.{ObjectStore, property_count}
use Rattle.actx_objects.specs.Writes.{refusal_of, written}
use Rattle.actx_request.specs.Limits.{properties_above}
use Rattle.actx_request.specs.Copies.{with_pairs_at}
use Rattle.actx_request.proofs.Above.{stays}
use Rattle.actx_request.proofs.WriteLemmas.{thawed_is_there, refusal_is}
use Rattle.actx_request.proofs.PairLemmas.{put_start, put_step, put_fits, put_full}
use Rattle.actx_request.proofs.pairs.put_pairs.Goals as goal

pub loop-k-init : goal.loop-k-init
loop-k-init c =
    let s : ObjectStore = c.args.objects.now in
    let there = thawed_is_there s c.args.o c.requires.thawed in
    (put_start c.args.texts.now.texts s c.args.o there.0 there.1 c.requires.thawed, stays s.most_properties (property_count s.objects))

pub loop-k-preserved : goal.loop-k-preserved
loop-k-preserved c =
    let s : ObjectStore = c.args.objects.now in
    let texts = c.args.texts.now.texts in
    let there = thawed_is_there s c.args.o c.requires.thawed in
    let es : List (Key × Value) = take c.loop-k.k-index c.args.pairs.now in
    let e : Key × Value = get_or c.args.pairs.now c.loop-k.k-index (Index 0, Undefined) in
    let more : take (c.loop-k.k-index + 1) c.args.pairs.now ≡ es ++ (e.0, e.1) ∷ [] = rw add-one (take-suc c.args.pairs.now c.loop-k.k-index (Index 0, Undefined) c.loop-k-test.true) in
    let free : refusal_of texts (with_pairs_at texts es c.args.o s) c.args.o e.0 e.1 ≡ None = sym (ap (λ (t : ObjectStore). refusal_of texts t c.args.o e.0 e.1) c.loop-k.invariant.0) ∙ c.in_default.ensures.refused in
    let low : properties_above s (with_pairs_at texts es c.args.o s) ≡ false = sym (ap (λ (t : ObjectStore). properties_above s t) c.loop-k.invariant.0) ∙ c.loop-k.invariant.1 in
    let whole : c.set.new.self ≡ written texts (with_pairs_at texts es c.args.o s) c.args.o e.0 e.1 false =
    c.in_default.ensures.ok ∙ ap (λ (t : ObjectStore). written texts t c.args.o e.0 e.1 false) c.loop-k.invariant.0 in (
      whole ∙ put_step texts s c.args.o there.0 there.1 c.requires.thawed c.requires.plain es e.0 e.1 ∙ ap (λ (ws : List (Key × Value)). with_pairs_at texts ws c.args.o s) (sym more),
      ap (λ (t : ObjectStore). properties_above s t) whole ∙ put_fits texts s c.args.o there.0 there.1 c.requires.thawed c.requires.plain es e.0 e.1 low free,
    )

pub returns-in-Err-clause-fits : goal.returns-in-Err-clause-fits
returns-in-Err-clause-fits c =
    let s : ObjectStore = c.args.objects.now in
    let texts = c.args.texts.now.texts in
    let there = thawed_is_there s c.args.o c.requires.thawed in
    let es : List (Key × Value) = take c.loop-k.k-index c.args.pairs.now in
    let e : Key × Value = get_or c.args.pairs.now c.loop-k.k-index (Index 0, Undefined) in
    let rest : List (Key × Value) = drop (suc c.loop-k.k-index) c.args.pairs.now in
    let all : es ++ (e.0, e.1) ∷ rest ≡ c.args.pairs.now = ap (λ (ws : List (Key × Value)). es ++ ws) (sym (drop-cons c.args.pairs.now c.loop-k.k-index (Index 0, Undefined) c.loop-k-test.true)) ∙ take-append-drop c.loop-k.k-index c.args.pairs.now in
    let refused : refusal_of texts (with_pairs_at texts es c.args.o s) c.args.o e.0 e.1 ≡ Some c.in-Err.e =
    sym (ap (λ (t : ObjectStore). refusal_of texts t c.args.o e.0 e.1) c.loop-k.invariant.0)
    ∙ refusal_is (Unit {0}) (refusal_of texts c.loop-k.objects c.args.o e.0 e.1) c.in-Err.e c.in_ok-stopped.ensures.memory c.in-Err.ensures.refused in
    let full : properties_above s (with_pairs_at texts (es ++ (e.0, e.1) ∷ rest) c.args.o s) ≡ true = put_full texts s c.args.o there.0 there.1 c.requires.thawed c.requires.plain es rest e.0 e.1 c.in-Err.e refused in
    c.in_ok-stopped.ensures.stops ∙ sym (ap not (ap (λ (ws : List (Key × Value)). properties_above s (with_pairs_at texts ws c.args.o s)) (sym all) ∙ full))

pub returns-clause-fits : goal.returns-clause-fits
returns-clause-fits c =
    let s : ObjectStore = c.args.objects.now in
    let all : take c.loop-k.k-index c.args.pairs.now ≡ c.args.pairs.now = take_all c.loop-k.k-index c.args.pairs.now c.loop-k-test.false in
    sym (ap not (sym (ap (λ (t : ObjectStore). properties_above s t) (c.loop-k.invariant.0 ∙ ap (λ (es : List (Key × Value)). with_pairs_at c.args.texts.now.texts es c.args.o s) all)) ∙ c.loop-k.invariant.1))

pub returns-clause-written : goal.returns-clause-written
returns-clause-written c =
    let all : take c.loop-k.k-index c.args.pairs.now ≡ c.args.pairs.now = take_all c.loop-k.k-index c.args.pairs.now c.loop-k-test.false in
    c.loop-k.invariant.0 ∙ ap (λ (es : List (Key × Value)). with_pairs_at c.args.texts.now.texts es c.args.o c.args.objects.now) all
