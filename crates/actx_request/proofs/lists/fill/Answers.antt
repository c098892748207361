use Rattle.std.proofs.Common.{◌≡◌, ◌∙◌, ◌<◌, ◌+◌, ◌++◌, ◌∷◌, min, List, [], Some, None, not, sym, ap, length, take, length-take, get_or, add-one, arith}
use Rattle.std.proofs.Math.Seq.{take-suc}
use Rattle.std.proofs.lemmas.List.{take_all}
use Rattle.actx_value.specs.declared.value.Value.{Value}
use Rattle.actx_value.specs.declared.value.Value.TheVariants.{Undefined}
use Rattle.actx_objects.specs.Kinds.{is_array}
use Rattle.actx_objects.specs.Objects.{ObjectStore, property_count, kind_of}
use Rattle.actx_objects.specs.Writes.{pushed, push_refusal}
use Rattle.actx_request.specs.Limits.{properties_above}
use Rattle.actx_request.specs.Lists.{filled}
use Rattle.actx_request.proofs.Above.{stays}
use Rattle.actx_request.proofs.WriteLemmas.{thawed_is_there, refusal_is}
use Rattle.actx_request.proofs.FillLemmas.{fill_start, fill_kind, fill_step, fill_fits, fill_full}
use Rattle.actx_request.proofs.lists.fill.Goals as goal

pub loop-v-init : goal.loop-v-init
loop-v-init c =
    let s : ObjectStore = c.args.objects.now in
    let there = thawed_is_there s c.args.o c.requires.thawed in
    (fill_start s c.args.o there.0 there.1 c.requires.thawed c.requires.empty, stays s.most_properties (property_count s.objects))

pub push-requires : goal.push-requires
push-requires c =
    let s : ObjectStore = c.args.objects.now in
    let there = thawed_is_there s c.args.o c.requires.thawed in
    ap is_array (ap (λ (t : ObjectStore). kind_of t c.args.o) c.loop-v.invariant.0 ∙ fill_kind s c.args.o there.0 there.1 c.requires.thawed c.requires.empty _ ∙ c.requires.array)

pub loop-v-preserved : goal.loop-v-preserved
loop-v-preserved c =
    let s : ObjectStore = c.args.objects.now in
    let there = thawed_is_there s c.args.o c.requires.thawed in
    let us : List Value = take c.loop-v.v-index c.args.list.now in
    let v : Value = get_or c.args.list.now c.loop-v.v-index Undefined in
    let more : take (c.loop-v.v-index + 1) c.args.list.now ≡ us ++ v ∷ [] = rw add-one (take-suc c.args.list.now c.loop-v.v-index Undefined c.loop-v-test.true) in
    let free : push_refusal (filled us c.args.o s) c.args.o ≡ None = sym (ap (λ (t : ObjectStore). push_refusal t c.args.o) c.loop-v.invariant.0) ∙ c.in_default.ensures.refused in
    let whole : c.push.new.self ≡ filled (us ++ v ∷ []) c.args.o s =
    c.in_default.ensures.ok ∙ ap (λ (t : ObjectStore). pushed t c.args.o v) c.loop-v.invariant.0 ∙ fill_step s c.args.o there.0 there.1 c.requires.thawed c.requires.empty us v in (
      whole ∙ ap (λ (vs : List Value). filled vs c.args.o s) (sym more),
      ap (λ (t : ObjectStore). properties_above s t) whole ∙ fill_fits s c.args.o there.0 there.1 c.requires.thawed c.requires.empty us v free,
    )

pub returns-in-Err-clause-fits : goal.returns-in-Err-clause-fits
returns-in-Err-clause-fits c =
    let s : ObjectStore = c.args.objects.now in
    let there = thawed_is_there s c.args.o c.requires.thawed in
    let us : List Value = take c.loop-v.v-index c.args.list.now in
    let n : length us ≡ min c.loop-v.v-index (length c.args.list.now) = length-take c.loop-v.v-index c.args.list.now in
    let less : length us < length c.args.list.now = omega arith in
    let refused : push_refusal (filled us c.args.o s) c.args.o ≡ Some c.in-Err.e =
    sym (ap (λ (t : ObjectStore). push_refusal t c.args.o) c.loop-v.invariant.0)
    ∙ refusal_is (Unit {0}) (push_refusal c.loop-v.objects c.args.o) c.in-Err.e c.in_ok-stopped.ensures.memory c.in-Err.ensures.refused in
    c.in_ok-stopped.ensures.stops ∙ sym (ap not (fill_full s c.args.o there.0 there.1 c.requires.thawed c.requires.empty us c.args.list.now c.in-Err.e refused less))

pub returns-clause-fits : goal.returns-clause-fits
returns-clause-fits c =
    let s : ObjectStore = c.args.objects.now in
    let all : take c.loop-v.v-index c.args.list.now ≡ c.args.list.now = take_all c.loop-v.v-index c.args.list.now c.loop-v-test.false in
    sym (ap not (sym (ap (λ (t : ObjectStore). properties_above s t) (c.loop-v.invariant.0 ∙ ap (λ (vs : List Value). filled vs c.args.o s) all)) ∙ c.loop-v.invariant.1))

pub returns-clause-filled : goal.returns-clause-filled
returns-clause-filled c =
    let all : take c.loop-v.v-index c.args.list.now ≡ c.args.list.now = take_all c.loop-v.v-index c.args.list.now c.loop-v-test.false in
    c.loop-v.invariant.0 ∙ ap (λ (vs : List Value). filled vs c.args.o c.args.objects.now) all
