use Rattle.std.proofs.Common.{◌≡◌, ◌∙◌, ℕ, ◌<◌, Bool, cond, List, [], ◌∷◌, ◌++◌, length, take, get_or, ap, arith}
use Rattle.std.specs.List.{filter, enumerate_from}
use Rattle.actx_value.specs.Texts.{text_at}
use Rattle.actx_value.specs.declared.value.Key.TheVariants.{Index}
use Rattle.actx_request.specs.Copies.{is_kept}
use Rattle.actx_request.proofs.KeptLemmas.{kept_step}
use Rattle.actx_request.proofs.sources.units_of_text.Goals as goal

pub loop-place-preserved : goal.loop-place-preserved
loop-place-preserved c =
    let i : ℕ = c.loop-place.place in
    let text : List ℕ = text_at c.args.texts.now.texts c.args.t.0 in
    let f : ℕ × ℕ → Bool = λ e. is_kept c.args.texts.now.texts c.args.excluded.now (Index e.0) in
    let same : c.units_of-text.result.now ≡ text = c.units_of-text.ensures in
    let long : length c.units_of-text.result.now ≡ length text = ap length same in
    let less : i < length text = omega arith in
    c.in_ok-push_kept.ensures
    ∙ ap (λ (us : List (ℕ × ℕ)). us ++ cond c.is_kept-kept.result ((i, get_or c.units_of-text.result.now i 0) ∷ []) []) c.loop-place.invariant
    ∙ ap (λ (b : Bool). filter f (enumerate_from 0 (take i text)) ++ cond b ((i, get_or c.units_of-text.result.now i 0) ∷ []) []) c.is_kept-kept.ensures
    ∙ ap (λ (us : List ℕ). filter f (enumerate_from 0 (take i text)) ++ cond (f (i, 0)) ((i, get_or us i 0) ∷ []) []) same
    ∙ kept_step f text i less
