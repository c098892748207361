-- One property more among those that are listed.
use Rattle.std.proofs.Common.{◌≡◌, ℕ, ◌+◌, ◌++◌, cond, not, Bool, true, false, List, [], ◌∷◌, map, drop, slice_get, Some, refl, sym, ap, ◌∙◌, append_assoc}
use Rattle.std.specs.List.{filter}
use Rattle.actx_value.specs.declared.value.Key.{Key}
use Rattle.actx_objects.specs.declared.props.Prop.{Prop}
use Rattle.actx_objects.specs.Properties.{shown_keys}
use Rattle.actx_objects.proofs.DropLemmas.{drop_next}

shown_first : (x : Key × Prop) (es : List (Key × Prop)) → shown_keys (x ∷ es) ≡ shown_keys (x ∷ []) ++ shown_keys es
shown_first x es = by (not x.1.hidden)
  where
    by : (b : Bool) → map (λ (p : Key × Prop). p.0) (cond b (x ∷ filter (λ p. not p.1.hidden) es) (filter (λ p. not p.1.hidden) es)) ≡ map (λ (p : Key × Prop). p.0) (cond b (x ∷ []) []) ++ shown_keys es
    by true = refl
    by false = refl

pub shown_next : (es : List (Key × Prop)) (i : ℕ) (x : Key × Prop) (keys : List Key) → Some x ≡ slice_get es i → (keys ++ shown_keys (x ∷ [])) ++ shown_keys (drop (i + 1) es) ≡ keys ++ shown_keys (drop i es)
shown_next es i x keys h =
    append_assoc keys (shown_keys (x ∷ [])) (shown_keys (drop (i + 1) es))
    ∙ ap (λ r. keys ++ r) (sym (shown_first x (drop (i + 1) es)) ∙ sym (ap shown_keys (drop_next es i x (sym h))))
