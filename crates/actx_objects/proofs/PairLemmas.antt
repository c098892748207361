-- The look-ups of a map are those of a plain list, and how long the list is after a change.
use Rattle.std.proofs.Common.{◌≡◌, suc, ◌+◌, Bool, true, false, cond, is_some, List, [], ◌∷◌, length, Option, Some, refl, sym, ap, ◌∙◌, arith, true≢false}
use Rattle.std.specs.Map.{lookup, remove_entry}
use Rattle.indexmap.specs.IndexMap.{insert_entry}
use Rattle.actx_objects.specs.Pairs.{at_key, with_key, without_key}

module _ {K X : Type 0} (eq same : K → K → Bool) (is : (a b : K) → same a b ≡ eq a b) (k : K) where
  pub lookup_is : (es : List (K × X)) → lookup (same k) es ≡ at_key eq k es
  lookup_is [] = refl
  lookup_is (e ∷ es) = rw (is k e.0, lookup_is es) refl

  pub insert_is : (x : X) (es : List (K × X)) → insert_entry same es k x ≡ with_key eq k x es
  insert_is x [] = refl
  insert_is x (e ∷ es) = rw (is k e.0, insert_is x es) refl

  pub remove_is : (es : List (K × X)) → remove_entry (same k) es ≡ without_key eq k es
  remove_is [] = refl
  remove_is (e ∷ es) = rw (is k e.0, remove_is es) refl

module _ {K X : Type 0} (eq : K → K → Bool) (k : K) where
  -- a write adds one where nothing stands at the key
  pub length-with_key : (x : X) (es : List (K × X)) → length (with_key eq k x es) ≡ length es + cond (is_some (at_key eq k es)) 0 1
  length-with_key x [] = refl
  length-with_key x (e ∷ es) = by (eq k e.0) (length-with_key x es)
    where
      by : (b : Bool) → length (with_key eq k x es) ≡ length es + cond (is_some (at_key eq k es)) 0 1 → length (cond b ((e.0, x) ∷ es) (e ∷ with_key eq k x es)) ≡ suc (length es) + cond (is_some (cond b (Some e.1) (at_key eq k es))) 0 1
      by true more = omega arith
      by false more = omega arith

  -- a removal takes one where something stands
  pub length-without_key : (es : List (K × X)) → is_some (at_key eq k es) ≡ true → length (without_key eq k es) + 1 ≡ length es
  length-without_key [] h = absurd (true≢false (sym h))
  length-without_key (e ∷ es) h = by (eq k e.0) h (length-without_key es)
    where
      by : (b : Bool) → is_some (cond b (Some e.1) (at_key eq k es)) ≡ true → (is_some (at_key eq k es) ≡ true → length (without_key eq k es) + 1 ≡ length es) → length (cond b es (e ∷ without_key eq k es)) + 1 ≡ suc (length es)
      by true h more = omega arith
      by false h more = let m : length (without_key eq k es) + 1 ≡ length es = more h in omega arith

-- a map after an update, as a plain list
module _ {K X : Type 0} (eq same : K → K → Bool) (is : (a b : K) → same a b ≡ eq a b) (k : K) (w : Option X) (old new : List (K × X)) where
  pub update_is : ((q : K) → lookup (same q) new ≡ cond (same k q) w (lookup (same q) old)) → (q : K) → at_key eq q new ≡ cond (eq k q) w (at_key eq q old)
  update_is h q =
      sym (lookup_is eq same is q new) ∙ h q
      ∙ ap (λ b. cond b w (lookup (same q) old)) (is k q) ∙ ap (λ o. cond (eq k q) w o) (lookup_is eq same is q old)
