-- What stands in a list after a write or a push.
use Rattle.std.proofs.Common.{◌≡◌, ◌≢◌, ℕ, zero, suc, ◌<◌, ◌⊎◌, inl, inr, List, [], ◌∷◌, ◌++◌, length, slice_get, slice_set, Some, refl, ap, arith}
use Rattle.std.proofs.lemmas.Option.{none-some}

module _ {X : Type 0} where
  pub set_here : (xs : List X) (i : ℕ) (w : X) → i < length xs → slice_get (slice_set xs i w) i ≡ Some w
  set_here [] i w h = absurd (omega arith)
  set_here (x ∷ xs) zero w h = refl
  set_here (x ∷ xs) (suc i) w h = set_here xs i w (omega arith)

  pub set_elsewhere : (xs : List X) (i j : ℕ) (w : X) → j ≢ i → slice_get (slice_set xs i w) j ≡ slice_get xs j
  set_elsewhere [] i j w h = refl
  set_elsewhere (x ∷ xs) zero zero w h = absurd (h refl)
  set_elsewhere (x ∷ xs) zero (suc j) w h = refl
  set_elsewhere (x ∷ xs) (suc i) zero w h = refl
  set_elsewhere (x ∷ xs) (suc i) (suc j) w h = set_elsewhere xs i j w (λ e. h (ap suc e))

  pub push_here : (xs : List X) (w : X) → slice_get (xs ++ w ∷ []) (length xs) ≡ Some w
  push_here [] w = refl
  push_here (x ∷ xs) w = push_here xs w

  pub push_before : (xs : List X) (w : X) (i : ℕ) (x : X) → slice_get xs i ≡ Some x → slice_get (xs ++ w ∷ []) i ≡ Some x
  push_before [] w i x h = absurd (none-some x h)
  push_before (y ∷ ys) w zero x h = h
  push_before (y ∷ ys) w (suc i) x h = push_before ys w i x h

  -- what stands after a push stood before, or is the new one
  pub push_cases : (xs : List X) (w : X) (i : ℕ) (x : X) → slice_get (xs ++ w ∷ []) i ≡ Some x → (slice_get xs i ≡ Some x) ⊎ ((i ≡ length xs) × (Some w ≡ Some x))
  push_cases [] w zero x h = inr (refl, h)
  push_cases [] w (suc i) x h = absurd (none-some x h)
  push_cases (y ∷ ys) w zero x h = inl h
  push_cases (y ∷ ys) w (suc i) x h = elim (push_cases ys w i x h) [ inl e ↦ inl e | inr e ↦ inr (ap suc e.0, e.1) ]
