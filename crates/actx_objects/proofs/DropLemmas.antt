-- What is left of a list from an index on.
use Rattle.std.proofs.Common.{◌≡◌, ℕ, zero, suc, ◌+◌, cond, Bool, List, [], ◌∷◌, drop, slice_get, Some, None, refl, sym, ap, arith}
use Rattle.std.proofs.lemmas.Option.{none-some}
use Rattle.std.specs.List.{find}
use Rattle.std.specs.Option.{option_map_or}

module _ {X : Type 0} where
  pub drop_read : (xs : List X) (i : ℕ) (x : X) → slice_get xs i ≡ Some x → drop i xs ≡ x ∷ drop (suc i) xs
  drop_read [] i x h = absurd (none-some x h)
  drop_read (y ∷ ys) zero x h = ap (λ o. option_map_or (λ z. z) o x ∷ ys) h
  drop_read (y ∷ ys) (suc i) x h = drop_read ys i x h

  pub drop_next : (xs : List X) (i : ℕ) (x : X) → slice_get xs i ≡ Some x → drop i xs ≡ x ∷ drop (i + 1) xs
  drop_next xs i x h = let e : suc i ≡ i + 1 = omega arith in rw (← e) (drop_read xs i x h)

  -- one step of a search
  pub find_next : (test : X → Bool) (xs : List X) (i : ℕ) (x : X) → slice_get xs i ≡ Some x → find test (drop i xs) ≡ cond (test x) (Some x) (find test (drop (i + 1) xs))
  find_next test xs i x h = ap (find test) (drop_next xs i x h)

  -- nothing is left past the end
  pub drop_past : (xs : List X) (i : ℕ) → slice_get xs i ≡ None → drop i xs ≡ []
  drop_past [] zero h = refl
  drop_past [] (suc i) h = refl
  drop_past (y ∷ ys) zero h = absurd (none-some y (sym h))
  drop_past (y ∷ ys) (suc i) h = drop_past ys i h
