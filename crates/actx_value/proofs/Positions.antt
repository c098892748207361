-- The first place that passes a test, in a list with one more element at either end.
use Rattle.std.proofs.Common.{nat_lt, ◌≤◌, ◌≡◌, ℕ, suc, ◌<◌, ◌+◌, Bool, true, false, cond, List, [], ◌∷◌, ◌++◌, length, get_or, position, Some, None, refl, sym, ap, ◌∙◌, arith, length-append}
use Rattle.std.proofs.lemmas.Bool.{ltb-true, ltb-false, lt-ltb, le-ltb}
use Rattle.std.proofs.lemmas.List.{get_or_append_left, get_or_push}
use Rattle.std.proofs.lemmas.List.Sums.{position_or_len_is, fails_before_first}
use Rattle.std.proofs.lemmas.List.Quantifiers.{position-Some}
use Rattle.std.specs.List.{position_or_len}
use Rattle.std.specs.Option.{option_map}

module _ {X : Type 0} (p : X → Bool) where
  -- the first element that passes stands at i
  pub position-at : (xs : List X) (i : ℕ) (d : X) → i < length xs → p (get_or xs i d) ≡ true → ((k : ℕ) → k < i → p (get_or xs k d) ≡ false) → position p xs ≡ Some i
  position-at xs i d within here before =
      let is : position_or_len p xs ≡ i = position_or_len_is p xs i d (omega arith) before (λ _. here) in
      rw is (ap (λ b. cond b (Some i) None) (lt-ltb i (length xs) within))

  -- no element passes
  pub position-none : (xs : List X) (d : X) → ((k : ℕ) → k < length xs → p (get_or xs k d) ≡ false) → position p xs ≡ None
  position-none xs d none =
      let is : position_or_len p xs ≡ length xs = position_or_len_is p xs (length xs) d (omega arith) none (λ less. absurd (omega arith)) in
      rw is (ap (λ b. cond b (Some (length xs)) None) (le-ltb (length xs) (length xs) (omega arith)))

  -- where no place is given, each element fails
  pub position-missed : (xs : List X) (k : ℕ) (d : X) → position p xs ≡ None → k < length xs → p (get_or xs k d) ≡ false
  position-missed xs k d none less = by (nat_lt (position_or_len p xs) (length xs)) refl
    where
      by : (b : Bool) → nat_lt (position_or_len p xs) (length xs) ≡ b → p (get_or xs k d) ≡ false
      by true e = let found : Some (position_or_len p xs) ≡ None = ap (λ b. cond b (Some (position_or_len p xs)) None) (sym e) ∙ none in cc
      by false e = let past : length xs ≤ position_or_len p xs = ltb-false _ _ e in fails_before_first p xs k d (omega arith)

  -- an element at the front that fails
  pub position-skip : (x : X) (xs : List X) → p x ≡ false → position p (x ∷ xs) ≡ option_map suc (position p xs)
  position-skip x xs fails = rw fails (by (nat_lt (position_or_len p xs) (length xs)) refl)
    where
      by : (b : Bool) → nat_lt (position_or_len p xs) (length xs) ≡ b
          → cond (nat_lt (1 + position_or_len p xs) (length (x ∷ xs))) (Some (1 + position_or_len p xs)) None ≡ option_map suc (cond (nat_lt (position_or_len p xs) (length xs)) (Some (position_or_len p xs)) None)
      by true e =
          let less : position_or_len p xs < length xs = ltb-true _ _ e in
          let more : nat_lt (1 + position_or_len p xs) (length (x ∷ xs)) ≡ true = lt-ltb _ _ (omega arith) in
          rw (e, more) (ap Some (omega arith))
      by false e =
          let past : length xs ≤ position_or_len p xs = ltb-false _ _ e in
          let more : nat_lt (1 + position_or_len p xs) (length (x ∷ xs)) ≡ false = le-ltb _ _ (omega arith) in
          rw (e, more) refl

  -- what is found is found where one more element follows
  pub position-push-found : (xs : List X) (y : X) (i : ℕ) → position p xs ≡ Some i → position p (xs ++ y ∷ []) ≡ Some i
  position-push-found xs y i found =
      let s = position-Some p xs i y found in
      let within : i < length xs = s.0 in
      position-at (xs ++ y ∷ []) i y (omega (arith, length-append xs (y ∷ [])))
      (rw (get_or_append_left xs (y ∷ []) y i within) s.1)
      (λ k less. let there : k < length xs = omega arith in rw (get_or_append_left xs (y ∷ []) y k there) (s.2 k less))

  -- the one more element is the first that passes
  pub position-push-new : (xs : List X) (y : X) → ((k : ℕ) → k < length xs → p (get_or xs k y) ≡ false) → p y ≡ true → position p (xs ++ y ∷ []) ≡ Some (length xs)
  position-push-new xs y before here =
      position-at (xs ++ y ∷ []) (length xs) y (omega (arith, length-append xs (y ∷ [])))
      (rw (get_or_push xs y y (length xs) refl) here)
      (λ k less. rw (get_or_append_left xs (y ∷ []) y k less) (before k less))
