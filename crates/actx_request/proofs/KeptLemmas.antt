-- Units that are kept.
use Rattle.std.proofs.Common.{◌≡◌, ℕ, ◌+◌, ◌<◌, Bool, true, false, cond, List, [], ◌∷◌, ◌++◌, length, take, get_or, add-one, refl, sym, ap, ◌∙◌, arith}
use Rattle.std.proofs.Math.Seq.{take-suc}
use Rattle.std.proofs.lemmas.List.{length-take-le}
use Rattle.std.specs.List.{filter, enumerate_from}

module _ (f : ℕ × ℕ → Bool) where
  filter-push : (es : List (ℕ × ℕ)) (e : ℕ × ℕ) → filter f (es ++ e ∷ []) ≡ filter f es ++ cond (f e) (e ∷ []) []
  filter-push [] e = by (f e)
    where
      by : (b : Bool) → cond b (e ∷ []) [] ≡ cond b (e ∷ []) []
      by b = refl
  filter-push (d ∷ es) e = by (f d) (filter-push es e)
    where
      by : (b : Bool) → filter f (es ++ e ∷ []) ≡ filter f es ++ cond (f e) (e ∷ []) [] → cond b (d ∷ filter f (es ++ e ∷ [])) (filter f (es ++ e ∷ [])) ≡ cond b (d ∷ filter f es) (filter f es) ++ cond (f e) (e ∷ []) []
      by true h = ap (λ (xs : List (ℕ × ℕ)). d ∷ xs) h
      by false h = h

  enumerate-push : (n m : ℕ) (us : List ℕ) (u : ℕ) → m ≡ n + length us → enumerate_from n (us ++ u ∷ []) ≡ enumerate_from n us ++ (m, u) ∷ []
  enumerate-push n m [] u h = ap (λ (k : ℕ). (k, u) ∷ []) (let e : n ≡ m = omega arith in e)
  enumerate-push n m (v ∷ us) u h = ap (λ (xs : List (ℕ × ℕ)). (n, v) ∷ xs) (enumerate-push (n + 1) m us u (omega arith))

  -- one unit more
  pub kept_step : (text : List ℕ) (i : ℕ) → i < length text → filter f (enumerate_from 0 (take i text)) ++ cond (f (i, get_or text i 0)) ((i, get_or text i 0) ∷ []) [] ≡ filter f (enumerate_from 0 (take (i + 1) text))
  kept_step text i less =
      let more : take (i + 1) text ≡ take i text ++ get_or text i 0 ∷ [] = rw add-one (take-suc text i 0 less) in
      let long : length (take i text) ≡ i = length-take-le i text (omega arith) in
      sym (ap (λ (us : List ℕ). filter f (enumerate_from 0 us)) more
      ∙ ap (filter f) (enumerate-push 0 i (take i text) (get_or text i 0) (omega arith))
      ∙ filter-push (enumerate_from 0 (take i text)) (i, get_or text i 0))
