-- The first number from one on that passes a test.
use Rattle.std.proofs.Common.{◌≡◌, ◌≢◌, ℕ, zero, suc, ◌<◌, ◌≤◌, ◌+◌, Bool, true, false, cond, Option, Some, None, refl, sym, subst, ap, ◌∙◌, inl, inr, arith}
use Rattle.std.proofs.lemmas.Bool.Decides.{eqb_tells}
use Rattle.std.specs.List.{find, range_with_len}

pub record IsFirstIn (p : ℕ → Bool) (a n i : ℕ) : Type 0 where
  pub low : a ≤ i
  pub high : i < a + n
  pub here : p i ≡ true
  pub before : (j : ℕ) → a ≤ j → j < i → p j ≡ false

-- what is found is the first one
pub found_some : (p : ℕ → Bool) (n a i : ℕ) → find p (range_with_len a n) ≡ Some i → IsFirstIn p a n i
found_some p zero a i e = let none : None ≡ Some i = e in cc
found_some p (suc n) a i e = by (p a) refl (found_some p n (a + 1) i)
  where
    by : (b : Bool) → p a ≡ b → (find p (range_with_len (a + 1) n) ≡ Some i → IsFirstIn p (a + 1) n i) → IsFirstIn p a (suc n) i
    by true h later =
        let some : Some a ≡ Some i = sym (ap (λ b. cond b (Some a) (find p (range_with_len (a + 1) n))) h) ∙ e in
        let same : a ≡ i = cc in
        record { low = omega arith; high = omega arith; here = subst (λ k. p k ≡ true) same h; before = λ j at below. absurd (omega arith) }
    by false h later =
        let is : IsFirstIn p (a + 1) n i = later (sym (ap (λ b. cond b (Some a) (find p (range_with_len (a + 1) n))) h) ∙ e) in
        record {
          low = omega (arith, is.low);
          high = omega (arith, is.high);
          here = is.here;
          before = λ j at below. elim (eqb_tells j a) [
            | inl w ↦ ap p w.1 ∙ h
            | inr w ↦ is.before j (omega (arith, w.1)) below
          ];
        }

-- where none is found, none passes
pub found_none : (p : ℕ → Bool) (n a : ℕ) → find p (range_with_len a n) ≡ None → (j : ℕ) → a ≤ j → j < a + n → p j ≡ false
found_none p zero a e j low high = absurd (omega arith)
found_none p (suc n) a e j low high = by (p a) refl (found_none p n (a + 1))
  where
    by : (b : Bool) → p a ≡ b → (find p (range_with_len (a + 1) n) ≡ None → (j : ℕ) → a + 1 ≤ j → j < a + 1 + n → p j ≡ false) → p j ≡ false
    by true h later =
        let none : Some a ≡ None = sym (ap (λ b. cond b (Some a) (find p (range_with_len (a + 1) n))) h) ∙ e in
        cc
    by false h later = elim (eqb_tells j a) [
      | inl w ↦ ap p w.1 ∙ h
      | inr w ↦ later (sym (ap (λ b. cond b (Some a) (find p (range_with_len (a + 1) n))) h) ∙ e) j (omega (arith, w.1)) (omega arith)
    ]

-- the first one is found
pub some_found : (p : ℕ → Bool) (n a i : ℕ) → IsFirstIn p a n i → find p (range_with_len a n) ≡ Some i
some_found p n a i is = by (find p (range_with_len a n)) refl
  where
    by : (o : Option ℕ) → find p (range_with_len a n) ≡ o → find p (range_with_len a n) ≡ Some i
    by None e = let bad : p i ≡ false = found_none p n a e i is.low is.high in let good : p i ≡ true = is.here in cc
    by (Some k) e =
        let first : IsFirstIn p a n k = found_some p n a k e in
        let not_below : k < i → ⊥ = λ less. let bad : p k ≡ false = is.before k first.low less in let good : p k ≡ true = first.here in cc in
        let not_above : i < k → ⊥ = λ less. let bad : p i ≡ false = first.before i is.low less in let good : p i ≡ true = is.here in cc in
        let same : k ≡ i = elim (eqb_tells k i) [
          | inl w ↦ w.1
          | inr w ↦ absurd (omega (arith, not_below, not_above, w.1))
        ] in
        e ∙ ap Some same

-- where none passes, none is found
pub none_found : (p : ℕ → Bool) (n a : ℕ) → ((j : ℕ) → a ≤ j → j < a + n → p j ≡ false) → find p (range_with_len a n) ≡ None
none_found p n a never = by (find p (range_with_len a n)) refl
  where
    by : (o : Option ℕ) → find p (range_with_len a n) ≡ o → find p (range_with_len a n) ≡ None
    by None e = e
    by (Some k) e =
        let first : IsFirstIn p a n k = found_some p n a k e in
        let bad : p k ≡ false = never k first.low first.high in
        let good : p k ≡ true = first.here in
        cc
