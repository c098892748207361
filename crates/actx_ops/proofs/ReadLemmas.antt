-- A text spells exactly the safe integer whose text it is.
use Rattle.std.proofs.Common.{◌≡◌, ◌↔◌, ℕ, zero, suc, ◌<◌, true, cond, ℤ, pos, negsuc, List, [], ◌∷◌, Option, Some, None, option_map, option_and_then, refl, sym, subst, ap, ◌∙◌, inl, inr, arith}
use Rattle.std.proofs.lemmas.Bool.{leb-true, le-leb, ltb-true, lt-ltb}
use Rattle.std.proofs.lemmas.Bool.Decides.{eqb_tells}
use Rattle.std.specs.Fmt.{decimal, signed_decimal}
use Rattle.actx_ops.specs.Numbers.{is_safe, greatest_safe}
use Rattle.actx_ops.specs.Texts.{natural_in, number_in, negative}
use Rattle.actx_ops.proofs.DecimalLemmas.{IsTextOf, natural_is, natural_some, not_empty, digits_alone}

read_below : (u : ℕ) (us : List ℕ) (z : ℤ) → u ≡ 45 → option_and_then negative (natural_in us) ≡ Some z → (u ∷ us ≡ signed_decimal z) × (is_safe z ≡ true)
read_below u us z minus h = by (natural_in us) refl
  where
    by : (o : Option ℕ) → natural_in us ≡ o → (u ∷ us ≡ signed_decimal z) × (is_safe z ≡ true)
    by None e = let none : None ≡ Some z = sym (ap (option_and_then negative) e) ∙ h in cc
    by (Some zero) e = let none : None ≡ Some z = sym (ap (option_and_then negative) e) ∙ h in cc
    by (Some (suc n)) e =
        let some : Some (negsuc n) ≡ Some z = sym (ap (option_and_then negative) e) ∙ h in
        let same : negsuc n ≡ z = cc in
        let is : IsTextOf us (suc n) = natural_is us (suc n) e in
        let less : n < greatest_safe = omega (arith, is.safe) in
        subst (λ y. (u ∷ us ≡ signed_decimal y) × (is_safe y ≡ true)) same
        ((λ i. minus i ∷ is.text i), lt-ltb n greatest_safe less)

read_natural : (text : List ℕ) (z : ℤ) → option_map pos (natural_in text) ≡ Some z → (text ≡ signed_decimal z) × (is_safe z ≡ true)
read_natural text z h = by (natural_in text) refl
  where
    by : (o : Option ℕ) → natural_in text ≡ o → (text ≡ signed_decimal z) × (is_safe z ≡ true)
    by None e = let none : None ≡ Some z = sym (ap (option_map pos) e) ∙ h in cc
    by (Some n) e =
        let some : Some (pos n) ≡ Some z = sym (ap (option_map pos) e) ∙ h in
        let same : pos n ≡ z = cc in
        let is : IsTextOf text n = natural_is text n e in
        subst (λ y. (text ≡ signed_decimal y) × (is_safe y ≡ true)) same (is.text, le-leb n greatest_safe is.safe)

read : (text : List ℕ) (z : ℤ) → number_in text ≡ Some z → (text ≡ signed_decimal z) × (is_safe z ≡ true)
read [] z h = let none : None ≡ Some z = h in cc
read (u ∷ us) z h = elim (eqb_tells u 45) [
  | inl w ↦ read_below u us z w.1 (sym (ap (λ b. cond b (option_and_then negative (natural_in us)) (option_map pos (natural_in (u ∷ us)))) w.0) ∙ h)
  | inr w ↦ read_natural (u ∷ us) z (sym (ap (λ b. cond b (option_and_then negative (natural_in us)) (option_map pos (natural_in (u ∷ us)))) w.0) ∙ h)
]

-- the text of a number is read, where it has no minus
written_natural : (text : List ℕ) (n : ℕ) → IsTextOf text n → number_in text ≡ Some (pos n)
written_natural [] n is = absurd (omega (arith, not_empty [] n is))
written_natural (u ∷ us) n is =
    let first = digits_alone (u ∷ us) n is 0 (omega arith) in
    elim (eqb_tells u 45) [
      | inl w ↦ absurd (omega (arith, w.1, first))
      | inr w ↦ ap (λ b. cond b (option_and_then negative (natural_in us)) (option_map pos (natural_in (u ∷ us)))) w.0 ∙ ap (option_map pos) (natural_some (u ∷ us) n is)
    ]

written : (text : List ℕ) (z : ℤ) → text ≡ signed_decimal z → is_safe z ≡ true → number_in text ≡ Some z
written text (pos n) e safe = written_natural text n (record { text = e; safe = leb-true n greatest_safe safe })
written text (negsuc n) e safe =
    let less : n < greatest_safe = ltb-true n greatest_safe safe in
    let is : IsTextOf (decimal (suc n)) (suc n) = record { text = refl; safe = omega arith } in
    ap number_in e ∙ ap (option_and_then negative) (natural_some (decimal (suc n)) (suc n) is)

pub texts_are_read : (text : List ℕ) (z : ℤ) → (number_in text ≡ Some z) ↔ ((text ≡ signed_decimal z) × (is_safe z ≡ true))
texts_are_read text z = (read text z, λ h. written text z h.0 h.1)
