-- What the kept texts and places say of the texts by number.
use Rattle.std.proofs.Common.{not, nat_lt, ◌≤◌, ◌≡◌, ◌≢◌, ◌⊎◌, ℕ, zero, suc, ◌<◌, ◌-◌, Bool, true, false, nat_eq, List, [], ◌∷◌, length, get_or, slice_get, position, unwrap_or, Some, None, refl, sym, ap, ◌∙◌, inl, inr, arith}
use Rattle.std.proofs.lemmas.List.{length-map, get_or-map}
use Rattle.std.proofs.lemmas.Bool.{ltb-true, ltb-false}
use Rattle.std.proofs.lemmas.Bool.Decides.{eqb_tells}
use Rattle.std.proofs.lemmas.Map.Keys.{apart_from_distinct}
use Rattle.std.proofs.lemmas.Option.{slice_get_cases, slice_get-map, get_or_from_slice_get, slice_get-get_or, unwrap_or-slice_get}
use Rattle.std.specs.Cmp.Lexicographic.{pointwise, nat_list_eq_equiv}
use Rattle.std.specs.List.{IsDistinct, prefix_len}
use Rattle.std.specs.Option.{option_map}
use Rattle.actx_value.specs.Texts.{texts_eq, text_at, number_of, least_number, HasOneEmptyText}
use Rattle.actx_value.specs.TextIndex.{texts_in, IsIndexed}
use Rattle.actx_value.proofs.Positions.{position-at, position-skip, position-none}

less_or_more : (p q : ℕ) → p ≢ q → (p < q) ⊎ (q < p)
less_or_more p q far = by (nat_lt p q) refl
  where
    by : (b : Bool) → nat_lt p q ≡ b → (p < q) ⊎ (q < p)
    by true e = inl (ltb-true p q e)
    by false e = let m : q ≤ p = ltb-false p q e in inr (omega arith)

-- a text that isn't empty is not told equal to the empty one
pub not_empty : (text : List ℕ) → text ≢ [] → texts_eq text [] ≡ false
not_empty [] far = absurd (far refl)
not_empty (u ∷ us) far = refl

-- the empty text has number 0
pub number_empty : (texts : List (List ℕ)) → number_of ([] ∷ texts) [] ≡ Some 0
number_empty texts = position-at (texts_eq []) ([] ∷ texts) 0 [] (omega arith) refl (λ k less. absurd (omega arith))

module _ (keys : List (List ℕ)) (distinct : IsDistinct (pointwise nat_eq) keys) where
  -- two places hold equal texts exactly where they are one
  same_place : (p q : ℕ) → p < length keys → q < length keys → texts_eq (get_or keys p []) (get_or keys q []) ≡ nat_eq p q
  same_place p q hp hq = elim (eqb_tells p q) [
    | inl w ↦ ap (λ i. texts_eq (get_or keys p []) (get_or keys i [])) (sym w.1) ∙ nat_list_eq_equiv.refl (get_or keys p []) ∙ sym w.0
    | inr w ↦ elim (less_or_more p q w.1) [
      | inl less ↦ apart_from_distinct (pointwise nat_eq) keys p q [] distinct less hq ∙ sym w.0
      | inr more ↦ nat_list_eq_equiv.symm (get_or keys p []) (get_or keys q []) ∙ apart_from_distinct (pointwise nat_eq) keys q p [] distinct more hp ∙ sym w.0
    ]
  ]

  prefix_is : (d : ℕ) → d < length keys → (places : List ℕ) → ((t p : ℕ) → slice_get places t ≡ Some p → p < length keys)
      → prefix_len (λ k. not (texts_eq (get_or keys d []) k)) (texts_in keys places) ≡ prefix_len (λ p. not (nat_eq d p)) places
  prefix_is d hd [] within = refl
  prefix_is d hd (p ∷ ps) within = rw (same_place d p hd (within 0 p refl), prefix_is d hd ps (λ t q h. within (suc t) q h)) refl

  -- the first equal text is the first at its place
  position_is : (d : ℕ) → d < length keys → (places : List ℕ) → ((t p : ℕ) → slice_get places t ≡ Some p → p < length keys) → position (texts_eq (get_or keys d [])) (texts_in keys places) ≡ position (nat_eq d) places
  position_is d hd places within = rw (prefix_is d hd places within, length-map) refl

  -- the least number of a text that is kept
  pub number_at : {empty : List ℕ} {places firsts : List ℕ} {total limit : ℕ} → IsIndexed empty keys places firsts total limit
      → (d : ℕ) → d < length keys → number_of (empty ∷ texts_in keys places) (get_or keys d []) ≡ slice_get firsts d
  number_at {empty} {places} {firsts} indexed d hd =
      let far : texts_eq (get_or keys d []) empty ≡ false = rw indexed.is_empty (not_empty (get_or keys d []) (indexed.filled d hd)) in
      position-skip (texts_eq (get_or keys d [])) empty (texts_in keys places) far
      ∙ ap (option_map suc) (position_is d hd places indexed.within) ∙ sym (indexed.first d hd)

  -- a text that isn't kept has no number
  pub number_none : {empty : List ℕ} {places firsts : List ℕ} {total limit : ℕ} → IsIndexed empty keys places firsts total limit
      → (text : List ℕ) → text ≢ [] → ((k : ℕ) → k < length keys → texts_eq text (get_or keys k []) ≡ false)
      → number_of (empty ∷ texts_in keys places) text ≡ None
  number_none {empty} {places} indexed text far none =
      let apart : texts_eq text empty ≡ false = rw indexed.is_empty (not_empty text far) in
      position-skip (texts_eq text) empty (texts_in keys places) apart
      ∙ ap (option_map suc) (position-none (texts_eq text) (texts_in keys places) [] (λ k less.
      let there : k < length places = rw length-map at less in
      rw (get_or-map (λ p. get_or keys p []) places k 0 [] there) (none (get_or places k 0) (indexed.within k (get_or places k 0) (slice_get-get_or places k 0 there)))))

module _ {empty : List ℕ} {keys : List (List ℕ)} {places firsts : List ℕ} {total limit : ℕ} (indexed : IsIndexed empty keys places firsts total limit) where
  -- the text of a number that is there
  pub text_there : (t p : ℕ) → t ≢ 0 → slice_get places (t - 1) ≡ Some p → slice_get (empty ∷ texts_in keys places) t ≡ Some (get_or keys p [])
  text_there zero p far at = absurd (far refl)
  text_there (suc n) p far at =
      let same : suc n - 1 ≡ n = omega arith in
      let here : slice_get places n ≡ Some p = rw same at at in
      slice_get-map (λ q. get_or keys q []) places n ∙ ap (option_map (λ q. get_or keys q [])) here

  -- a number that isn't there
  pub text_past : (t : ℕ) → t ≢ 0 → slice_get places (t - 1) ≡ None → slice_get (empty ∷ texts_in keys places) t ≡ None
  text_past zero far at = absurd (far refl)
  text_past (suc n) far at =
      let same : suc n - 1 ≡ n = omega arith in
      let here : slice_get places n ≡ None = rw same at at in
      slice_get-map (λ q. get_or keys q []) places n ∙ ap (option_map (λ q. get_or keys q [])) here

  -- number 0 is the empty text, and no other is
  pub one_empty : HasOneEmptyText (empty ∷ texts_in keys places)
  one_empty = record { first = ap Some indexed.is_empty; others = others }
    where
      others : (t : ℕ) → slice_get (empty ∷ texts_in keys places) t ≡ Some [] → t ≡ 0
      others zero h = refl
      others (suc n) h =
          let at : option_map (λ q. get_or keys q []) (slice_get places n) ≡ Some [] = sym (slice_get-map (λ q. get_or keys q []) places n) ∙ h in
          elim (slice_get_cases places n).1 [
            | inl w ↦
                let text : Some (get_or keys w.0 []) ≡ Some [] = ap (option_map (λ q. get_or keys q [])) (sym w.2) ∙ at in
                absurd (indexed.filled w.0 (indexed.within n w.0 w.2) (cc))
            | inr w ↦ let none : None ≡ Some [] = ap (option_map (λ q. get_or keys q [])) (sym w.1) ∙ at in cc
          ]

  -- the least number of a text that is there
  pub least_there : (distinct : IsDistinct (pointwise nat_eq) keys) (t p first : ℕ) → t ≢ 0 → slice_get places (t - 1) ≡ Some p → slice_get firsts p ≡ Some first → least_number (empty ∷ texts_in keys places) t ≡ first
  least_there distinct t p first far at is =
      let text : text_at (empty ∷ texts_in keys places) t ≡ get_or keys p [] = get_or_from_slice_get (empty ∷ texts_in keys places) t (get_or keys p []) [] (text_there t p far at) in
      ap (λ w. unwrap_or (number_of (empty ∷ texts_in keys places) w) 0) text
      ∙ ap (λ o. unwrap_or o 0) (number_at keys distinct indexed p (indexed.within (t - 1) p at) ∙ is)

  -- a number that isn't there counts as 0
  pub least_past : (t : ℕ) → t ≢ 0 → slice_get places (t - 1) ≡ None → least_number (empty ∷ texts_in keys places) t ≡ 0
  least_past t far at =
      let past : text_at (empty ∷ texts_in keys places) t ≡ [] =
      sym (unwrap_or-slice_get (empty ∷ texts_in keys places) t []) ∙ ap (λ o. unwrap_or o []) (text_past t far at) in
      ap (λ w. unwrap_or (number_of (empty ∷ texts_in keys places) w) 0) past
      ∙ rw indexed.is_empty (ap (λ o. unwrap_or o 0) (number_empty (texts_in keys places)))
