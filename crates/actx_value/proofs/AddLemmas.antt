-- What is kept after a text is added.
use Rattle.std.proofs.Common.{not, ◌≤◌, ◌≡◌, ◌≢◌, ◌⊎◌, ℕ, zero, suc, ◌<◌, ◌+◌, Bool, true, false, cond, nat_eq, List, [], ◌∷◌, ◌++◌, length, get_or, slice_get, position, Option, Some, None, refl, sym, subst, ap, ◌∙◌, inl, inr, arith, length-append}
use Rattle.std.proofs.lemmas.Bool.{true≢false}
use Rattle.std.proofs.lemmas.Bool.Decides.{eqb_tells}
use Rattle.std.proofs.lemmas.List.{map-append, get_or_append_left, get_or_push}
use Rattle.std.proofs.lemmas.List.Folds.{list_any_at}
use Rattle.std.proofs.lemmas.List.Sums.{sum_by-append}
use Rattle.std.proofs.lemmas.Option.{none-some, same_Some, slice_get_within, slice_get-get_or, get_or_from_slice_get}
use Rattle.std.specs.Cmp.Lexicographic.{bytes_decides}
use Rattle.std.specs.List.{list_any, sum_by}
use Rattle.std.specs.Option.{option_map}
use Rattle.actx_value.specs.Texts.{texts_eq, with_text}
use Rattle.actx_value.specs.TextIndex.{texts_in, IsIndexed}
use Rattle.actx_value.proofs.Positions.{position-push-found, position-push-new}

-- an element of a list with one more at the end
push_read : {X : Type 0} (xs : List X) (y : X) (t : ℕ) (p : X) → slice_get (xs ++ y ∷ []) t ≡ Some p → (slice_get xs t ≡ Some p) ⊎ (y ≡ p)
push_read [] y zero p h = inr (same_Some y p h)
push_read [] y (suc t) p h = absurd (none-some p h)
push_read (x ∷ xs) y zero p h = inl h
push_read (x ∷ xs) y (suc t) p h = push_read xs y t p h

push_before : {X : Type 0} (xs : List X) (y : X) (t : ℕ) → t < length xs → slice_get (xs ++ y ∷ []) t ≡ slice_get xs t
push_before [] y t h = absurd (omega arith)
push_before (x ∷ xs) y zero h = refl
push_before (x ∷ xs) y (suc t) h = push_before xs y t (omega arith)

push_last : {X : Type 0} (xs : List X) (y : X) → slice_get (xs ++ y ∷ []) (length xs) ≡ Some y
push_last [] y = refl
push_last (x ∷ xs) y = push_last xs y

-- the texts of places stay where further texts are kept
texts_in_more : (keys extra : List (List ℕ)) (places : List ℕ) → ((t p : ℕ) → slice_get places t ≡ Some p → p < length keys) → texts_in (keys ++ extra) places ≡ texts_in keys places
texts_in_more keys extra [] within = refl
texts_in_more keys extra (p ∷ ps) within =
    let less : p < length keys = within 0 p refl in
    rw (get_or_append_left keys extra [] p less, texts_in_more keys extra ps (λ t q h. within (suc t) q h)) refl

-- what is kept after a text is added, and that the texts are one more
pub record IsAdded (empty : List ℕ) (old_keys keys : List (List ℕ)) (old_places : List ℕ) (q : ℕ) (firsts : List ℕ) (text : List ℕ) (total limit : ℕ) : Type 0 where
  pub index : IsIndexed empty keys (old_places ++ q ∷ []) firsts total limit
  pub texts : texts_in keys (old_places ++ q ∷ []) ≡ texts_in old_keys old_places ++ text ∷ []

module _ {empty : List ℕ} {keys : List (List ℕ)} {places firsts : List ℕ} {total limit : ℕ} (indexed : IsIndexed empty keys places firsts total limit)
    (text : List ℕ) (q : ℕ) (filled : 0 < length text) (room : total + length text ≤ limit) where
  -- the least numbers stay
  first_stays : (p : ℕ) → p < length keys → slice_get firsts p ≡ option_map suc (position (nat_eq p) (places ++ q ∷ []))
  first_stays p hp = by (position (nat_eq p) places) refl
    where
      there : slice_get firsts p ≡ Some (get_or firsts p 0)
      there = slice_get-get_or firsts p 0 (omega (arith, indexed.as_long))

      by : (o : Option ℕ) → position (nat_eq p) places ≡ o → slice_get firsts p ≡ option_map suc (position (nat_eq p) (places ++ q ∷ []))
      by None e = absurd (none-some (get_or firsts p 0) (sym (indexed.first p hp ∙ ap (option_map suc) e) ∙ there))
      by (Some k) e = indexed.first p hp ∙ ap (option_map suc) (e ∙ sym (position-push-found (nat_eq p) places q k e))

  -- the units of the texts, one more
  counted_more : (more : List (List ℕ)) → texts_in more (places ++ q ∷ []) ≡ texts_in keys places ++ text ∷ [] → total + length text ≡ sum_by length (texts_in more (places ++ q ∷ []))
  counted_more more e = rw (e, sum_by-append length (texts_in keys places) (text ∷ []), indexed.counted) (omega arith)

  -- the text stood already
  known : slice_get keys q ≡ Some text → IsAdded empty keys keys places q firsts text (total + length text) limit
  known at = record {
    index = record {
      is_empty = indexed.is_empty;
      within = λ t p h. elim (push_read places q t p h) [ inl was ↦ indexed.within t p was | inr same ↦ subst (λ n. n < length keys) same (slice_get_within keys q text at) ];
      filled = indexed.filled;
      as_long = indexed.as_long;
      first = first_stays;
      counted = counted_more keys texts;
      roomy = room;
      small = indexed.small;
      fewer = omega (arith, length-append places (q ∷ []), indexed.fewer);
      many = omega (arith, length-append places (q ∷ []), indexed.many);
    };
    texts = texts;
  }
    where
      texts : texts_in keys (places ++ q ∷ []) ≡ texts_in keys places ++ text ∷ []
      texts = map-append (λ p. get_or keys p []) places (q ∷ []) ∙ ap (λ w. texts_in keys places ++ w ∷ []) (get_or_from_slice_get keys q text [] at)

  -- the text is new
  new : q ≡ length keys → IsAdded empty keys (keys ++ text ∷ []) places q (firsts ++ suc (length places) ∷ []) text (total + length text) limit
  new last = record {
    index = record {
      is_empty = indexed.is_empty;
      within = λ t p h. elim (push_read places q t p h) [
        | inl was ↦ omega (arith, indexed.within t p was, length-append keys (text ∷ []))
        | inr same ↦ omega (arith, same, last, length-append keys (text ∷ []))
      ];
      filled = filled_more;
      as_long = omega (arith, length-append firsts (suc (length places) ∷ []), length-append keys (text ∷ []), indexed.as_long);
      first = first_more;
      counted = counted_more (keys ++ text ∷ []) texts;
      roomy = room;
      small = indexed.small;
      fewer = omega (arith, length-append places (q ∷ []), length-append keys (text ∷ []), indexed.fewer);
      many = omega (arith, length-append places (q ∷ []), indexed.many);
    };
    texts = texts;
  }
    where
      texts : texts_in (keys ++ text ∷ []) (places ++ q ∷ []) ≡ texts_in keys places ++ text ∷ []
      texts = map-append (λ p. get_or (keys ++ text ∷ []) p []) places (q ∷ [])
          ∙ ap (λ ts. ts ++ get_or (keys ++ text ∷ []) q [] ∷ []) (texts_in_more keys (text ∷ []) places indexed.within)
          ∙ ap (λ w. texts_in keys places ++ w ∷ []) (get_or_push keys text [] q (sym last))

      far : text ≢ []
      far e = let none : length text ≡ 0 = ap length e in absurd (omega arith)

      filled_more : (p : ℕ) → p < length (keys ++ text ∷ []) → get_or (keys ++ text ∷ []) p [] ≢ []
      filled_more p h = elim (eqb_tells p (length keys)) [
        | inl w ↦ rw (get_or_push keys text [] p (sym w.1)) far
        | inr w ↦ let less : p < length keys = omega (arith, length-append keys (text ∷ []), w.1) in rw (get_or_append_left keys (text ∷ []) [] p less) (indexed.filled p less)
      ]

      apart : (p : ℕ) → p ≡ length keys → (k : ℕ) → k < length places → nat_eq p (get_or places k q) ≡ false
      apart p e k less = elim (eqb_tells p (get_or places k q)) [
        | inl w ↦ absurd (omega (arith, w.1, e, indexed.within k (get_or places k q) (slice_get-get_or places k q less)))
        | inr w ↦ w.0
      ]

      itself : (p : ℕ) → p ≡ length keys → nat_eq p q ≡ true
      itself p e = elim (eqb_tells p q) [ inl w ↦ w.0 | inr w ↦ absurd (w.1 (e ∙ sym last)) ]

      first_more : (p : ℕ) → p < length (keys ++ text ∷ []) → slice_get (firsts ++ suc (length places) ∷ []) p ≡ option_map suc (position (nat_eq p) (places ++ q ∷ []))
      first_more p h = elim (eqb_tells p (length keys)) [
        | inl w ↦
            let here : p ≡ length firsts = omega (arith, w.1, indexed.as_long) in
            ap (slice_get (firsts ++ suc (length places) ∷ [])) here ∙ push_last firsts (suc (length places))
            ∙ sym (ap (option_map suc) (position-push-new (nat_eq p) places q (apart p w.1) (itself p w.1)))
        | inr w ↦
            let less : p < length keys = omega (arith, length-append keys (text ∷ []), w.1) in
            push_before firsts (suc (length places)) p (omega (arith, indexed.as_long)) ∙ first_stays p less
      ]

  -- the text's place is the last, since no text before it is the same
  last_place : list_any (texts_eq text) keys ≡ false → slice_get (keys ++ text ∷ []) q ≡ Some text → q ≡ length keys
  last_place none at = elim (eqb_tells q (length keys)) [
    | inl w ↦ w.1
    | inr w ↦
        let within : q < length (keys ++ text ∷ []) = slice_get_within (keys ++ text ∷ []) q text at in
        let less : q < length keys = omega (arith, length-append keys (text ∷ []), w.1, within) in
        let here : get_or keys q [] ≡ text = get_or_from_slice_get keys q text [] (sym (push_before keys text q less) ∙ at) in
        let same : texts_eq text (get_or keys q []) ≡ true = (bytes_decides text (get_or keys q [])).1 (sym here) in
        absurd (true≢false (sym (list_any_at (texts_eq text) keys q [] less same) ∙ none))
  ]

  pub added_is : (more : List (List ℕ)) (added : Bool) → added ≡ not (list_any (texts_eq text) keys) → more ≡ cond (list_any (texts_eq text) keys) keys (keys ++ text ∷ []) → slice_get more q ≡ Some text
      → IsAdded empty keys more places q (cond added (firsts ++ suc (length places) ∷ []) firsts) text (total + length text) limit
  added_is more added e1 e2 at = by (list_any (texts_eq text) keys) refl
    where
      by : (b : Bool) → list_any (texts_eq text) keys ≡ b → IsAdded empty keys more places q (cond added (firsts ++ suc (length places) ∷ []) firsts) text (total + length text) limit
      by true e =
          let keys_are : more ≡ keys = e2 ∙ ap (λ b. cond b keys (keys ++ text ∷ [])) e in
          let old : added ≡ false = e1 ∙ ap not e in
          rw (keys_are, old) (known (sym (ap (λ ks. slice_get ks q) keys_are) ∙ at))
      by false e =
          let keys_are : more ≡ keys ++ text ∷ [] = e2 ∙ ap (λ b. cond b keys (keys ++ text ∷ [])) e in
          let fresh : added ≡ true = e1 ∙ ap not e in
          rw (keys_are, fresh) (new (last_place e (sym (ap (λ ks. slice_get ks q) keys_are) ∙ at)))

pub with_text_filled : (texts : List (List ℕ)) (text : List ℕ) → 0 < length text → with_text texts text ≡ texts ++ text ∷ []
with_text_filled texts [] filled = absurd (omega arith)
with_text_filled texts (u ∷ us) filled = refl
