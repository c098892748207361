-- Ranges of a list: n elements from a place on.
use Rattle.std.proofs.Common.{◌≡◌, ℕ, ◌<◌, ◌≤◌, ◌+◌, List, ◌++◌, length, set, take, drop, slice_get, Some, None, sym, ap, ◌∙◌, arith, length-drop}
use Rattle.std.proofs.lemmas.List.{get_or-take, get_or-drop, length-take-le, take-append-le, drop-append-le, drop-set-lt, drop-set-add, take-set-le, take_all}
use Rattle.std.proofs.lemmas.Option.{slice_get_past, slice_get-get_or}
use Rattle.std.proofs.Math.Seq.{take-set-lt, drop-length}

module _ {X : Type 0} (xs : List X) where
  -- a range that is there has its length
  pub length-range : (from n : ℕ) → from + n ≤ length xs → length (take n (drop from xs)) ≡ n
  length-range from n within = length-take-le n (drop from xs) (omega (arith, length-drop from xs))

  -- an element of a range
  pub range_get : (from n i : ℕ) (d : X) → from + n ≤ length xs → i < n → slice_get (take n (drop from xs)) i ≡ slice_get xs (from + i)
  range_get from n i d within less =
      slice_get-get_or (take n (drop from xs)) i d (omega (arith, length-range from n within))
      ∙ ap Some (get_or-take n (drop from xs) i d less ∙ get_or-drop from xs i d)
      ∙ sym (slice_get-get_or xs (from + i) d (omega arith))

  -- past a range
  pub range_past : (from n i : ℕ) → from + n ≤ length xs → n ≤ i → slice_get (take n (drop from xs)) i ≡ None
  range_past from n i within past = slice_get_past (take n (drop from xs)) i (omega (arith, length-range from n within))

  -- a range stays where elements are added
  pub range_append : (more : List X) (from n : ℕ) → from + n ≤ length xs → take n (drop from (xs ++ more)) ≡ take n (drop from xs)
  range_append more from n within =
      ap (take n) (drop-append-le from xs more (omega arith)) ∙ take-append-le n (drop from xs) more (omega (arith, length-drop from xs))

  -- the range of what is added
  pub range_added : (more : List X) (n : ℕ) → length more ≡ n → take n (drop (length xs) (xs ++ more)) ≡ more
  range_added more n long =
      ap (take n) (drop-append-le (length xs) xs more (omega arith) ∙ ap (λ front. front ++ more) (drop-length xs))
      ∙ take_all n more (omega (arith, long))

  -- a write before a range, behind it and in it
  pub range_set_before : (from n i : ℕ) (y : X) → i < from → take n (drop from (set xs i y)) ≡ take n (drop from xs)
  range_set_before from n i y less = ap (take n) (drop-set-lt from xs i y less)

  pub range_set_behind : (from n i : ℕ) (y : X) → n ≤ i → take n (drop from (set xs (from + i) y)) ≡ take n (drop from xs)
  range_set_behind from n i y past = ap (take n) (drop-set-add from xs i y) ∙ take-set-le n (drop from xs) i y past

  pub range_set_in : (from n i : ℕ) (y : X) → i < n → take n (drop from (set xs (from + i) y)) ≡ set (take n (drop from xs)) i y
  range_set_in from n i y less = ap (take n) (drop-set-add from xs i y) ∙ take-set-lt n (drop from xs) i y less
