-- A sorted list is the definition's ascending one.
use Rattle.std.proofs.Common.{◌≡◌, ℕ, suc, ◌<◌, ◌≤◌, slice_index_or, cond, Bool, true, false, nat_le, nat_lt, not, ◌&&◌, ◌==◌, true≢false, List, [], ◌∷◌, drop, length, refl, sym, ap, ◌∙◌, arith}
use Rattle.std.proofs.lemmas.Bool.Decides.{nat_tests}
use Rattle.std.specs.List.{filter}
use Rattle.std.specs.List.Sorted.{IsNonDecreasingBy, IsSorted, IsStable, ties}
use Rattle.std.specs.Ordering.{nat_cmp, is_lt}
use Rattle.std.specs.declared.cmp.Ordering.TheVariants.{Less, Equal, Greater}
use Rattle.std.proofs.lemmas.List.Sorted.{IsNonDecreasingBy-from_sort}
use Rattle.actx_objects.specs.Properties.{with_index, ascending}

abbrev pub AtLeast : ℕ → List ℕ → Type 0
AtLeast y [] = Unit {0}
AtLeast y (z ∷ zs) = (y ≤ z) × AtLeast y zs

abbrev pub Ascends : List ℕ → Type 0
Ascends [] = Unit {0}
Ascends (y ∷ ys) = AtLeast y ys × Ascends ys

-- a list that does not fall ascends
at_least : (y : ℕ) (ys : List ℕ) → ((j d : ℕ) → j < length ys → y ≤ slice_index_or ys j d) → AtLeast y ys
at_least y [] h = tt
at_least y (z ∷ zs) h = (h 0 0 (omega arith), at_least y zs (λ j d less. h (suc j) d (omega arith)))

pub ascends : (ys : List ℕ) → IsNonDecreasingBy (λ x. x) ys → Ascends ys
ascends [] h = tt
ascends (y ∷ ys) h = (at_least y ys (λ j d less. h 0 (suc j) d (omega arith) (omega arith)), ascends ys (λ i j d before less. h (suc i) (suc j) d (omega arith) (omega arith)))

weaker : (i j : ℕ) (js : List ℕ) → i ≤ j → AtLeast j js → AtLeast i js
weaker i j [] less h = tt
weaker i j (k ∷ ks) less h = let first : j ≤ k = h.0 in (omega arith, weaker i j ks less h.1)

at_least_with : (y i : ℕ) (js : List ℕ) → y ≤ i → AtLeast y js → AtLeast y (with_index i js)
at_least_with y i [] less h = (less, tt)
at_least_with y i (j ∷ js) less h = by (nat_le i j) (at_least_with y i js less h.1)
  where
    by : (b : Bool) → AtLeast y (with_index i js) → AtLeast y (cond b (i ∷ j ∷ js) (j ∷ with_index i js))
    by true more = (less, (h.0, h.1))
    by false more = (h.0, more)

ascends_with : (i : ℕ) (js : List ℕ) → Ascends js → Ascends (with_index i js)
ascends_with i [] h = (tt, tt)
ascends_with i (j ∷ js) h = by (nat_le i j) refl (ascends_with i js h.1)
  where
    by : (b : Bool) → nat_le i j ≡ b → Ascends (with_index i js) → Ascends (cond b (i ∷ j ∷ js) (j ∷ with_index i js))
    by true e more = let less : i ≤ j = grind (arith, nat_tests) in ((less, weaker i j js less h.0), h)
    by false e more = let less : j ≤ i = grind (arith, nat_tests) in (at_least_with j i js less h.0, more)

pub ascends_ascending : (is : List ℕ) → Ascends (ascending is)
ascends_ascending [] = tt
ascends_ascending (i ∷ is) = ascends_with i (ascending is) (ascends_ascending is)

module _ (tie : ℕ → ℕ → Bool) (self : (x : ℕ) → tie x x ≡ true) (only : (x y : ℕ) → tie x y ≡ true → x ≡ y) where
  -- the elements that tie with x stay
  filter_with : (x i : ℕ) (js : List ℕ) → filter (tie x) (with_index i js) ≡ filter (tie x) (i ∷ js)
  filter_with x i [] = refl
  filter_with x i (j ∷ js) = by (nat_le i j) (tie x i) (tie x j) refl refl (filter_with x i js)
    where
      by : (b ti tj : Bool) → tie x i ≡ ti → tie x j ≡ tj → filter (tie x) (with_index i js) ≡ cond (tie x i) (i ∷ filter (tie x) js) (filter (tie x) js)
          → filter (tie x) (cond b (i ∷ j ∷ js) (j ∷ with_index i js)) ≡ cond (tie x i) (i ∷ cond (tie x j) (j ∷ filter (tie x) js) (filter (tie x) js)) (cond (tie x j) (j ∷ filter (tie x) js) (filter (tie x) js))
      by true ti tj ei ej more = refl
      by false true true ei ej more =
          let same : j ≡ i = sym (only x j ej) ∙ only x i ei in
          rw (more, ei, ej) (ap (λ k. k ∷ i ∷ filter (tie x) js) same ∙ ap (λ k. i ∷ k ∷ filter (tie x) js) (sym same))
      by false true false ei ej more = rw (more, ei, ej) refl
      by false false true ei ej more = rw (more, ei, ej) refl
      by false false false ei ej more = rw (more, ei, ej) refl

  filter_ascending : (x : ℕ) (is : List ℕ) → filter (tie x) (ascending is) ≡ filter (tie x) is
  filter_ascending x [] = refl
  filter_ascending x (i ∷ is) = filter_with x i (ascending is) ∙ ap (λ f. cond (tie x i) (i ∷ f) f) (filter_ascending x is)

  -- what is found among elements of at least y is at least y
  found : (z y : ℕ) (ys : List ℕ) → AtLeast y ys → 0 < length (filter (tie z) ys) → y ≤ z
  found z y [] h some = absurd (omega arith)
  found z y (w ∷ ws) h some = by (tie z w) refl some (found z y ws h.1)
    where
      by : (b : Bool) → tie z w ≡ b → 0 < length (cond b (w ∷ filter (tie z) ws) (filter (tie z) ws)) → (0 < length (filter (tie z) ws) → y ≤ z) → y ≤ z
      by true e some more = let same : z ≡ w = only z w e in let first : y ≤ w = h.0 in omega arith
      by false e some more = more some

  -- an element is found in a list that begins with it
  begins : (z : ℕ) (zs : List ℕ) → 0 < length (filter (tie z) (z ∷ zs))
  begins z zs = let e : length (filter (tie z) (z ∷ zs)) ≡ suc (length (filter (tie z) zs)) = ap (λ b. length (cond b (z ∷ filter (tie z) zs) (filter (tie z) zs))) (self z) in omega arith

  -- two lists that ascend and have the same elements are one
  unique : (ys zs : List ℕ) → Ascends ys → Ascends zs → ((x : ℕ) → filter (tie x) ys ≡ filter (tie x) zs) → ys ≡ zs
  unique [] [] a b h = refl
  unique [] (z ∷ zs) a b h = let some : 0 < length (filter (tie z) (z ∷ zs)) = begins z zs in let none : 0 ≡ length (filter (tie z) (z ∷ zs)) = ap length (h z) in absurd (omega arith)
  unique (y ∷ ys) [] a b h = let some : 0 < length (filter (tie y) (y ∷ ys)) = begins y ys in let none : length (filter (tie y) (y ∷ ys)) ≡ 0 = ap length (h y) in absurd (omega arith)
  unique (y ∷ ys) (z ∷ zs) a b h =
      let down : y ≤ z = found z y (y ∷ ys) (omega arith, a.0) (rw (h z) (begins z zs)) in
      let up : z ≤ y = found y z (z ∷ zs) (omega arith, b.0) (rw (← h y) (begins y ys)) in
      let same : y ≡ z = omega arith in
      let tails : (x : ℕ) → filter (tie x) ys ≡ filter (tie x) zs =
      λ x. tail_of (tie x y) (filter (tie x) ys) (filter (tie x) zs) (h x ∙ ap (λ w. cond (tie x w) (z ∷ filter (tie x) zs) (filter (tie x) zs)) (sym same)) in
      ap (λ w. w ∷ ys) same ∙ ap (λ l. z ∷ l) (unique ys zs a.1 b.1 tails)
    where
      tail_of : (b : Bool) (f g : List ℕ) → cond b (y ∷ f) f ≡ cond b (z ∷ g) g → f ≡ g
      tail_of true f g e = ap (drop 1) e
      tail_of false f g e = e

  pub sorted_is : (xs ys : List ℕ) → IsNonDecreasingBy (λ x. x) ys → ((x : ℕ) → filter (tie x) ys ≡ filter (tie x) xs) → ys ≡ ascending xs
  sorted_is xs ys rises same = unique ys (ascending xs) (ascends ys rises) (ascends_ascending xs) (λ x. same x ∙ sym (filter_ascending x xs))

-- numbers that tie in the order of numbers are one
lt_is : (x y : ℕ) → is_lt (nat_cmp x y) ≡ nat_lt x y
lt_is x y = by (nat_lt x y) (x == y)
  where
    by : (a b : Bool) → is_lt (cond a Less (cond b Equal Greater)) ≡ a
    by true b = refl
    by false true = refl
    by false false = refl

tie_self : (x : ℕ) → ties (λ a b. is_lt (nat_cmp a b)) x x ≡ true
tie_self x = let e : is_lt (nat_cmp x x) ≡ false = lt_is x x ∙ grind (arith, nat_tests) in rw e refl

tie_only : (x y : ℕ) → ties (λ a b. is_lt (nat_cmp a b)) x y ≡ true → x ≡ y
tie_only x y h = by (nat_lt x y) (nat_lt y x) refl refl (rw (← lt_is x y, ← lt_is y x) h)
  where
    by : (a b : Bool) → nat_lt x y ≡ a → nat_lt y x ≡ b → (not a && not b) ≡ true → x ≡ y
    by true b e f h = absurd (true≢false (sym h))
    by false true e f h = absurd (true≢false (sym h))
    by false false e f h = grind (arith, nat_tests)

-- what a stable sort gives
pub sorted_ascends : (xs ys : List ℕ) → IsSorted nat_cmp ys → IsStable nat_cmp xs ys → ys ≡ ascending xs
sorted_ascends xs ys rises same = sorted_is (ties (λ a b. is_lt (nat_cmp a b))) tie_self tie_only xs ys (IsNonDecreasingBy-from_sort (λ x. x) ys rises) same
