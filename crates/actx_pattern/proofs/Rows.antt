-- What a turn of a list does. `w` is what the whole list gives, and `n - at` turns are left of n. What the member and
-- the tokens behind it give are outcomes, as a loop in code has them.
use Rattle.std.proofs.Common.{◌≡◌, ◌∙◌, ℕ, suc, max, ◌+◌, ◌-◌, ◌<◌, ◌≤◌, Bool, true, false, if◌then◌else◌, List, [], ◌∷◌, ◌++◌, Ok, Err, refl}
use Rattle.actx_grammar.specs.declared.error.Cause.{Cause}
use Rattle.actx_grammar.specs.declared.error.Cause.TheVariants.{NoTree}
use Rattle.actx_grammar.specs.declared.kind.Kind.{Kind}
use Rattle.actx_grammar.specs.declared.bracket.Bracket.{Bracket}
use Rattle.actx_grammar.specs.Kinds.{closes, is_comma}
use Rattle.actx_grammar.specs.Tokens.{Tokens, next, behind}
use Rattle.actx_grammar.specs.Reader.{Outcome, Parser, Read, and_then, row_from, row_after, many_from}
use Rattle.actx_pattern.specs.Lists.{list_goes_on}
use Rattle.actx_pattern.proofs.Turns.{one_more, no_more}

after_by : {A : Type 0} (again : Parser A) (found : A) (comma close : Bool) (m : Tokens)
    → (if comma then again (behind m) else (if close then Ok (found, m) else Err NoTree))
    ≡ and_then (if comma then Ok (true, behind m) else (if close then Ok (false, m) else Err NoTree)) (λ more b. if more then again b else Ok (found, b))
unfolding and_then
after_by again found true close m = refl
after_by again found false true m = refl
after_by again found false false m = refl

after_is : {A : Type 0} (c : Bracket) (again : Parser A) (found : A) (m : Tokens)
    → row_after c again found m ≡ and_then (list_goes_on c m) (λ more b. if more then again b else Ok (found, b))
unfolding list_goes_on
after_is c again found m = after_by again found (is_comma (next m)) (closes c (next m)) m

module _ {X : Type 0} (c : Bracket) (ends : Kind → Bool) (item : Parser (Read X)) {w : Outcome (Read (List X))} (n at : ℕ) (xs : List X) (h : ℕ) (i : Tokens) where
  -- the list ends before another member
  pub row_ends : at < n → w ≡ row_from c ends item (n - at) xs h i → ends (next i) ≡ true → w ≡ Ok ((xs, h), i)
  unfolding row_from
  row_ends below e q =
      let turn : row_from c ends item (suc (n - (at + 1))) xs h i ≡ Ok ((xs, h), i) = rw q refl in
      one_more (λ k. row_from c ends item k xs h i) n at below e ∙ turn

  -- the member is not read
  pub row_fails : {cause : Cause} → at < n → w ≡ row_from c ends item (n - at) xs h i → ends (next i) ≡ false → item i ≡ Err cause → w ≡ Err cause
  unfolding row_from and_then
  row_fails {cause = cause} below e q r =
      let turn : row_from c ends item (suc (n - (at + 1))) xs h i ≡ Err cause = rw (q, r) refl in
      one_more (λ k. row_from c ends item k xs h i) n at below e ∙ turn

  module _ {x : Read X} {m : Tokens} where
    -- neither a comma nor the bracket stands behind the member
    pub row_stops : {cause : Cause} → at < n → w ≡ row_from c ends item (n - at) xs h i → ends (next i) ≡ false → item i ≡ Ok (x, m)
        → list_goes_on c m ≡ Err cause → w ≡ Err cause
    unfolding row_from and_then
    row_stops {cause = cause} below e q r s =
        let turn : row_from c ends item (suc (n - (at + 1))) xs h i ≡ Err cause =
        rw (q, r, after_is c (row_from c ends item (n - (at + 1)) (xs ++ x.0 ∷ []) (max h x.1)) (xs ++ x.0 ∷ [], max h x.1) m, s) refl in
        one_more (λ k. row_from c ends item k xs h i) n at below e ∙ turn

    -- the bracket stands behind the member
    pub row_last : {b : Tokens} → at < n → w ≡ row_from c ends item (n - at) xs h i → ends (next i) ≡ false → item i ≡ Ok (x, m)
        → list_goes_on c m ≡ Ok (false, b) → w ≡ Ok ((xs ++ x.0 ∷ [], max h x.1), b)
    unfolding row_from and_then
    row_last {b = b} below e q r s =
        let turn : row_from c ends item (suc (n - (at + 1))) xs h i ≡ Ok ((xs ++ x.0 ∷ [], max h x.1), b) =
        rw (q, r, after_is c (row_from c ends item (n - (at + 1)) (xs ++ x.0 ∷ []) (max h x.1)) (xs ++ x.0 ∷ [], max h x.1) m, s) refl in
        one_more (λ k. row_from c ends item k xs h i) n at below e ∙ turn

    -- a comma stands behind the member
    pub row_goes_on : {b : Tokens} → at < n → w ≡ row_from c ends item (n - at) xs h i → ends (next i) ≡ false → item i ≡ Ok (x, m)
        → list_goes_on c m ≡ Ok (true, b) → w ≡ row_from c ends item (n - (at + 1)) (xs ++ x.0 ∷ []) (max h x.1) b
    unfolding row_from and_then
    row_goes_on {b = b} below e q r s =
        let turn : row_from c ends item (suc (n - (at + 1))) xs h i ≡ row_from c ends item (n - (at + 1)) (xs ++ x.0 ∷ []) (max h x.1) b =
        rw (q, r, after_is c (row_from c ends item (n - (at + 1)) (xs ++ x.0 ∷ []) (max h x.1)) (xs ++ x.0 ∷ [], max h x.1) m, s) refl in
        one_more (λ k. row_from c ends item k xs h i) n at below e ∙ turn

  -- no turn is left
  pub row_runs_out : n ≤ at → w ≡ row_from c ends item (n - at) xs h i → w ≡ Err NoTree
  unfolding row_from
  row_runs_out done e = no_more (λ k. row_from c ends item k xs h i) n at done e

module _ {X : Type 0} (go : Tokens → Bool) (item : Parser (Read X)) {w : Outcome (Read (List X))} (n at : ℕ) (xs : List X) (h : ℕ) (i : Tokens) where
  -- the list goes on no further
  pub many_ends : at < n → w ≡ many_from go item (n - at) xs h i → go i ≡ false → w ≡ Ok ((xs, h), i)
  unfolding many_from
  many_ends below e q =
      let turn : many_from go item (suc (n - (at + 1))) xs h i ≡ Ok ((xs, h), i) = rw q refl in
      one_more (λ k. many_from go item k xs h i) n at below e ∙ turn

  -- the member is not read
  pub many_fails : {cause : Cause} → at < n → w ≡ many_from go item (n - at) xs h i → go i ≡ true → item i ≡ Err cause → w ≡ Err cause
  unfolding many_from and_then
  many_fails {cause = cause} below e q r =
      let turn : many_from go item (suc (n - (at + 1))) xs h i ≡ Err cause = rw (q, r) refl in
      one_more (λ k. many_from go item k xs h i) n at below e ∙ turn

  -- the member is read
  pub many_goes_on : {x : Read X} {b : Tokens} → at < n → w ≡ many_from go item (n - at) xs h i → go i ≡ true → item i ≡ Ok (x, b)
      → w ≡ many_from go item (n - (at + 1)) (xs ++ x.0 ∷ []) (max h x.1) b
  unfolding many_from and_then
  many_goes_on {x = x} {b = b} below e q r =
      let turn : many_from go item (suc (n - (at + 1))) xs h i ≡ many_from go item (n - (at + 1)) (xs ++ x.0 ∷ []) (max h x.1) b = rw (q, r) refl in
      one_more (λ k. many_from go item k xs h i) n at below e ∙ turn

  -- no turn is left
  pub many_runs_out : n ≤ at → w ≡ many_from go item (n - at) xs h i → w ≡ Ok ((xs, h), i)
  unfolding many_from
  many_runs_out done e = no_more (λ k. many_from go item k xs h i) n at done e
