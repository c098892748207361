-- What a turn of the members of a class does. `w` is what all of them give, and `n - at` turns are left of n.
use Rattle.std.proofs.Common.{◌≡◌, ◌∙◌, ℕ, suc, max, ◌+◌, ◌-◌, ◌<◌, ◌≤◌, true, false, List, [], ◌∷◌, ◌++◌, Ok, Err, refl}
use Rattle.actx_tree.specs.declared.function.Member.{Member}
use Rattle.actx_grammar.specs.declared.error.Cause.{Cause}
use Rattle.actx_grammar.specs.declared.error.Cause.TheVariants.{NoTree}
use Rattle.actx_grammar.specs.declared.bracket.Bracket.TheVariants as bracket
use Rattle.actx_grammar.specs.Kinds.{closes, is_semicolon}
use Rattle.actx_grammar.specs.Tokens.{Tokens, next, behind}
use Rattle.actx_grammar.specs.Reader.{Outcome, Read, Inner, and_then}
use Rattle.actx_grammar.specs.Patterns.{member, members_from}
use Rattle.actx_pattern.proofs.Turns.{one_more, no_more}

module _ (inner : Inner) {w : Outcome (Read (List Member))} (n at : ℕ) (xs : List Member) (h : ℕ) (i : Tokens) where
  -- the bracket comes next
  pub members_end : at < n → w ≡ members_from inner (n - at) xs h i → closes bracket.Curly (next i) ≡ true → w ≡ Ok ((xs, h), i)
  unfolding members_from
  members_end below e q =
      let turn : members_from inner (suc (n - (at + 1))) xs h i ≡ Ok ((xs, h), i) = rw q refl in
      one_more (λ k. members_from inner k xs h i) n at below e ∙ turn

  -- `;` comes next
  pub members_pass : at < n → w ≡ members_from inner (n - at) xs h i → closes bracket.Curly (next i) ≡ false → is_semicolon (next i) ≡ true
      → w ≡ members_from inner (n - (at + 1)) xs h (behind i)
  unfolding members_from
  members_pass below e q r =
      let turn : members_from inner (suc (n - (at + 1))) xs h i ≡ members_from inner (n - (at + 1)) xs h (behind i) = rw (q, r) refl in
      one_more (λ k. members_from inner k xs h i) n at below e ∙ turn

  -- the member is not read
  pub members_fail : {cause : Cause} → at < n → w ≡ members_from inner (n - at) xs h i → closes bracket.Curly (next i) ≡ false → is_semicolon (next i) ≡ false
      → member inner i ≡ Err cause → w ≡ Err cause
  unfolding members_from and_then
  members_fail {cause = cause} below e q r s =
      let turn : members_from inner (suc (n - (at + 1))) xs h i ≡ Err cause = rw (q, r, s) refl in
      one_more (λ k. members_from inner k xs h i) n at below e ∙ turn

  -- the member is read
  pub members_go_on : {x : Read Member} {b : Tokens} → at < n → w ≡ members_from inner (n - at) xs h i → closes bracket.Curly (next i) ≡ false
      → is_semicolon (next i) ≡ false → member inner i ≡ Ok (x, b) → w ≡ members_from inner (n - (at + 1)) (xs ++ x.0 ∷ []) (max h x.1) b
  unfolding members_from and_then
  members_go_on {x = x} {b = b} below e q r s =
      let turn : members_from inner (suc (n - (at + 1))) xs h i ≡ members_from inner (n - (at + 1)) (xs ++ x.0 ∷ []) (max h x.1) b = rw (q, r, s) refl in
      one_more (λ k. members_from inner k xs h i) n at below e ∙ turn

  -- no turn is left
  pub members_run_out : n ≤ at → w ≡ members_from inner (n - at) xs h i → w ≡ Err NoTree
  unfolding members_from
  members_run_out done e = no_more (λ k. members_from inner k xs h i) n at done e
