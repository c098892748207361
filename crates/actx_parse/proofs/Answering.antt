-- The clauses of `program`, from what the definition finds.
use Rattle.std.proofs.Common.{◌≡◌, ℕ, ◌+◌, ◌*◌, ◌<◌, ◌≤◌, Bool, true, false, length, Result, Ok, Err, IfOk, refl, sym, ap, subst, ◌∙◌, arith}
use Rattle.std.specs.Prelude.{nat_le, if◌then◌else◌}
use Rattle.std.proofs.lemmas.Bool.Decides.{nat_tests}
use Rattle.actx_tree.specs.declared.tree.Tree.{Tree}
use Rattle.actx_tree.specs.Sizes.{tree_size}
use Rattle.actx_grammar.specs.declared.error.Cause.{Cause}
use Rattle.actx_grammar.specs.declared.error.Cause.TheVariants as cause
use Rattle.actx_grammar.specs.declared.error.ParseError.{ParseError}
use Rattle.actx_grammar.specs.declared.error.ParseError.TheVariants.{NoTree, TooNested, Memory}
use Rattle.actx_grammar.specs.Tokens.{Tokens}
use Rattle.actx_grammar.specs.Given.{OnNoTree, OnTooNested}
use Rattle.actx_program.specs.Trees.{SpTree}
use Rattle.actx_program.specs.TreeReader.{program}
use Rattle.actx_program.proofs.TreeLaws.{small_programs, few_levels, gives_spelled, spells_given, spells_none, spells_deep}
use Rattle.actx_parse.specs.Finds.{Finds, GivesTree, settled}

module _ (tokens : Tokens) where
  spelled : (r : Result Tree ParseError) → Finds (program tokens) r → IfOk r (λ t. (h : ℕ) × SpTree tokens t h × (h ≤ 201))
  spelled (Ok t) e = spells_given tokens t e
  spelled (Err e) f = tt

  small : (r : Result Tree ParseError) → Finds (program tokens) r → IfOk r (λ t. tree_size t ≤ 16 * length tokens + 16)
  small (Ok t) e = let p = spells_given tokens t e in let l = small_programs tokens t p.0 p.1 in omega (arith, l)
  small (Err e) f = tt

  given : (r : Result Tree ParseError) → Finds (program tokens) r → (t : Tree) (h : ℕ) → SpTree tokens t h → h ≤ 201 → GivesTree t r
  given (Ok s) e t h d l = let q = gives_spelled tokens t h d l in ap (λ z. value_or s z) (sym e ∙ q)
    where
      value_or : Tree → Result Tree Cause → Tree
      value_or d (Ok v) = v
      value_or d (Err c) = d
  given (Err Memory) e t h d l = tt
  given (Err (NoTree at)) e t h d l = let q = gives_spelled tokens t h d l in Prim.absurd (cc)
  given (Err (TooNested at)) e t h d l = let q = gives_spelled tokens t h d l in Prim.absurd (cc)

  no_tree : (r : Result Tree ParseError) → Finds (program tokens) r → OnNoTree r ((t : Tree) (h : ℕ) → SpTree tokens t h → ⊥)
  no_tree (Ok t) e = tt
  no_tree (Err Memory) e = tt
  no_tree (Err (NoTree at)) e = spells_none tokens e
  no_tree (Err (TooNested at)) e = tt

  too_nested : (r : Result Tree ParseError) → Finds (program tokens) r → OnTooNested r ((t : Tree) (h : ℕ) → SpTree tokens t h → 201 < h)
  too_nested (Ok t) e = tt
  too_nested (Err Memory) e = tt
  too_nested (Err (NoTree at)) e = tt
  too_nested (Err (TooNested at)) e = spells_deep tokens e

  -- ---- the same of the answer that is settled

  -- a file of few tokens has no tree that is too deep
  none_so_deep : program tokens ≡ Err cause.TooNested → length tokens ≤ 100 → (t : Tree) (h : ℕ) → SpTree tokens t h → ⊥
  none_so_deep e l t h d = let deep = spells_deep tokens e t h d in let few = few_levels tokens t h d in omega (arith, deep, few, l)

  -- what the answer to TooNested has, whichever of the two it is
  by_count : (at : ℕ) (P : Result Tree ParseError → Type 0) → (length tokens ≤ 100 → P (Err (NoTree at))) → (100 < length tokens → P (Err (TooNested at)))
      → P (settled (length tokens) (Err (TooNested at)))
  by_count at P few many = go (nat_le (length tokens) 100) refl
    where
      go : (c : Bool) → nat_le (length tokens) 100 ≡ c → P (if nat_le (length tokens) 100 then Err (NoTree at) else Err (TooNested at))
      go true e = subst (λ d. P (if d then Err (NoTree at) else Err (TooNested at))) (sym e) (few (grind (arith, nat_tests)))
      go false e = subst (λ d. P (if d then Err (NoTree at) else Err (TooNested at))) (sym e) (many (grind (arith, nat_tests)))

  pub settled_spelled : (r : Result Tree ParseError) → Finds (program tokens) r → IfOk (settled (length tokens) r) (λ t. (h : ℕ) × SpTree tokens t h × (h ≤ 201))
  settled_spelled (Ok t) e = spelled (Ok t) e
  settled_spelled (Err Memory) e = tt
  settled_spelled (Err (NoTree at)) e = tt
  settled_spelled (Err (TooNested at)) e = by_count at (λ r. IfOk r (λ t. (h : ℕ) × SpTree tokens t h × (h ≤ 201))) (λ _. tt) (λ _. tt)

  pub settled_small : (r : Result Tree ParseError) → Finds (program tokens) r → IfOk (settled (length tokens) r) (λ t. tree_size t ≤ 16 * length tokens + 16)
  settled_small (Ok t) e = small (Ok t) e
  settled_small (Err Memory) e = tt
  settled_small (Err (NoTree at)) e = tt
  settled_small (Err (TooNested at)) e = by_count at (λ r. IfOk r (λ t. tree_size t ≤ 16 * length tokens + 16)) (λ _. tt) (λ _. tt)

  pub settled_given : (r : Result Tree ParseError) → Finds (program tokens) r → (t : Tree) (h : ℕ) → SpTree tokens t h → h ≤ 201 → GivesTree t (settled (length tokens) r)
  settled_given (Ok s) e t h d l = given (Ok s) e t h d l
  settled_given (Err Memory) e t h d l = tt
  settled_given (Err (NoTree at)) e t h d l = given (Err (NoTree at)) e t h d l
  settled_given (Err (TooNested at)) e t h d l = by_count at (GivesTree t) (λ _. given (Err (TooNested at)) e t h d l) (λ _. given (Err (TooNested at)) e t h d l)

  pub settled_no_tree : (r : Result Tree ParseError) → Finds (program tokens) r → OnNoTree (settled (length tokens) r) ((t : Tree) (h : ℕ) → SpTree tokens t h → ⊥)
  settled_no_tree (Ok t) e = tt
  settled_no_tree (Err Memory) e = tt
  settled_no_tree (Err (NoTree at)) e = no_tree (Err (NoTree at)) e
  settled_no_tree (Err (TooNested at)) e = by_count at (λ r. OnNoTree r ((t : Tree) (h : ℕ) → SpTree tokens t h → ⊥)) (λ l. none_so_deep e l) (λ _. tt)

  pub settled_too_nested : (r : Result Tree ParseError) → Finds (program tokens) r → OnTooNested (settled (length tokens) r) ((t : Tree) (h : ℕ) → SpTree tokens t h → 201 < h)
  settled_too_nested (Ok t) e = tt
  settled_too_nested (Err Memory) e = tt
  settled_too_nested (Err (NoTree at)) e = tt
  settled_too_nested (Err (TooNested at)) e = by_count at (λ r. OnTooNested r ((t : Tree) (h : ℕ) → SpTree tokens t h → 201 < h)) (λ _. tt) (λ _. too_nested (Err (TooNested at)) e)

  pub settled_long : (r : Result Tree ParseError) → Finds (program tokens) r → OnTooNested (settled (length tokens) r) (100 < length tokens)
  settled_long (Ok t) e = tt
  settled_long (Err Memory) e = tt
  settled_long (Err (NoTree at)) e = tt
  settled_long (Err (TooNested at)) e = by_count at (λ r. OnTooNested r (100 < length tokens)) (λ _. tt) (λ l. l)
