-- What a turn over the work list does. `w` is what the whole list gives, and `count - at` turns are left.
use Rattle.std.specs.Prelude.{nat_lt, if◌then◌else◌}
use Rattle.std.proofs.lemmas.Bool.Decides.{nat_tests}
use Rattle.std.proofs.Common.{◌≡◌, ◌≢◌, true, false, ℕ, zero, suc, ◌+◌, ◌-◌, ◌<◌, ◌≤◌, List, [], ◌∷◌, ◌++◌, length, drop, get_or, Option, Some, None, Result, Ok, Err, refl, sym, ap, ◌∙◌, arith}
use Rattle.std.specs.List.{slice_get}
use Rattle.std.proofs.lemmas.List.{drop_more, drop-append-le, length-drop}
use Rattle.std.proofs.lemmas.Option.{slice_get_within, get_or_from_slice_get}
use Rattle.actx_tree.specs.declared.stmt.Stmt.{Stmt}
use Rattle.actx_tree.specs.declared.function.Nested.{Nested}
use Rattle.actx_tree.specs.declared.tree.BodyTree.{BodyTree}
use Rattle.actx_tree.specs.Bodies.{stmts_bodies}
use Rattle.actx_grammar.specs.declared.error.Cause.{Cause}
use Rattle.actx_grammar.specs.declared.error.Cause.TheVariants.{NoTree, TooNested, Memory}
use Rattle.actx_grammar.specs.declared.error.ParseError.{ParseError}
use Rattle.actx_grammar.specs.declared.error.ParseError.TheVariants as a_failure
use Rattle.actx_grammar.specs.Given.{FailsBy}
use Rattle.actx_grammar.specs.Reader.{Outcome, Read}
use Rattle.actx_grammar.specs.Tokens.{Tokens}
use Rattle.actx_program.specs.Trees.{body_tree, last}
use Rattle.actx_program.specs.TreeReader.{read_body, body_in, bodies_from, bodies, after_items, file, tree_with, program, program_in}
use Rattle.actx_parse.specs.Bodies.{items_to, HasBody}
use Rattle.actx_parse.specs.Finds.{Finds, items_of}

-- what comes after items depends on no more of them
items_then : {A : Type 0} (o : Outcome (Read (List Stmt))) (f : List Stmt → Result A Cause) (xs : List Stmt) → items_of o ≡ Ok xs → after_items o f ≡ f xs
unfolding after_items
items_then {A = A} (Ok r) f xs e = ap (λ z. after_ok z) e
  where
    after_ok : Result (List Stmt) Cause → Result A Cause
    after_ok (Ok ys) = f ys
    after_ok (Err c) = Err c
items_then (Err c) f xs e = Prim.absurd (cc)

no_items : {A : Type 0} (o : Outcome (Read (List Stmt))) (f : List Stmt → Result A Cause) (c : Cause) → items_of o ≡ Err c → after_items o f ≡ Err c
unfolding after_items
no_items (Ok r) f c e = Prim.absurd (cc)
no_items {A = A} (Err d) f c e = ap again e
  where
    again : Result (List Stmt) Cause → Result A Cause
    again (Ok ys) = Err c
    again (Err c) = Err c

-- the first of what is left of a list
pub next_is : {X : Type 0} (xs : List X) (at : ℕ) (x : X) → slice_get xs at ≡ Some x → drop at xs ≡ x ∷ drop (at + 1) xs
next_is xs at x e = drop_more xs at x (slice_get_within xs at x e) ∙ ap (λ y. y ∷ drop (at + 1) xs) (get_or_from_slice_get xs at x x e)

pub none_is : {X : Type 0} (xs : List X) (at : ℕ) → slice_get xs at ≡ None → drop at xs ≡ []
none_is [] zero e = refl
none_is [] (suc at) e = refl
none_is (x ∷ xs) zero e = Prim.absurd (cc)
none_is (x ∷ xs) (suc at) e = none_is xs at e

one_more : {X : Type 0} {x : X} (f : ℕ → X) (n at : ℕ) → at < n → x ≡ f (n - at) → x ≡ f (suc (n - (at + 1)))
one_more f n at below e = let turn : n - at ≡ suc (n - (at + 1)) = omega arith in e ∙ ap f turn

module _ (tokens : Tokens) {w : Result (List BodyTree) Cause} (count at : ℕ) (work : List Nested) (found : List BodyTree) where
  -- nothing is left on the list
  pub list_ends : w ≡ bodies_from tokens 201 (count - at) (drop at work) found → drop at work ≡ [] → w ≡ Ok found
  unfolding bodies_from
  list_ends e q = e ∙ ap (λ ns. bodies_from tokens 201 (count - at) ns found) q

  -- a body isn't read
  pub list_fails : {n : Nested} {c : Cause} → at < count → w ≡ bodies_from tokens 201 (count - at) (drop at work) found → slice_get work at ≡ Some n
      → items_of (read_body tokens 201 n) ≡ Err c → w ≡ Err c
  unfolding bodies_from
  list_fails {n = n} {c = c} below e q r =
      one_more (λ k. bodies_from tokens 201 k (drop at work) found) count at below e
      ∙ ap (λ ns. bodies_from tokens 201 (suc (count - (at + 1))) ns found) (next_is work at n q)
      ∙ no_items (read_body tokens 201 n) _ c r

  -- the same, of the answer
  pub list_stops : {n : Nested} (old new : List Nested) (e : ParseError) → at < count → w ≡ bodies_from tokens 201 (count - at) (drop at work) found → slice_get work at ≡ Some n
      → HasBody tokens n old new (Err e) → Finds w (Err e)
  list_stops old new (a_failure.NoTree place) below e q f = list_fails below e q f
  list_stops old new (a_failure.TooNested place) below e q f = list_fails below e q f
  list_stops old new a_failure.Memory below e q f = tt

  -- a body is read; those in it go to the end of the list
  pub list_goes_on : {n : Nested} {xs : List Stmt} → at < count → w ≡ bodies_from tokens 201 (count - at) (drop at work) found → slice_get work at ≡ Some n
      → items_of (read_body tokens 201 n) ≡ Ok xs
      → w ≡ bodies_from tokens 201 (count - (at + 1)) (drop (at + 1) (work ++ stmts_bodies xs n.depth)) (found ++ body_tree tokens n xs ∷ [])
  unfolding bodies_from
  list_goes_on {n = n} {xs = xs} below e q r =
      one_more (λ k. bodies_from tokens 201 k (drop at work) found) count at below e
      ∙ ap (λ ns. bodies_from tokens 201 (suc (count - (at + 1))) ns found) (next_is work at n q)
      ∙ items_then (read_body tokens 201 n) _ xs r
      ∙ ap (λ ns. bodies_from tokens 201 (count - (at + 1)) ns (found ++ body_tree tokens n xs ∷ []))
      (sym (drop-append-le (at + 1) work (stmts_bodies xs n.depth) (let l : at < length work = slice_get_within work at n q in omega (arith, l))))

  -- no turn is left, but a body is
  pub list_runs_out : count ≤ at → w ≡ bodies_from tokens 201 (count - at) (drop at work) found → at < length work → w ≡ Err NoTree
  unfolding bodies_from
  list_runs_out done e some =
      let none : count - at ≡ 0 = omega arith in
      e ∙ ap (λ k. bodies_from tokens 201 k (drop at work) found) none ∙ by (drop at work) (let l = length-drop at work in omega (arith, l))
    where
      by : (ns : List Nested) → 0 < length ns → bodies_from tokens 201 0 ns found ≡ Err NoTree
      by [] l = absurd (omega (arith, l))
      by (n ∷ ns) l = refl

-- ---- a body

-- the items of a body that isn't too deep
pub body_is : (tokens : Tokens) (n : Nested) → n.depth ≤ 201 → read_body tokens 201 n ≡ items_to (201 - n.depth) n.range.to (drop (length tokens - n.range.from) tokens)
unfolding read_body body_in items_to
body_is tokens n le = let e : nat_lt 201 n.depth ≡ false = grind (arith, nat_tests) in
    ap (λ c. (if c then Err TooNested else items_to (201 - n.depth) n.range.to (last n.range.from tokens))) e

pub body_sinks : (tokens : Tokens) (n : Nested) → 201 < n.depth → items_of (read_body tokens 201 n) ≡ Err TooNested
unfolding read_body body_in items_to after_items
body_sinks tokens n lt = let e : nat_lt 201 n.depth ≡ true = grind (arith, nat_tests) in
    ap (λ c. items_of (if c then Err TooNested else items_to (201 - n.depth) n.range.to (last n.range.from tokens))) e

pub items_ok : (o : Outcome (Read (List Stmt))) (r : Read (List Stmt)) (i : Tokens) → o ≡ Ok (r, i) → items_of o ≡ Ok r.0
unfolding after_items
items_ok o r i e = ap items_of e

pub items_err : (o : Outcome (Read (List Stmt))) (c : Cause) → o ≡ Err c → items_of o ≡ Err c
unfolding after_items
items_err o c e = ap items_of e

pub finds_by : (o : Result (List Stmt) Cause) (c : Cause) (e : ParseError) → FailsBy c e → (c ≢ Memory → o ≡ Err c) → Finds o (Err e)
finds_by o NoTree (a_failure.NoTree at) f h = h (λ q. Prim.absurd (cc))
finds_by o TooNested (a_failure.TooNested at) f h = h (λ q. Prim.absurd (cc))
finds_by o Memory a_failure.Memory f h = tt
finds_by o NoTree (a_failure.TooNested at) f h = absurd f
finds_by o NoTree a_failure.Memory f h = absurd f
finds_by o TooNested (a_failure.NoTree at) f h = absurd f
finds_by o TooNested a_failure.Memory f h = absurd f
finds_by o Memory (a_failure.NoTree at) f h = absurd f
finds_by o Memory (a_failure.TooNested at) f h = absurd f

-- ---- a file

pub program_fails : (tokens : Tokens) (e : ParseError) → Finds (items_of (file 201 tokens)) (Err e) → Finds (program tokens) (Err e)
unfolding program program_in
program_fails tokens (a_failure.NoTree at) f = no_items (file 201 tokens) _ NoTree f
program_fails tokens (a_failure.TooNested at) f = no_items (file 201 tokens) _ TooNested f
program_fails tokens a_failure.Memory f = tt

pub bodies_fail : (tokens : Tokens) (xs : List Stmt) (e : ParseError) → items_of (file 201 tokens) ≡ Ok xs → Finds (bodies tokens 201 xs) (Err e) → Finds (program tokens) (Err e)
unfolding program program_in
bodies_fail tokens xs (a_failure.NoTree at) q f = items_then (file 201 tokens) _ xs q ∙ ap (tree_with xs) f
bodies_fail tokens xs (a_failure.TooNested at) q f = items_then (file 201 tokens) _ xs q ∙ ap (tree_with xs) f
bodies_fail tokens xs a_failure.Memory q f = tt

pub program_is : (tokens : Tokens) (xs : List Stmt) (bs : List BodyTree) → items_of (file 201 tokens) ≡ Ok xs → bodies tokens 201 xs ≡ Ok bs
    → program tokens ≡ Ok (record { items = xs; bodies = bs })
unfolding program program_in
program_is tokens xs bs q f = items_then (file 201 tokens) _ xs q ∙ ap (tree_with xs) f
