-- Reading of whole files with the bodies of their functions, as a function.
use Rattle.std.specs.Prelude.{ℕ, zero, suc, ◌-◌, Bool, true, false, ◌==◌, nat_lt, if◌then◌else◌, List, [], ◌∷◌, ◌++◌, length, Result, Ok, Err}
use Rattle.actx_tree.specs.declared.stmt.Stmt.{Stmt}
use Rattle.actx_tree.specs.declared.function.Nested.{Nested}
use Rattle.actx_tree.specs.declared.tree.BodyTree.{BodyTree}
use Rattle.actx_tree.specs.declared.tree.Tree.{Tree}
use Rattle.actx_tree.specs.Bodies.{stmts_bodies}
use Rattle.actx_grammar.specs.declared.error.Cause.{Cause}
use Rattle.actx_grammar.specs.declared.error.Cause.TheVariants.{NoTree, TooNested}
use Rattle.actx_grammar.specs.declared.kind.Kind.{Kind}
use Rattle.actx_grammar.specs.declared.kind.Kind.TheVariants as kind
use Rattle.actx_grammar.specs.declared.bracket.Bracket.TheVariants as bracket
use Rattle.actx_grammar.specs.Kinds.{closes}
use Rattle.actx_grammar.specs.Tokens.{Tokens, next}
use Rattle.actx_grammar.specs.Reader.{Parser, Outcome, Read, ◌>>=◌, ◌>>◌, pure, count, expect}
use Rattle.actx_program.specs.StatementReader.{inside, items}
use Rattle.actx_program.specs.Trees.{last, body_tree}

-- ---- files

abbrev pub is_end : Kind → Bool
is_end kind.End = true
is_end _ = false

-- no token is left
unfoldable pub at_end : Parser (Unit {0})
at_end = λ i. if is_end (next i) then Ok (tt, i) else Err NoTree

-- items, none of more levels than the number
unfoldable pub items_in : ℕ → Parser (Read (List Stmt))
items_in room = items (inside room)

unfoldable pub file : ℕ → Parser (Read (List Stmt))
file room = do
  xs ← items_in room
  at_end
  pure xs

-- ---- bodies

-- so many tokens are left
unfoldable pub at_place : ℕ → Parser (Unit {0})
at_place n = λ i. if count i == n then Ok (tt, i) else Err NoTree

-- from behind the bracket that opens a body
unfoldable pub body_in : ℕ → Nested → Parser (Read (List Stmt))
body_in room n = λ i. if nat_lt room n.depth then Err TooNested else (do
  xs ← items_in (room - n.depth)
  expect (closes bracket.Curly)
  at_place n.range.to
  pure xs) i

unfoldable pub read_body : Tokens → ℕ → Nested → Outcome (Read (List Stmt))
read_body tokens room n = body_in room n (last n.range.from tokens)

unfoldable pub after_items : {A : Type 0} → Outcome (Read (List Stmt)) → (List Stmt → Result A Cause) → Result A Cause
after_items (Ok r) f = f r.0.0
after_items (Err e) f = Err e

-- The bodies of the work list, and those in them; the first number bounds the turns. Each body takes a token that is in
-- no other, so the count of tokens is enough.
unfoldable pub bodies_from : Tokens → ℕ → ℕ → List Nested → List BodyTree → Result (List BodyTree) Cause
bodies_from tokens room turns [] found = Ok found
bodies_from tokens room zero (n ∷ ns) found = Err NoTree
bodies_from tokens room (suc turns) (n ∷ ns) found = after_items (read_body tokens room n)
    (λ xs. bodies_from tokens room turns (ns ++ stmts_bodies xs n.depth) (found ++ body_tree tokens n xs ∷ []))

unfoldable pub bodies : Tokens → ℕ → List Stmt → Result (List BodyTree) Cause
bodies tokens room xs = bodies_from tokens room (length tokens) (stmts_bodies xs 0) []

abbrev pub tree_with : List Stmt → Result (List BodyTree) Cause → Result Tree Cause
tree_with xs (Ok bs) = Ok (record { items = xs; bodies = bs })
tree_with xs (Err e) = Err e

-- the tree of a file, none of its nodes with as many nodes above it as the number
unfoldable pub program_in : Tokens → ℕ → Result Tree Cause
program_in tokens room = after_items (file room tokens) (λ xs. tree_with xs (bodies tokens room xs))

-- with 200 nodes around a node at most
unfoldable pub program : Tokens → Result Tree Cause
program tokens = program_in tokens 201
