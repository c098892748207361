-- Files and the bodies of their functions (ECMA-262 §15.2.1, §16.1).
use Rattle.std.specs.Prelude.{◌≡◌, ℕ, ◌+◌, ◌-◌, max, List, [], ◌∷◌, ◌++◌, length, drop}
use Rattle.actx_lex.specs.declared.token.Token.{Token}
use Rattle.actx_lex.specs.declared.token.Punct.TheVariants as p
use Rattle.actx_tree.specs.declared.stmt.Stmt.{Stmt}
use Rattle.actx_tree.specs.declared.function.Nested.{Nested}
use Rattle.actx_tree.specs.declared.tree.BodyTree.{BodyTree}
use Rattle.actx_tree.specs.declared.tree.Tree.{Tree}
use Rattle.actx_tree.specs.Bodies.{stmts_bodies}
use Rattle.actx_grammar.specs.declared.kind.Kind.TheVariants as kind
use Rattle.actx_grammar.specs.Tokens.{Tokens, Is}
use Rattle.actx_program.specs.Statements.{SpItems}

-- File = Item*, up to the end of the tokens; h levels of nodes
pub data SpFile : List Stmt → ℕ → Tokens → Type 0 where
  file : {xs : List Stmt} {h : ℕ} {a : Tokens} → SpItems xs h a [] → SpFile xs h a

-- the last n tokens
abbrev pub last : ℕ → Tokens → Tokens
last n tokens = drop (length tokens - n) tokens

-- A body that was passed over: its items stand behind the bracket that opens it, and end at the bracket that closes it.
-- The items have h levels of nodes.
pub data SpBody (tokens : Tokens) : Nested → List Stmt → ℕ → Type 0 where
  body : {n : Nested} {u : Token} {xs : List Stmt} {h : ℕ} {b : Tokens} → SpItems xs h (last n.range.from tokens) (u ∷ b) → Is (kind.Sign p.CloseBrace) u
      → length b ≡ n.range.to → SpBody tokens n xs h

-- the tree of a body; its place is counted from the start of the file
abbrev pub body_tree : Tokens → Nested → List Stmt → BodyTree
body_tree tokens n xs = record { from = length tokens - n.range.from; items = xs }

-- The bodies that were passed over, then those in the first of them, and so on, one tree for each. The deepest node has
-- h nodes above it, itself counted.
pub data SpBodies (tokens : Tokens) : List Nested → List BodyTree → ℕ → Type 0 where
  bodies-none : SpBodies tokens [] [] 0
  bodies-more : {n : Nested} {ns : List Nested} {xs : List Stmt} {bs : List BodyTree} {h i : ℕ} → SpBody tokens n xs h
      → SpBodies tokens (ns ++ stmts_bodies xs n.depth) bs i → SpBodies tokens (n ∷ ns) (body_tree tokens n xs ∷ bs) (max (n.depth + h) i)

-- the tree of a file, with h levels of nodes in it and its bodies
pub data SpTree (tokens : Tokens) : Tree → ℕ → Type 0 where
  tree : {xs : List Stmt} {bs : List BodyTree} {h i : ℕ} → SpFile xs h tokens → SpBodies tokens (stmts_bodies xs 0) bs i
      → SpTree tokens (record { items = xs; bodies = bs }) (max h i)
