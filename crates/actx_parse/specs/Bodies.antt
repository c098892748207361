-- Bodies of functions, as code has them: up to the closing bracket, and with what they add to the work list.
use Rattle.std.specs.Prelude.{◌≡◌, ℕ, List, ◌++◌, Result, Ok, Err}
use Rattle.actx_tree.specs.declared.stmt.Stmt.{Stmt}
use Rattle.actx_tree.specs.declared.function.Nested.{Nested}
use Rattle.actx_tree.specs.declared.tree.BodyTree.{BodyTree}
use Rattle.actx_tree.specs.Bodies.{stmts_bodies}
use Rattle.actx_grammar.specs.declared.error.Cause.TheVariants as cause
use Rattle.actx_grammar.specs.declared.error.ParseError.{ParseError}
use Rattle.actx_grammar.specs.declared.error.ParseError.TheVariants.{NoTree, TooNested, Memory}
use Rattle.actx_grammar.specs.Tokens.{Tokens}
use Rattle.actx_grammar.specs.declared.bracket.Bracket.TheVariants as bracket
use Rattle.actx_grammar.specs.Kinds.{closes}
use Rattle.actx_grammar.specs.Reader.{Parser, Read, ◌>>=◌, ◌>>◌, pure, expect}
use Rattle.actx_program.specs.TreeReader.{items_in, at_place, read_body}
use Rattle.actx_program.specs.Trees.{body_tree}
use Rattle.actx_parse.specs.Finds.{items_of}

unfoldable pub items_to : ℕ → ℕ → Parser (Read (List Stmt))
items_to limit to = do
  xs ← items_in limit
  expect (closes bracket.Curly)
  at_place to
  pure xs

-- The tree of a body, with the bodies in it behind the work list; or the cause why it isn't read.
abbrev pub HasBody : Tokens → Nested → List Nested → List Nested → Result BodyTree ParseError → Type 0
HasBody tokens n old new (Ok b) = (xs : List Stmt) × (items_of (read_body tokens 201 n) ≡ Ok xs) × (b ≡ body_tree tokens n xs) × (new ≡ old ++ stmts_bodies xs n.depth)
HasBody tokens n old new (Err (NoTree at)) = items_of (read_body tokens 201 n) ≡ Err cause.NoTree
HasBody tokens n old new (Err (TooNested at)) = items_of (read_body tokens 201 n) ≡ Err cause.TooNested
HasBody tokens n old new (Err Memory) = Unit {0}
