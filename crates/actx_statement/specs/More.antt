-- Parts of the reader that code has as functions of their own.
use Rattle.std.specs.Prelude.{suc, max, if◌then◌else◌, Option}
use Rattle.actx_tree.specs.declared.expr.Expr.{Expr}
use Rattle.actx_tree.specs.declared.stmt.Stmt.{Stmt}
use Rattle.actx_tree.specs.declared.stmt.Stmt.TheVariants as s
use Rattle.actx_tree.specs.declared.stmt.ForInit.{ForInit}
use Rattle.actx_grammar.specs.declared.bracket.Bracket.TheVariants as bracket
use Rattle.actx_grammar.specs.Kinds.{closes, is_semicolon}
use Rattle.actx_grammar.specs.Reader.{Parser, Read, ◌>>=◌, ◌>>◌, pure, expect}
use Rattle.actx_program.specs.Ends.{begins_function}
use Rattle.actx_program.specs.StatementReader.{Within, function_item, stmt, value_to}

-- an item that begins with no word of a declaration but perhaps a function's
abbrev pub other_item : Within → Parser (Read Stmt)
other_item within = λ i. if begins_function i then function_item within i else stmt within i

-- behind what comes first in the head of a `for`, up to the bracket: the test and the update
unfoldable pub for_tests : Within → Parser (Read (Option Expr) × Read (Option Expr))
for_tests within = do
  expect is_semicolon
  x ← value_to within is_semicolon
  y ← value_to within (closes bracket.Round)
  pure (x, y)

-- and the statement behind it
abbrev pub for_last : Within → Read ForInit → Read (Option Expr) × Read (Option Expr) → Parser (Read Stmt)
for_last within first t = do
  z ← within.stmt
  pure (s.For first.0 t.0.0 t.1.0 z.0, suc (max first.1 (max t.0.1 (max t.1.1 z.1))))
