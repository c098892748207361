-- Reading of statements, declarations and lists of them as a function: what the code does, one definition for each
-- function of it.
use Rattle.std.specs.Prelude.{ℕ, zero, suc, max, Bool, true, false, not, ◌&&◌, ◌||◌, if◌then◌else◌, List, [], ◌∷◌, Option, Some, None, is_some, Ok, Err}
use Rattle.actx_lex.specs.declared.token.Punct.TheVariants as p
use Rattle.actx_tree.specs.declared.expr.Expr.{Expr}
use Rattle.actx_tree.specs.declared.pattern.Target.{Target}
use Rattle.actx_tree.specs.declared.pattern.Elem.{Elem}
use Rattle.actx_tree.specs.declared.stmt.Stmt.{Stmt}
use Rattle.actx_tree.specs.declared.stmt.Stmt.TheVariants as s
use Rattle.actx_tree.specs.declared.stmt.Catch.{Catch}
use Rattle.actx_tree.specs.declared.stmt.ForInit.{ForInit}
use Rattle.actx_tree.specs.declared.stmt.ForInit.TheVariants as init
use Rattle.actx_tree.specs.Parts.{elem_of, catch_of}
use Rattle.actx_grammar.specs.declared.error.Cause.TheVariants.{NoTree}
use Rattle.actx_grammar.specs.declared.line.Line.TheVariants as line
use Rattle.actx_grammar.specs.declared.kind.Kind.{Kind}
use Rattle.actx_grammar.specs.declared.kind.Kind.TheVariants as kind
use Rattle.actx_grammar.specs.declared.word.Word.TheVariants as word
use Rattle.actx_grammar.specs.declared.bracket.Bracket.TheVariants as bracket
use Rattle.actx_grammar.specs.Kinds.{closes, is_semicolon, is_equals, is_open_parenthesis, is_open_brace}
use Rattle.actx_grammar.specs.Tokens.{Tokens, next, behind, is_on_line, has_operand}
use Rattle.actx_grammar.specs.Reader.{Parser, Read, Inner, ◌>>=◌, ◌>>◌, pure, skip, count, expect, many_from, fits}
use Rattle.actx_grammar.specs.Patterns.{function, class}
use Rattle.actx_grammar.specs.Lines.{below, sunk, goes_on_comma}
use Rattle.actx_program.specs.Ends.{ends_items, may_end, is_else_word, is_while_word, is_catch_word, is_finally_word, is_of, begins_function, begins_other, has_function_name, has_class_name, is_name_target}

-- ---- ends

unfoldable pub end : Parser (Unit {0})
end = λ i. if is_semicolon (next i) then Ok (tt, behind i) else (if may_end i then Ok (tt, i) else Err NoTree)

-- behind a `do`
unfoldable pub semicolon : Parser (Unit {0})
semicolon = λ i. if is_semicolon (next i) then Ok (tt, behind i) else Ok (tt, i)

unfoldable pub goes_on_items : Tokens → Bool
goes_on_items i = not (ends_items (next i))

-- ---- what lies in a statement

-- The readers of what lies right in a statement, none of more levels than the room of `inner`: expressions and patterns,
-- statements, items.
pub record Within : Type 0 where
  pub inner : Inner
  pub stmt : Parser (Read Stmt)
  pub item : Parser (Read Stmt)

module _ (within : Within) where
  -- ---- declarations

  -- behind the target of a Bind
  unfoldable pub bind_after : Bool → Read Target → Parser (Read Elem)
  bind_after is_const x = λ i. if is_equals (next i) then (do
    skip
    y ← within.inner.read line.Assign
    pure (elem_of x.0 (Some y.0), max x.1 y.1)) i else
      (if not is_const && is_name_target x.0 then Ok ((elem_of x.0 None, x.1), i) else Err NoTree)

  -- a comma and a Bind
  unfoldable pub next_bind : Bool → Parser (Read Elem)
  next_bind is_const = do
    skip
    x ← within.inner.target
    bind_after is_const x

  unfoldable pub more_binds : Bool → Read Elem → Parser (Read (List Elem))
  more_binds is_const x = λ i. many_from goes_on_comma (next_bind is_const) (count i) (x.0 ∷ []) x.1 i

  -- behind the target of the first Bind
  unfoldable pub binds_after : Bool → Read Target → Parser (Read (List Elem))
  binds_after is_const x = do
    y ← bind_after is_const x
    more_binds is_const y

  -- behind `let` or `const`
  unfoldable pub binds : Bool → Parser (Read (List Elem))
  binds is_const = do
    x ← within.inner.target
    binds_after is_const x

  unfoldable pub let_item : Bool → Parser (Read Stmt)
  let_item is_const = do
    skip
    xs ← binds is_const
    end
    pure (s.Let is_const xs.0, suc xs.1)

  unfoldable pub function_item : Parser (Read Stmt)
  function_item = do
    f ← function within.inner
    (λ i. if has_function_name f.0 then Ok ((s.Function f.0, f.1), i) else Err NoTree)

  unfoldable pub class_item : Parser (Read Stmt)
  class_item = do
    c ← class within.inner
    (λ i. if has_class_name c.0 then Ok ((s.Class c.0, c.1), i) else Err NoTree)

  -- ---- lists of items

  unfoldable pub items : Parser (Read (List Stmt))
  items = λ i. many_from goes_on_items within.item (count i) [] 0 i

  unfoldable pub block : Parser (Read (List Stmt))
  block = do
    expect is_open_brace
    xs ← items
    expect (closes bracket.Curly)
    pure xs

  -- ---- statements; each begins with the token that it is told by

  unfoldable pub block_form : Parser (Read Stmt)
  block_form = do
    xs ← block
    pure (s.Block xs.0, suc xs.1)

  -- "(" Expr ")"
  unfoldable pub test : Parser (Read Expr)
  test = do
    expect is_open_parenthesis
    x ← within.inner.read line.Expr
    expect (closes bracket.Round)
    pure x

  -- ["else" Stmt]
  unfoldable pub other : Parser (Read (Option Stmt))
  other = λ i. if is_else_word (next i) then (do
    skip
    x ← within.stmt
    pure (Some x.0, x.1)) i else Ok ((None, 0), i)

  unfoldable pub if_form : Parser (Read Stmt)
  if_form = do
    skip
    x ← test
    y ← within.stmt
    z ← other
    pure (s.If x.0 y.0 z.0, suc (max x.1 (max y.1 z.1)))

  unfoldable pub while_form : Parser (Read Stmt)
  while_form = do
    skip
    x ← test
    y ← within.stmt
    pure (s.While x.0 y.0, suc (max x.1 y.1))

  unfoldable pub do_form : Parser (Read Stmt)
  do_form = do
    skip
    y ← within.stmt
    expect is_while_word
    x ← test
    semicolon
    pure (s.Do y.0 x.0, suc (max y.1 x.1))

  -- ---- `for`

  -- [Expr] and the sign that ends it
  unfoldable pub value_to : (Kind → Bool) → Parser (Read (Option Expr))
  value_to ends = λ i. if ends (next i) then Ok ((None, 0), behind i) else (do
    x ← within.inner.read line.Expr
    expect ends
    pure (Some x.0, x.1)) i

  -- behind what comes first in the head
  unfoldable pub for_after : Read ForInit → Parser (Read Stmt)
  for_after first = do
    expect is_semicolon
    x ← value_to is_semicolon
    y ← value_to (closes bracket.Round)
    z ← within.stmt
    pure (s.For first.0 x.0 y.0 z.0, suc (max first.1 (max x.1 (max y.1 z.1))))

  -- from `of` on
  unfoldable pub for_of : Bool → Read Target → Parser (Read Stmt)
  for_of is_const x = do
    skip
    y ← within.inner.read line.Assign
    expect (closes bracket.Round)
    z ← within.stmt
    pure (s.ForOf is_const x.0 y.0 z.0, suc (max x.1 (max y.1 z.1)))

  -- From the first Bind of a Let on, behind its target. The Let is a node itself, so it is looked at whether it fits.
  unfoldable pub for_binds : Bool → Read Target → Parser (Read Stmt)
  for_binds is_const x = do
    xs ← binds_after is_const x
    fits within.inner (suc xs.1)
    for_after (init.Let is_const xs.0, suc xs.1)

  unfoldable pub for_target : Bool → Read Target → Parser (Read Stmt)
  for_target is_const x = λ i. if is_of i then for_of is_const x i else for_binds is_const x i

  unfoldable pub for_let : Bool → Parser (Read Stmt)
  for_let is_const = do
    skip
    x ← within.inner.target
    for_target is_const x

  unfoldable pub for_expr : Parser (Read Stmt)
  for_expr = do
    x ← within.inner.read line.Expr
    for_after (init.Expr x.0, x.1)

  abbrev pub for_from : Kind → Parser (Read Stmt)
  for_from (kind.Sign p.Semicolon) = for_after (init.Nothing, 0)
  for_from (kind.Word word.Let) = for_let false
  for_from (kind.Word word.Const) = for_let true
  for_from _ = for_expr

  unfoldable pub for_head : Parser (Read Stmt)
  for_head = λ i. for_from (next i) i

  unfoldable pub for_form : Parser (Read Stmt)
  for_form = do
    skip
    expect is_open_parenthesis
    for_head

  -- ---- statements that end with End

  -- Expr End
  unfoldable pub ended_value : Parser (Read Expr)
  ended_value = do
    x ← within.inner.read line.Expr
    end
    pure x

  unfoldable pub return_after : Parser (Read Stmt)
  return_after = λ i. if has_operand i then (do
    x ← ended_value
    pure (s.Return (Some x.0), suc x.1)) i else (do
      end
      pure (s.Return None, 1)) i

  unfoldable pub return_form : Parser (Read Stmt)
  return_form = skip >> return_after

  unfoldable pub throw_after : Parser (Read Stmt)
  throw_after = λ i. if is_on_line i then (do
    x ← ended_value
    pure (s.Throw x.0, suc x.1)) i else Err NoTree

  unfoldable pub throw_form : Parser (Read Stmt)
  throw_form = skip >> throw_after

  unfoldable pub break_form : Parser (Read Stmt)
  break_form = do
    skip
    end
    pure (s.Break, 1)

  unfoldable pub continue_form : Parser (Read Stmt)
  continue_form = do
    skip
    end
    pure (s.Continue, 1)

  unfoldable pub expr_form : Parser (Read Stmt)
  expr_form = λ i. if begins_other i then Err NoTree else (do
    x ← ended_value
    pure (s.Expr x.0, suc x.1)) i

  -- ---- `try`

  -- ["(" Target ")"]
  unfoldable pub caught : Parser (Read (Option Target))
  caught = λ i. if is_open_parenthesis (next i) then (do
    skip
    x ← within.inner.target
    expect (closes bracket.Round)
    pure (Some x.0, x.1)) i else Ok ((None, 0), i)

  unfoldable pub handler : Parser (Read (Option Catch))
  handler = λ i. if is_catch_word (next i) then (do
    skip
    x ← caught
    xs ← block
    pure (Some (catch_of x.0 xs.0), max x.1 xs.1)) i else Ok ((None, 0), i)

  unfoldable pub finally : Parser (Read (Option (List Stmt)))
  finally = λ i. if is_finally_word (next i) then (do
    skip
    xs ← block
    pure (Some xs.0, xs.1)) i else Ok ((None, 0), i)

  unfoldable pub try_form : Parser (Read Stmt)
  try_form = do
    skip
    xs ← block
    c ← handler
    f ← finally
    (λ i. if is_some c.0 || is_some f.0 then Ok ((s.Try xs.0 c.0 f.0, suc (max xs.1 (max c.1 f.1))), i) else Err NoTree)

  -- ---- statements and items

  abbrev pub stmt_from : Kind → Parser (Read Stmt)
  stmt_from (kind.Sign p.OpenBrace) = block_form
  stmt_from (kind.Sign p.Semicolon) = skip >> pure (s.Empty, 1)
  stmt_from (kind.Word word.If) = if_form
  stmt_from (kind.Word word.While) = while_form
  stmt_from (kind.Word word.Do) = do_form
  stmt_from (kind.Word word.For) = for_form
  stmt_from (kind.Word word.Return) = return_form
  stmt_from (kind.Word word.Throw) = throw_form
  stmt_from (kind.Word word.Break) = break_form
  stmt_from (kind.Word word.Continue) = continue_form
  stmt_from (kind.Word word.Try) = try_form
  stmt_from _ = expr_form

  unfoldable pub stmt : Parser (Read Stmt)
  stmt = λ i. stmt_from (next i) i

  abbrev pub item_from : Kind → Parser (Read Stmt)
  item_from (kind.Word word.Let) = let_item false
  item_from (kind.Word word.Const) = let_item true
  item_from (kind.Word word.Class) = class_item
  item_from _ = λ i. if begins_function i then function_item i else stmt i

  unfoldable pub item : Parser (Read Stmt)
  item = λ i. item_from (next i) i

-- ---- the knot

-- the readers of what has no more levels than the number
unfoldable pub inside : ℕ → Within
inside zero = record { inner = below zero; stmt = sunk; item = sunk }
inside (suc room) = record { inner = below (suc room); stmt = stmt (inside room); item = item (inside room) }
