-- Reading of expressions.
use Rattle.std.specs.Prelude.{ℕ, zero, suc, max, Bool, true, false, ◌&&◌, ◌==◌, if◌then◌else◌, List, [], ◌∷◌, ◌++◌, Option, Some, None, is_some, Ok, Err}
use Rattle.actx_lex.specs.declared.token.Punct.TheVariants as p
use Rattle.actx_tree.specs.declared.operator.BinaryOp.{BinaryOp}
use Rattle.actx_tree.specs.declared.operator.UnaryOp.{UnaryOp}
use Rattle.actx_tree.specs.declared.operator.StepOp.{StepOp}
use Rattle.actx_tree.specs.declared.operator.AssignOp.{AssignOp}
use Rattle.actx_tree.specs.declared.expr.Expr.{Expr}
use Rattle.actx_tree.specs.declared.expr.Expr.TheVariants as e
use Rattle.actx_tree.specs.declared.expr.Piece.{Piece}
use Rattle.actx_tree.specs.declared.expr.Argument.{Argument}
use Rattle.actx_tree.specs.declared.expr.Argument.TheVariants as an_argument
use Rattle.actx_tree.specs.declared.expr.Entry.{Entry}
use Rattle.actx_tree.specs.declared.expr.Entry.TheVariants as an_entry
use Rattle.actx_tree.specs.declared.expr.Key.{Key}
use Rattle.actx_tree.specs.declared.expr.Suffix.{Suffix}
use Rattle.actx_tree.specs.declared.expr.Suffix.TheVariants as a_suffix
use Rattle.actx_tree.specs.declared.expr.Operand.{Operand}
use Rattle.actx_tree.specs.declared.function.Flow.{Flow}
use Rattle.actx_tree.specs.declared.function.Flow.TheVariants as flow
use Rattle.actx_tree.specs.declared.pattern.Target.TheVariants as a_target
use Rattle.actx_tree.specs.declared.pattern.Params.{Params}
use Rattle.actx_tree.specs.Parts.{piece_of, operand_of, elem_of, params_of}
use Rattle.actx_grammar.specs.declared.error.Cause.TheVariants.{NoTree, TooNested}
use Rattle.actx_grammar.specs.declared.line.Line.{Line}
use Rattle.actx_grammar.specs.declared.line.Line.TheVariants as line
use Rattle.actx_grammar.specs.declared.kind.Kind.{Kind}
use Rattle.actx_grammar.specs.declared.kind.Kind.TheVariants as kind
use Rattle.actx_grammar.specs.declared.word.Word.TheVariants as word
use Rattle.actx_grammar.specs.declared.bracket.Bracket.{Bracket}
use Rattle.actx_grammar.specs.declared.bracket.Bracket.TheVariants as bracket
use Rattle.actx_grammar.specs.Kinds.{closes, is_dots, is_name, is_colon, is_comma, is_question, is_open_parenthesis, is_open_bracket, is_open_brace, is_arrow_sign, is_new_word, is_yield_word, binary_op, level_of, unary_op, step_op, assign_op, begins_suffix, begins_member}
use Rattle.actx_grammar.specs.Tokens.{Tokens, next, behind, is_on_line, has_operand, arrow_start, is_async_function, is_shorthand}
use Rattle.actx_grammar.specs.Places.{is_place, is_logical}
use Rattle.actx_grammar.specs.Reader.{Parser, Read, Inner, ◌>>=◌, ◌>>◌, pure, refuse, skip, count, expect, name, word, number, text, piece, unread, method_head, many_from, row_from, fits}
use Rattle.actx_grammar.specs.Patterns.{target_by, pattern, params, function, class, key, method_tail}

-- ---- tests of what comes next

-- the operator, if it is one of the level
abbrev pub of_level : ℕ → Option BinaryOp → Option BinaryOp
of_level own None = None
of_level own (Some op) = if level_of op == own then Some op else None

unfoldable pub operator_at : ℕ → Tokens → Option BinaryOp
operator_at own i = of_level own (binary_op (next i))

abbrev pub has_operator : ℕ → Tokens → Bool
has_operator own i = is_some (operator_at own i)

-- `++` or `--`, on the line of what stands before it
unfoldable pub step_at : Tokens → Option StepOp
step_at i = if is_on_line i then step_op (next i) else None

unfoldable pub goes_on_suffix : Tokens → Bool
goes_on_suffix i = begins_suffix (next i)

unfoldable pub goes_on_member : Tokens → Bool
goes_on_member i = begins_member (next i)

unfoldable pub goes_on_comma : Tokens → Bool
goes_on_comma i = is_comma (next i)

unfoldable pub arrow_sign : Parser (Unit {0})
arrow_sign = λ i. if is_arrow_sign (next i) && is_on_line i then Ok (tt, behind i) else Err NoTree

abbrev pub is_plain : Flow → Bool
is_plain flow.Plain = true
is_plain _ = false

-- ---- lines

module _ (inner : Inner) where
  -- ---- arguments and entries

  unfoldable pub argument : Parser (Read Argument)
  argument = λ i. if is_dots (next i) then (do
    skip
    x ← inner.read line.Assign
    pure (an_argument.Spread x.0, x.1)) i else (do
      x ← inner.read line.Assign
      pure (an_argument.One x.0, x.1)) i

  unfoldable pub arguments : Bracket → Parser (Read (List Argument))
  arguments c = λ i. row_from c (closes c) argument (count i) [] 0 i

  unfoldable pub args : Parser (Read (List Argument))
  args = do
    expect is_open_parenthesis
    xs ← arguments bracket.Round
    expect (closes bracket.Round)
    pure xs

  unfoldable pub pair_or_method : Flow → Read Key → Parser (Read Entry)
  pair_or_method f w = λ i. if is_colon (next i) && is_plain f then (do
    skip
    x ← inner.read line.Assign
    pure (an_entry.Pair w.0 x.0, max w.1 x.1)) i else (do
      m ← method_tail inner f w
      pure (an_entry.Method m.0, m.1)) i

  unfoldable pub keyed : Parser (Read Entry)
  keyed = do
    f ← method_head
    w ← key inner
    pair_or_method f w

  unfoldable pub spread_entry : Parser (Read Entry)
  spread_entry = do
    skip
    x ← inner.read line.Assign
    pure (an_entry.Spread x.0, x.1)

  -- A name alone stands for a key and a value, and the value is a node.
  unfoldable pub named_entry : Parser (Read Entry)
  named_entry = do
    fits inner 1
    n ← name
    pure (an_entry.Shorthand n, 1)

  unfoldable pub entry : Parser (Read Entry)
  entry = λ i. if is_dots (next i) then spread_entry i else
      (if is_shorthand i then named_entry i else keyed i)

  unfoldable pub entries : Parser (Read (List Entry))
  entries = λ i. row_from bracket.Curly (closes bracket.Curly) entry (count i) [] 0 i

  -- ---- suffixes

  unfoldable pub index : Parser (Read Expr)
  index = do
    expect is_open_bracket
    x ← inner.read line.Expr
    expect (closes bracket.Square)
    pure x

  abbrev pub member_suffix_from : Kind → Parser (Read Suffix)
  member_suffix_from (kind.Sign p.Dot) = do
    skip
    u ← word
    pure (a_suffix.Member false u, 0)
  member_suffix_from (kind.Sign p.OpenBracket) = do
    x ← index
    pure (a_suffix.Index false x.0, x.1)
  member_suffix_from _ = refuse

  unfoldable pub member_suffix : Parser (Read Suffix)
  member_suffix = λ i. member_suffix_from (next i) i

  abbrev pub optional_from : Kind → Parser (Read Suffix)
  optional_from (kind.Sign p.OpenBracket) = do
    x ← index
    pure (a_suffix.Index true x.0, x.1)
  optional_from (kind.Sign p.OpenParenthesis) = do
    xs ← args
    pure (a_suffix.Call true xs.0, xs.1)
  optional_from _ = do
    u ← word
    pure (a_suffix.Member true u, 0)

  unfoldable pub optional_suffix : Parser (Read Suffix)
  optional_suffix = λ i. optional_from (next i) i

  abbrev pub suffix_from : Kind → Parser (Read Suffix)
  suffix_from (kind.Sign p.OpenParenthesis) = do
    xs ← args
    pure (a_suffix.Call false xs.0, xs.1)
  suffix_from (kind.Sign p.OptionalDot) = skip >> optional_suffix
  suffix_from _ = member_suffix

  unfoldable pub suffix : Parser (Read Suffix)
  suffix = λ i. suffix_from (next i) i

  unfoldable pub suffixes : ℕ → Parser (Read (List Suffix))
  suffixes h = λ i. many_from goes_on_suffix suffix (count i) [] h i

  unfoldable pub member_suffixes : ℕ → Parser (Read (List Suffix))
  member_suffixes h = λ i. many_from goes_on_member member_suffix (count i) [] h i

  -- ---- primaries

  unfoldable pub pieces_from : ℕ → List Piece → ℕ → Parser (Read (List Piece))
  pieces_from zero found h = refuse
  pieces_from (suc n) found h = do
    x ← inner.read line.Expr
    u ← piece false
    (λ i. if u.1 then Ok ((found ++ piece_of x.0 u.0 ∷ [], max h x.1), i) else pieces_from n (found ++ piece_of x.0 u.0 ∷ []) (max h x.1) i)

  unfoldable pub pieces : Parser (Read (List Piece))
  pieces = λ i. pieces_from (count i) [] 0 i

  unfoldable pub template : Parser (Read Expr)
  template = do
    u ← piece true
    (λ i. if u.1 then Ok ((e.Template u.0 [], 1), i) else (do
      xs ← pieces
      pure (e.Template u.0 xs.0, suc xs.1)) i)

  unfoldable pub brackets : Parser (Read Expr)
  brackets = do
    skip
    x ← inner.read line.Expr
    expect (closes bracket.Round)
    pure (e.Brackets x.0, suc x.1)

  unfoldable pub array : Parser (Read Expr)
  array = do
    skip
    xs ← arguments bracket.Square
    expect (closes bracket.Square)
    pure (e.Array xs.0, suc xs.1)

  unfoldable pub object : Parser (Read Expr)
  object = do
    skip
    xs ← entries
    expect (closes bracket.Curly)
    pure (e.Object xs.0, suc xs.1)

  abbrev pub super_from : Kind → Parser (Read Expr)
  super_from (kind.Sign p.OpenParenthesis) = do
    xs ← args
    pure (e.SuperCall xs.0, suc xs.1)
  super_from (kind.Sign p.Dot) = do
    skip
    u ← word
    pure (e.SuperMember u, 1)
  super_from _ = refuse

  unfoldable pub super_form : Parser (Read Expr)
  super_form = λ i. super_from (next i) i

  unfoldable pub function_expression : Parser (Read Expr)
  function_expression = do
    f ← function inner
    pure (e.Function f.0, f.1)

  unfoldable pub named : Parser (Read Expr)
  named = λ i. if is_async_function i then function_expression i else (name >>= (λ n. pure (e.Name n, 1))) i

  abbrev pub primary_from : Kind → Parser (Read Expr)
  primary_from kind.Name = named
  primary_from kind.Number = number >>= (λ n. pure (e.Number n, 1))
  primary_from kind.Text = text >>= (λ u. pure (e.Text u, 1))
  primary_from (kind.Word word.True) = skip >> pure (e.Bool true, 1)
  primary_from (kind.Word word.False) = skip >> pure (e.Bool false, 1)
  primary_from (kind.Word word.Null) = skip >> pure (e.Null, 1)
  primary_from (kind.Word word.This) = skip >> pure (e.This, 1)
  primary_from (kind.Piece opens ends) = template
  primary_from (kind.Sign p.OpenParenthesis) = brackets
  primary_from (kind.Sign p.OpenBracket) = array
  primary_from (kind.Sign p.OpenBrace) = object
  primary_from (kind.Word word.Super) = skip >> super_form
  primary_from (kind.Word word.Function) = function_expression
  primary_from (kind.Word word.Class) = do
    c ← class inner
    pure (e.Class c.0, c.1)
  primary_from _ = refuse

  unfoldable pub primary : Parser (Read Expr)
  primary = λ i. primary_from (next i) i

  -- ---- new, and what follows a Primary

  -- behind the members of a `new`
  unfoldable pub new_after : Expr → Read (List Suffix) → Parser (Read Expr)
  new_after x xs = λ i. if is_open_parenthesis (next i) then (do
    zs ← args
    pure (e.New x xs.0 (Some zs.0), suc (max xs.1 zs.1))) i else
      (if begins_suffix (next i) then Err NoTree else Ok ((e.New x xs.0 None, suc xs.1), i))

  unfoldable pub new_form : Parser (Read Expr)
  new_form = do
    skip
    x ← inner.read line.Made
    xs ← member_suffixes x.1
    new_after x.0 xs

  unfoldable pub made : Parser (Read Expr)
  made = λ i. if is_new_word (next i) then new_form i else primary i

  unfoldable pub left_after : Read Expr → Parser (Read Expr)
  left_after x = λ i. if goes_on_suffix i then (do
    fits inner x.1
    xs ← suffixes x.1
    pure (e.Left x.0 xs.0, suc xs.1)) i else Ok (x, i)

  unfoldable pub left : Parser (Read Expr)
  left = made >>= left_after

  -- ---- operators

  abbrev pub step_after : Option StepOp → Read Expr → Parser (Read Expr)
  step_after None x = pure x
  step_after (Some op) x = λ i. if is_place x.0 then (do
    fits inner x.1
    skip
    pure (e.StepAfter x.0 op, suc x.1)) i else Err NoTree

  unfoldable pub unary_after : Read Expr → Parser (Read Expr)
  unary_after x = λ i. step_after (step_at i) x i

  abbrev pub step_before : Option StepOp → Parser (Read Expr)
  step_before None = left >>= unary_after
  step_before (Some op) = do
    skip
    x ← inner.read line.Left
    (λ i. if is_place x.0 then Ok ((e.StepBefore op x.0, suc x.1), i) else Err NoTree)

  abbrev pub unary_from : Option UnaryOp → Option StepOp → Parser (Read Expr)
  unary_from None step = step_before step
  unary_from (Some op) step = do
    skip
    x ← inner.read line.Unary
    pure (e.Unary op x.0, suc x.1)

  unfoldable pub unary : Parser (Read Expr)
  unary = λ i. unary_from (unary_op (next i)) (step_op (next i)) i

  abbrev pub operand_from : ℕ → Option BinaryOp → Parser (Read Operand)
  operand_from inner_level None = refuse
  operand_from inner_level (Some op) = do
    skip
    x ← inner.read (line.Level inner_level)
    pure (operand_of op x.0, x.1)

  unfoldable pub operand : ℕ → ℕ → Parser (Read Operand)
  operand own inner_level = λ i. operand_from inner_level (operator_at own i) i

  unfoldable pub operands : ℕ → ℕ → ℕ → Parser (Read (List Operand))
  operands own inner_level h = λ i. many_from (has_operator own) (operand own inner_level) (count i) [] h i

  -- a chain of the level own, whose operands are of the level operands, behind the first of them
  unfoldable pub chain_after : ℕ → ℕ → Read Expr → Parser (Read Expr)
  chain_after own inner_level x = λ i. if has_operator own i then (do
    fits inner x.1
    xs ← operands own inner_level x.1
    pure (e.Chain x.0 xs.0, suc xs.1)) i else Ok (x, i)

  unfoldable pub level : ℕ → Parser (Read Expr)
  level zero = unary
  level (suc l) = level l >>= chain_after (suc l) l

  -- `??` follows no chain of `||` or `&&`
  unfoldable pub short_after : Read Expr → Parser (Read Expr)
  short_after x = λ i. if has_operator 7 i && is_logical x.0 then Err NoTree else chain_after 7 4 x i

  unfoldable pub short : Parser (Read Expr)
  short = level 6 >>= short_after

  unfoldable pub cond_after : Read Expr → Parser (Read Expr)
  cond_after x = λ i. if is_question (next i) then (do
    fits inner x.1
    skip
    y ← inner.read line.Assign
    expect is_colon
    z ← inner.read line.Assign
    pure (e.Conditional x.0 y.0 z.0, suc (max x.1 (max y.1 z.1)))) i else Ok (x, i)

  unfoldable pub cond : Parser (Read Expr)
  cond = short >>= cond_after

  -- ---- assignments and arrows

  unfoldable pub arrow_params : Parser (Read Params)
  arrow_params = λ i. if is_name (next i) then (name >>= (λ n. pure (params_of (elem_of (a_target.Name n) None ∷ []) None, 0))) i else params inner i

  unfoldable pub arrow_body : Bool → Read Params → Parser (Read Expr)
  arrow_body async ps = λ i. if is_open_brace (next i) then (do
    r ← unread
    pure (e.ArrowBlock async ps.0 r, suc ps.1)) i else (do
      y ← inner.read line.Assign
      pure (e.Arrow async ps.0 y.0, suc (max ps.1 y.1))) i

  unfoldable pub arrow_tail : Bool → Parser (Read Expr)
  arrow_tail async = do
    ps ← arrow_params
    arrow_sign
    arrow_body async ps

  abbrev pub arrow : Bool → Parser (Read Expr)
  arrow true = skip >> arrow_tail true
  arrow false = arrow_tail false

  unfoldable pub yield_form : Parser (Read Expr)
  yield_form = λ i. if has_operand i then (do
    x ← inner.read line.Assign
    pure (e.Yield (Some x.0), suc x.1)) i else Ok ((e.Yield None, 1), i)

  abbrev pub assign_to : Option AssignOp → Read Expr → Parser (Read Expr)
  assign_to None x = pure x
  assign_to (Some op) x = λ i. if is_place x.0 then (do
    fits inner x.1
    skip
    y ← inner.read line.Assign
    pure (e.Assign x.0 op y.0, suc (max x.1 y.1))) i else Err NoTree

  unfoldable pub assign_after : Read Expr → Parser (Read Expr)
  assign_after x = λ i. assign_to (assign_op (next i)) x i

  abbrev pub assign_from : Option Bool → Parser (Read Expr)
  assign_from (Some async) = arrow async
  assign_from None = λ i. if is_yield_word (next i) then yield_form (behind i) else (cond >>= assign_after) i

  unfoldable pub assign : Parser (Read Expr)
  assign = λ i. assign_from (arrow_start i) i

  -- ---- an Expr

  unfoldable pub next_assign : Parser (Read Expr)
  next_assign = skip >> inner.read line.Assign

  unfoldable pub commas : ℕ → Parser (Read (List Expr))
  commas h = λ i. many_from goes_on_comma next_assign (count i) [] h i

  unfoldable pub expr_after : Read Expr → Parser (Read Expr)
  expr_after x = λ i. if goes_on_comma i then (do
    fits inner x.1
    xs ← commas x.1
    pure (e.Comma x.0 xs.0, suc xs.1)) i else Ok (x, i)

  unfoldable pub expr : Parser (Read Expr)
  expr = assign >>= expr_after

  unfoldable pub line_of : Line → Parser (Read Expr)
  line_of line.Expr = expr
  line_of line.Assign = assign
  line_of line.Unary = unary
  line_of (line.Level l) = level l
  line_of line.Left = left
  line_of line.Made = made

-- ---- the knot

-- no node fits
abbrev pub sunk : {A : Type 0} → Parser A
sunk = λ i. Err TooNested

-- the readers of what has no more levels than the number
unfoldable pub below : ℕ → Inner
below zero = record { room = 0; read = λ l. sunk; target = target_by sunk }
below (suc room) = record { room = suc (below room).room; read = line_of (below room); target = target_by (pattern (below room)) }
