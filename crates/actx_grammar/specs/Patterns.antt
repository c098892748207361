-- Reading of patterns, parameters, functions, methods and classes.
use Rattle.std.specs.Prelude.{ℕ, zero, suc, max, Bool, true, false, ◌||◌, if◌then◌else◌, List, [], ◌∷◌, ◌++◌, Option, Some, None, Ok, Err}
use Rattle.actx_text.specs.declared.units.Units.{Units}
use Rattle.actx_lex.specs.declared.token.Punct.TheVariants as p
use Rattle.actx_tree.specs.declared.expr.Expr.{Expr}
use Rattle.actx_tree.specs.declared.expr.Key.{Key}
use Rattle.actx_tree.specs.declared.expr.Key.TheVariants as a_key
use Rattle.actx_tree.specs.declared.function.Flow.{Flow}
use Rattle.actx_tree.specs.declared.function.Function.{Function}
use Rattle.actx_tree.specs.declared.function.Method.{Method}
use Rattle.actx_tree.specs.declared.function.Class.{Class}
use Rattle.actx_tree.specs.declared.function.Member.{Member}
use Rattle.actx_tree.specs.declared.pattern.Target.{Target}
use Rattle.actx_tree.specs.declared.pattern.Target.TheVariants as a_target
use Rattle.actx_tree.specs.declared.pattern.Prop.{Prop}
use Rattle.actx_tree.specs.declared.pattern.Prop.TheVariants as a_prop
use Rattle.actx_tree.specs.declared.pattern.Elem.{Elem}
use Rattle.actx_tree.specs.declared.pattern.Params.{Params}
use Rattle.actx_tree.specs.Parts.{function_of, method_of, class_of, member_of, elem_of, params_of}
use Rattle.actx_grammar.specs.declared.error.Cause.TheVariants.{NoTree}
use Rattle.actx_grammar.specs.declared.line.Line.TheVariants as line
use Rattle.actx_grammar.specs.declared.kind.Kind.{Kind}
use Rattle.actx_grammar.specs.declared.kind.Kind.TheVariants as kind
use Rattle.actx_grammar.specs.declared.bracket.Bracket.{Bracket}
use Rattle.actx_grammar.specs.declared.bracket.Bracket.TheVariants as bracket
use Rattle.actx_grammar.specs.Kinds.{closes, is_dots, is_name, is_equals, is_colon, is_open_parenthesis, is_open_bracket, is_open_brace, is_class_word, is_extends_word, is_semicolon}
use Rattle.actx_grammar.specs.Tokens.{next, behind, is_static}
use Rattle.actx_grammar.specs.Places.{is_plain_key}
use Rattle.actx_grammar.specs.Reader.{Parser, Read, Inner, and_then, ◌>>=◌, ◌>>◌, pure, refuse, skip, count, expect, name, literal, optional_name, rest_name, unread, function_head, method_head, row_from, fits}

-- what ends the members of a pattern or of parameters
abbrev pub ends_elems : Bracket → Kind → Bool
ends_elems c sort = closes c sort || is_dots sort

abbrev pub begins_pattern : Kind → Bool
begins_pattern (kind.Sign p.OpenBrace) = true
begins_pattern (kind.Sign p.OpenBracket) = true
begins_pattern _ = false

-- a pattern binds something
abbrev pub object_pattern : Read (List Prop) → Option Units → Parser (Read Target)
object_pattern ([], h) None = refuse
object_pattern ([], h) (Some n) = pure (a_target.Object [] (Some n), suc h)
object_pattern (x ∷ xs, h) r = pure (a_target.Object (x ∷ xs) r, suc h)

abbrev pub array_pattern : Read (List Elem) → Option Units → Parser (Read Target)
array_pattern ([], h) None = refuse
array_pattern ([], h) (Some n) = pure (a_target.Array [] (Some n), suc h)
array_pattern (x ∷ xs, h) r = pure (a_target.Array (x ∷ xs) r, suc h)

unfoldable pub target_by : Parser (Read Target) → Parser (Read Target)
target_by pattern = λ i. if is_name (next i) then (name >>= (λ n. pure (a_target.Name n, 0))) i else (if begins_pattern (next i) then pattern i else Err NoTree)

module _ (inner : Inner) where
  unfoldable pub default_value : Parser (Read (Option Expr))
  default_value = λ i. if is_equals (next i) then (do
    skip
    x ← inner.read line.Assign
    pure (Some x.0, x.1)) i else Ok ((None, 0), i)

  unfoldable pub elem : Parser (Read Elem)
  elem = do
    x ← inner.target
    d ← default_value
    pure (elem_of x.0 d.0, max x.1 d.1)

  unfoldable pub elems : Bracket → Parser (Read (List Elem))
  elems c = λ i. row_from c (ends_elems c) elem (count i) [] 0 i

  unfoldable pub prop : Parser (Read Prop)
  prop = λ i. if is_colon (next (behind i)) then (do
    w ← literal
    skip
    x ← elem
    pure (a_prop.Pair w x.0, x.1)) i else (do
      n ← name
      d ← default_value
      pure (a_prop.Shorthand n d.0, d.1)) i

  unfoldable pub props : Parser (Read (List Prop))
  props = λ i. row_from bracket.Curly (ends_elems bracket.Curly) prop (count i) [] 0 i

  abbrev pub pattern_from : Kind → Parser (Read Target)
  pattern_from (kind.Sign p.OpenBrace) = do
    skip
    xs ← props
    r ← rest_name bracket.Curly
    object_pattern xs r
  pattern_from (kind.Sign p.OpenBracket) = do
    skip
    xs ← elems bracket.Square
    r ← rest_name bracket.Square
    array_pattern xs r
  pattern_from _ = refuse

  unfoldable pub pattern : Parser (Read Target)
  pattern = λ i. pattern_from (next i) i

  unfoldable pub rest_target : Parser (Read (Option Target))
  rest_target = λ i. if closes bracket.Round (next i) then Ok ((None, 0), behind i) else (do
    expect is_dots
    x ← inner.target
    expect (closes bracket.Round)
    pure (Some x.0, x.1)) i

  unfoldable pub params : Parser (Read Params)
  params = do
    expect is_open_parenthesis
    xs ← elems bracket.Round
    r ← rest_target
    pure (params_of xs.0 r.0, max xs.1 r.1)

  -- ---- functions and methods

  unfoldable pub function : Parser (Read Function)
  function = do
    f ← function_head
    n ← optional_name
    ps ← params
    r ← unread
    pure (function_of f n ps.0 r, suc ps.1)

  unfoldable pub computed_key : Parser (Read Key)
  computed_key = do
    skip
    x ← inner.read line.Assign
    expect (closes bracket.Square)
    pure (a_key.Computed x.0, x.1)

  unfoldable pub key : Parser (Read Key)
  key = λ i. if is_open_bracket (next i) then computed_key i else (literal >>= (λ w. pure (w, 0))) i

  -- What stands behind the key of a method. The method is a node itself, so it is looked at whether it fits.
  unfoldable pub method_tail : Flow → Read Key → Parser (Read Method)
  method_tail f w = do
    ps ← params
    r ← unread
    fits inner (suc (max w.1 ps.1))
    pure (method_of f w.0 ps.0 r, suc (max w.1 ps.1))

  -- ---- classes

  unfoldable pub plain_method : Bool → Parser (Read Member)
  plain_method static = do
    f ← method_head
    w ← key
    (λ i. if is_plain_key w.0 then (method_tail f w >>= (λ m. pure (member_of static m.0, m.1))) i else Err NoTree)

  unfoldable pub member : Parser (Read Member)
  member = λ i. if is_static i then plain_method true (behind i) else plain_method false i

  unfoldable pub members_from : ℕ → List Member → ℕ → Parser (Read (List Member))
  members_from zero found h = refuse
  members_from (suc n) found h = λ i. if closes bracket.Curly (next i) then Ok ((found, h), i) else
      (if is_semicolon (next i) then members_from n found h (behind i) else
      and_then (member i) (λ x. members_from n (found ++ x.0 ∷ []) (max h x.1)))

  unfoldable pub heritage : Parser (Read (Option Expr))
  heritage = λ i. if is_extends_word (next i) then (do
    skip
    x ← inner.read line.Left
    pure (Some x.0, x.1)) i else Ok ((None, 0), i)

  unfoldable pub class : Parser (Read Class)
  class = do
    expect is_class_word
    n ← optional_name
    x ← heritage
    expect is_open_brace
    xs ← (λ i. members_from (count i) [] x.1 i)
    expect (closes bracket.Curly)
    pure (class_of n x.0 xs.0, suc xs.1)
