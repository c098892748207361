-- The grammar of expressions (ECMA-262 §13 to §15, without regular expressions): one case for each line, in the order
-- of docs/EXPRESSIONS.md.
--
-- `SpX x h a b` says that the tokens a are a spelling of x by the line X and then the tokens b, and that x has h levels
-- of nodes: a node with no node in it has 1, any other one more than the greatest of those right in it, a list with none 0.
use Rattle.std.specs.Prelude.{◌≡◌, ℕ, ℤ, suc, max, Bool, true, false, List, [], ◌∷◌, length, Option, Some, None}
use Rattle.actx_text.specs.declared.units.Units.{Units}
use Rattle.actx_lex.specs.declared.token.Token.{Token}
use Rattle.actx_lex.specs.declared.token.TokenKind.TheVariants as k
use Rattle.actx_lex.specs.declared.token.Punct.TheVariants as p
use Rattle.actx_tree.specs.declared.operator.BinaryOp.{BinaryOp}
use Rattle.actx_tree.specs.declared.operator.UnaryOp.{UnaryOp}
use Rattle.actx_tree.specs.declared.operator.StepOp.{StepOp}
use Rattle.actx_tree.specs.declared.operator.AssignOp.{AssignOp}
use Rattle.actx_tree.specs.declared.expr.Expr.{Expr}
use Rattle.actx_tree.specs.declared.expr.Expr.TheVariants as e
use Rattle.actx_tree.specs.declared.expr.Piece.{Piece}
use Rattle.actx_tree.specs.declared.expr.Argument.{Argument}
use Rattle.actx_tree.specs.declared.expr.Argument.TheVariants as argument
use Rattle.actx_tree.specs.declared.expr.Entry.{Entry}
use Rattle.actx_tree.specs.declared.expr.Entry.TheVariants as entry
use Rattle.actx_tree.specs.declared.expr.Key.{Key}
use Rattle.actx_tree.specs.declared.expr.Key.TheVariants as key
use Rattle.actx_tree.specs.declared.expr.Suffix.{Suffix}
use Rattle.actx_tree.specs.declared.expr.Suffix.TheVariants as suffix
use Rattle.actx_tree.specs.declared.expr.Operand.{Operand}
use Rattle.actx_tree.specs.declared.function.Flow.{Flow}
use Rattle.actx_tree.specs.declared.function.Flow.TheVariants as flow
use Rattle.actx_tree.specs.declared.function.Unread.{Unread}
use Rattle.actx_tree.specs.declared.function.Function.{Function}
use Rattle.actx_tree.specs.declared.function.Method.{Method}
use Rattle.actx_tree.specs.declared.function.Class.{Class}
use Rattle.actx_tree.specs.declared.function.Member.{Member}
use Rattle.actx_tree.specs.declared.pattern.Target.{Target}
use Rattle.actx_tree.specs.declared.pattern.Target.TheVariants as target
use Rattle.actx_tree.specs.declared.pattern.Prop.{Prop}
use Rattle.actx_tree.specs.declared.pattern.Prop.TheVariants as prop
use Rattle.actx_tree.specs.declared.pattern.Elem.{Elem}
use Rattle.actx_tree.specs.declared.pattern.Params.{Params}
use Rattle.actx_tree.specs.Parts.{piece_of, operand_of, function_of, method_of, class_of, member_of, elem_of, params_of}
use Rattle.actx_grammar.specs.declared.kind.Kind.TheVariants as kind
use Rattle.actx_grammar.specs.declared.word.Word.TheVariants as word
use Rattle.actx_grammar.specs.declared.bracket.Bracket.{Bracket}
use Rattle.actx_grammar.specs.declared.bracket.Bracket.TheVariants as bracket
use Rattle.actx_grammar.specs.Kinds.{kind_of, closing, binary_op, level_of, unary_op, step_op, assign_op, begins_suffix, is_star, is_name, is_open_brace}
use Rattle.actx_grammar.specs.Tokens.{Tokens, Is, next, is_on_line, is_async_word, has_operand, after_brackets, arrow_start, is_async_function, method_flow, is_static, is_shorthand}
use Rattle.actx_grammar.specs.Places.{is_place, has_plain_key}

-- ---- parts with no node in them

-- a word, reserved or not
pub data SpWord : Units → Tokens → Tokens → Type 0 where
  word-name : {t : Token} {u : Units} {b : Tokens} → t.kind ≡ k.Name u → SpWord u (t ∷ b) b
  word-reserved : {t : Token} {u : Units} {b : Tokens} → t.kind ≡ k.Reserved u → SpWord u (t ∷ b) b

-- [Name]
pub data SpName : Option Units → Tokens → Tokens → Type 0 where
  name-some : {t : Token} {u : Units} {b : Tokens} → t.kind ≡ k.Name u → SpName (Some u) (t ∷ b) b
  name-none : {b : Tokens} → is_name (next b) ≡ false → SpName None b b

-- Word | Text | Number
pub data SpLiteral : Key → Tokens → Tokens → Type 0 where
  literal-word : {u : Units} {a b : Tokens} → SpWord u a b → SpLiteral (key.Word u) a b
  literal-text : {t : Token} {u : Units} {b : Tokens} → t.kind ≡ k.Text u → SpLiteral (key.Text u) (t ∷ b) b
  literal-number : {t : Token} {n : ℤ} {b : Tokens} → t.kind ≡ k.Number n → SpLiteral (key.Number n) (t ∷ b) b

-- the end of a pattern: ["..." Name] and the closing bracket
pub data SpRestName (c : Bracket) : Option Units → Tokens → Tokens → Type 0 where
  rest_name-none : {t : Token} {b : Tokens} → Is (closing c) t → SpRestName c None (t ∷ b) b
  rest_name-some : {t u v : Token} {n : Units} {b : Tokens} → Is (kind.Sign p.Ellipsis) t → u.kind ≡ k.Name n → Is (closing c) v
      → SpRestName c (Some n) (t ∷ u ∷ v ∷ b) b

-- Block, not read: the number of tokens left behind the bracket that opens it, and behind the one that closes it
pub data SpUnread : Unread → Tokens → Tokens → Type 0 where
  unread : {t : Token} {r : Unread} {a b : Tokens} → Is (kind.Sign p.OpenBrace) t → after_brackets bracket.Curly a 0 ≡ Some b
      → r.from ≡ length a → r.to ≡ length b → SpUnread r (t ∷ a) b

-- ["async" ~] "function" ["*"], not async with "*"
pub data SpFunctionHead : Flow → Tokens → Tokens → Type 0 where
  head-plain : {t : Token} {b : Tokens} → Is (kind.Word word.Function) t → is_star (next b) ≡ false → SpFunctionHead flow.Plain (t ∷ b) b
  head-generator : {t u : Token} {b : Tokens} → Is (kind.Word word.Function) t → Is (kind.Sign p.Star) u → SpFunctionHead flow.Generator (t ∷ u ∷ b) b
  head-async : {t u : Token} {b : Tokens} → is_async_function (t ∷ u ∷ b) ≡ true → SpFunctionHead flow.Async (t ∷ u ∷ b) b

-- ["async" ~ | "*"] before the key of a method; `async` right before `(` is the key
pub data SpMethodHead : Flow → Tokens → Tokens → Type 0 where
  method_head-plain : {b : Tokens} → method_flow b ≡ flow.Plain → SpMethodHead flow.Plain b b
  method_head-generator : {t : Token} {b : Tokens} → method_flow (t ∷ b) ≡ flow.Generator → SpMethodHead flow.Generator (t ∷ b) b
  method_head-async : {t : Token} {b : Tokens} → method_flow (t ∷ b) ≡ flow.Async → SpMethodHead flow.Async (t ∷ b) b

mutual
  -- ---- patterns (§14.3.3, §15.1)

  -- Target = Name | ObjPat | ArrPat
  pub data SpTarget : Target → ℕ → Tokens → Tokens → Type 0 where
    target-name : {t : Token} {n : Units} {b : Tokens} → t.kind ≡ k.Name n → SpTarget (target.Name n) 0 (t ∷ b) b
    target-object : {t : Token} {x : Prop} {xs : List Prop} {r : Option Units} {h : ℕ} {a m b : Tokens} → Is (kind.Sign p.OpenBrace) t
        → SpProps (x ∷ xs) h a m → SpRestName bracket.Curly r m b → SpTarget (target.Object (x ∷ xs) r) (suc h) (t ∷ a) b
    target-object_rest : {t : Token} {n : Units} {a b : Tokens} → Is (kind.Sign p.OpenBrace) t → SpRestName bracket.Curly (Some n) a b
        → SpTarget (target.Object [] (Some n)) 1 (t ∷ a) b
    target-array : {t : Token} {x : Elem} {xs : List Elem} {r : Option Units} {h : ℕ} {a m b : Tokens} → Is (kind.Sign p.OpenBracket) t
        → SpElems bracket.Square (x ∷ xs) h a m → SpRestName bracket.Square r m b → SpTarget (target.Array (x ∷ xs) r) (suc h) (t ∷ a) b
    target-array_rest : {t : Token} {n : Units} {a b : Tokens} → Is (kind.Sign p.OpenBracket) t → SpRestName bracket.Square (Some n) a b
        → SpTarget (target.Array [] (Some n)) 1 (t ∷ a) b

  -- Prop ("," Prop)* [","], or nothing, before the end of the pattern
  pub data SpProps : List Prop → ℕ → Tokens → Tokens → Type 0 where
    props-none : {b : Tokens} → SpProps [] 0 b b
    props-last : {x : Prop} {h : ℕ} {a b : Tokens} → SpProp x h a b → next b ≡ closing bracket.Curly → SpProps (x ∷ []) h a b
    props-more : {t : Token} {x : Prop} {xs : List Prop} {h i : ℕ} {a m b : Tokens} → SpProp x h a (t ∷ m) → Is (kind.Sign p.Comma) t
        → SpProps xs i m b → SpProps (x ∷ xs) (max h i) a b

  -- Prop = Name ["=" Assign] | (Word | Text | Number) ":" Elem
  pub data SpProp : Prop → ℕ → Tokens → Tokens → Type 0 where
    prop-name : {t : Token} {n : Units} {d : Option Expr} {h : ℕ} {a b : Tokens} → t.kind ≡ k.Name n → SpDefault d h a b
        → SpProp (prop.Shorthand n d) h (t ∷ a) b
    prop-pair : {t : Token} {w : Key} {x : Elem} {h : ℕ} {a m b : Tokens} → SpLiteral w a (t ∷ m) → Is (kind.Sign p.Colon) t → SpElem x h m b
        → SpProp (prop.Pair w x) h a b

  -- Elem ("," Elem)* [","], or nothing, before the end of a pattern or of parameters
  pub data SpElems : Bracket → List Elem → ℕ → Tokens → Tokens → Type 0 where
    elems-none : {c : Bracket} {b : Tokens} → SpElems c [] 0 b b
    elems-last : {c : Bracket} {x : Elem} {h : ℕ} {a b : Tokens} → SpElem x h a b → next b ≡ closing c → SpElems c (x ∷ []) h a b
    elems-more : {c : Bracket} {t : Token} {x : Elem} {xs : List Elem} {h i : ℕ} {a m b : Tokens} → SpElem x h a (t ∷ m) → Is (kind.Sign p.Comma) t
        → SpElems c xs i m b → SpElems c (x ∷ xs) (max h i) a b

  -- Elem = Target ["=" Assign]
  pub data SpElem : Elem → ℕ → Tokens → Tokens → Type 0 where
    elem : {x : Target} {d : Option Expr} {h i : ℕ} {a m b : Tokens} → SpTarget x h a m → SpDefault d i m b → SpElem (elem_of x d) (max h i) a b

  -- ["=" Assign]
  pub data SpDefault : Option Expr → ℕ → Tokens → Tokens → Type 0 where
    default-none : {b : Tokens} → SpDefault None 0 b b
    default-some : {t : Token} {x : Expr} {h : ℕ} {a b : Tokens} → Is (kind.Sign p.Assign) t → SpAssign x h a b → SpDefault (Some x) h (t ∷ a) b

  -- Params = "(" [Elem ("," Elem)* ["," ["..." Target]]] ")" | "(" "..." Target ")"
  pub data SpParams : Params → ℕ → Tokens → Tokens → Type 0 where
    params : {t : Token} {xs : List Elem} {r : Option Target} {h i : ℕ} {a m b : Tokens} → Is (kind.Sign p.OpenParenthesis) t
        → SpElems bracket.Round xs h a m → SpRestTarget r i m b → SpParams (params_of xs r) (max h i) (t ∷ a) b

  -- the end of parameters: ["..." Target] ")"
  pub data SpRestTarget : Option Target → ℕ → Tokens → Tokens → Type 0 where
    rest-none : {t : Token} {b : Tokens} → Is (kind.Sign p.CloseParenthesis) t → SpRestTarget None 0 (t ∷ b) b
    rest-some : {t u : Token} {x : Target} {h : ℕ} {a b : Tokens} → Is (kind.Sign p.Ellipsis) t → SpTarget x h a (u ∷ b)
        → Is (kind.Sign p.CloseParenthesis) u → SpRestTarget (Some x) h (t ∷ a) b

  -- ---- functions, methods, classes (§15.2 to §15.8)

  -- Function = ["async" ~] "function" ["*"] [Name] Params Block
  pub data SpFunction : Function → ℕ → Tokens → Tokens → Type 0 where
    function : {f : Flow} {n : Option Units} {ps : Params} {r : Unread} {h : ℕ} {a m q s b : Tokens} → SpFunctionHead f a m → SpName n m q
        → SpParams ps h q s → SpUnread r s b → SpFunction (function_of f n ps r) (suc h) a b

  -- Method = ["async" ~ | "*"] Key Params Block
  pub data SpMethod : Method → ℕ → Tokens → Tokens → Type 0 where
    method : {f : Flow} {w : Key} {ps : Params} {r : Unread} {h i : ℕ} {a m q s b : Tokens} → SpMethodHead f a m → SpKey w h m q
        → SpParams ps i q s → SpUnread r s b → SpMethod (method_of f w ps r) (suc (max h i)) a b

  -- Class = "class" [Name] ["extends" Left] "{" (["static"] Method | ";")* "}"
  pub data SpClass : Class → ℕ → Tokens → Tokens → Type 0 where
    class-base : {t u v : Token} {n : Option Units} {xs : List Member} {h : ℕ} {a m b : Tokens} → Is (kind.Word word.Class) t → SpName n a (u ∷ m)
        → Is (kind.Sign p.OpenBrace) u → SpMembers xs h m (v ∷ b) → Is (kind.Sign p.CloseBrace) v
        → SpClass (class_of n None xs) (suc h) (t ∷ a) b
    class-derived : {t s u v : Token} {n : Option Units} {x : Expr} {xs : List Member} {h i : ℕ} {a m q b : Tokens} → Is (kind.Word word.Class) t
        → SpName n a (s ∷ m) → Is (kind.Word word.Extends) s → SpLeft x h m (u ∷ q) → Is (kind.Sign p.OpenBrace) u
        → SpMembers xs i q (v ∷ b) → Is (kind.Sign p.CloseBrace) v → SpClass (class_of n (Some x) xs) (suc (max h i)) (t ∷ a) b

  -- (["static"] Method | ";")*
  pub data SpMembers : List Member → ℕ → Tokens → Tokens → Type 0 where
    members-none : {b : Tokens} → SpMembers [] 0 b b
    members-semicolon : {t : Token} {xs : List Member} {h : ℕ} {a b : Tokens} → Is (kind.Sign p.Semicolon) t → SpMembers xs h a b
        → SpMembers xs h (t ∷ a) b
    members-more : {x : Member} {xs : List Member} {h i : ℕ} {a m b : Tokens} → SpMember x h a m → SpMembers xs i m b
        → SpMembers (x ∷ xs) (max h i) a b

  -- ["static"] Method, whose key is a Word or a Text; `static` right before `(` is the key
  pub data SpMember : Member → ℕ → Tokens → Tokens → Type 0 where
    member-static : {t : Token} {x : Method} {h : ℕ} {a b : Tokens} → is_static (t ∷ a) ≡ true → SpMethod x h a b → has_plain_key x ≡ true
        → SpMember (member_of true x) h (t ∷ a) b
    member-plain : {x : Method} {h : ℕ} {a b : Tokens} → is_static a ≡ false → SpMethod x h a b → has_plain_key x ≡ true
        → SpMember (member_of false x) h a b

  -- ---- expressions

  -- Expr = Assign ("," Assign)* (§13.16)
  pub data SpExpr : Expr → ℕ → Tokens → Tokens → Type 0 where
    expr-one : {x : Expr} {h : ℕ} {a b : Tokens} → SpAssign x h a b → SpExpr x h a b
    expr-comma : {x y : Expr} {ys : List Expr} {h i : ℕ} {a m b : Tokens} → SpAssign x h a m → SpCommas (y ∷ ys) i m b
        → SpExpr (e.Comma x (y ∷ ys)) (suc (max h i)) a b

  -- ("," Assign)*
  pub data SpCommas : List Expr → ℕ → Tokens → Tokens → Type 0 where
    commas-none : {b : Tokens} → SpCommas [] 0 b b
    commas-more : {t : Token} {x : Expr} {xs : List Expr} {h i : ℕ} {a m b : Tokens} → Is (kind.Sign p.Comma) t → SpAssign x h a m
        → SpCommas xs i m b → SpCommas (x ∷ xs) (max h i) (t ∷ a) b

  -- Assign = Arrow | "yield" [~ Assign] | Place AsgOp Assign | Cond (§13.15, §15.3, §15.5, §15.8).
  -- A `(` that begins one opens Params exactly where `=>` follows the bracket that closes it; after `async` likewise.
  -- A `yield` has an operand where the next token, on its line, begins an Assign.
  -- An arrow whose body begins with `{` has a Block.
  pub data SpAssign : Expr → ℕ → Tokens → Tokens → Type 0 where
    assign-cond : {x : Expr} {h : ℕ} {a b : Tokens} → arrow_start a ≡ None → SpCond x h a b → SpAssign x h a b
    assign-place : {t : Token} {op : AssignOp} {x y : Expr} {h i : ℕ} {a m b : Tokens} → arrow_start a ≡ None → SpLeft x h a (t ∷ m)
        → is_place x ≡ true → assign_op (kind_of t.kind) ≡ Some op → SpAssign y i m b → SpAssign (e.Assign x op y) (suc (max h i)) a b
    assign-yield : {t : Token} {b : Tokens} → Is (kind.Word word.Yield) t → has_operand b ≡ false → SpAssign (e.Yield None) 1 (t ∷ b) b
    assign-yield_of : {t : Token} {x : Expr} {h : ℕ} {a b : Tokens} → Is (kind.Word word.Yield) t → has_operand a ≡ true → SpAssign x h a b
        → SpAssign (e.Yield (Some x)) (suc h) (t ∷ a) b
    assign-arrow : {t : Token} {async : Bool} {ps : Params} {y : Expr} {h i : ℕ} {a m b : Tokens} → arrow_start a ≡ Some async
        → SpArrowHead async ps h a (t ∷ m) → Is (kind.Sign p.Arrow) t → t.first ≡ false → is_open_brace (next m) ≡ false → SpAssign y i m b
        → SpAssign (e.Arrow async ps y) (suc (max h i)) a b
    assign-arrow_block : {t : Token} {async : Bool} {ps : Params} {r : Unread} {h : ℕ} {a m b : Tokens} → arrow_start a ≡ Some async
        → SpArrowHead async ps h a (t ∷ m) → Is (kind.Sign p.Arrow) t → t.first ≡ false → SpUnread r m b
        → SpAssign (e.ArrowBlock async ps r) (suc h) a b

  -- ["async" ~] (Name | Params) of an arrow function
  pub data SpArrowHead : Bool → Params → ℕ → Tokens → Tokens → Type 0 where
    arrow_head-plain : {ps : Params} {h : ℕ} {a b : Tokens} → SpArrowParams ps h a b → SpArrowHead false ps h a b
    arrow_head-async : {t : Token} {ps : Params} {h : ℕ} {a b : Tokens} → is_async_word t.kind ≡ true → is_on_line a ≡ true → SpArrowParams ps h a b
        → SpArrowHead true ps h (t ∷ a) b

  -- Name | Params
  pub data SpArrowParams : Params → ℕ → Tokens → Tokens → Type 0 where
    arrow_params-name : {t : Token} {n : Units} {b : Tokens} → t.kind ≡ k.Name n
        → SpArrowParams (params_of (elem_of (target.Name n) None ∷ []) None) 0 (t ∷ b) b
    arrow_params-list : {ps : Params} {h : ℕ} {a b : Tokens} → SpParams ps h a b → SpArrowParams ps h a b

  -- Cond = (Or | Eq ("??" Eq)+) ["?" Assign ":" Assign] (§13.14)
  pub data SpCond : Expr → ℕ → Tokens → Tokens → Type 0 where
    cond-one : {x : Expr} {h : ℕ} {a b : Tokens} → SpShort x h a b → SpCond x h a b
    cond-test : {t u : Token} {x y z : Expr} {h i j : ℕ} {a m n b : Tokens} → SpShort x h a (t ∷ m) → Is (kind.Sign p.Question) t
        → SpAssign y i m (u ∷ n) → Is (kind.Sign p.Colon) u → SpAssign z j n b → SpCond (e.Conditional x y z) (suc (max h (max i j))) a b

  -- Or | Eq ("??" Eq)+ (§13.13)
  pub data SpShort : Expr → ℕ → Tokens → Tokens → Type 0 where
    short-or : {x : Expr} {h : ℕ} {a b : Tokens} → SpLevel 6 x h a b → SpShort x h a b
    short-coalesce : {x : Expr} {y : Operand} {ys : List Operand} {h i : ℕ} {a m b : Tokens} → SpLevel 4 x h a m → SpOperands 7 4 (y ∷ ys) i m b
        → SpShort (e.Chain x (y ∷ ys)) (suc (max h i)) a b

  -- Or (level 6) = And ("||" And)*, And (5) = Eq ("&&" Eq)*, Eq (4), Rel (3), Sum (2), Prod (1) = Unary (("*"|"/"|"%") Unary)*,
  -- Unary (0) (§13.6 to §13.13)
  pub data SpLevel : ℕ → Expr → ℕ → Tokens → Tokens → Type 0 where
    level-unary : {x : Expr} {h : ℕ} {a b : Tokens} → SpUnary x h a b → SpLevel 0 x h a b
    level-one : {l : ℕ} {x : Expr} {h : ℕ} {a b : Tokens} → SpLevel l x h a b → SpLevel (suc l) x h a b
    level-chain : {l : ℕ} {x : Expr} {y : Operand} {ys : List Operand} {h i : ℕ} {a m b : Tokens} → SpLevel l x h a m
        → SpOperands (suc l) l (y ∷ ys) i m b → SpLevel (suc l) (e.Chain x (y ∷ ys)) (suc (max h i)) a b

  -- operators of the level own, each with an operand of the level inner
  pub data SpOperands : ℕ → ℕ → List Operand → ℕ → Tokens → Tokens → Type 0 where
    operands-none : {own inner : ℕ} {b : Tokens} → SpOperands own inner [] 0 b b
    operands-more : {own inner : ℕ} {t : Token} {op : BinaryOp} {x : Expr} {xs : List Operand} {h i : ℕ} {a m b : Tokens}
        → binary_op (kind_of t.kind) ≡ Some op → level_of op ≡ own → SpLevel inner x h a m → SpOperands own inner xs i m b
        → SpOperands own inner (operand_of op x ∷ xs) (max h i) (t ∷ a) b

  -- Unary = ("!"|"-"|"+"|"typeof"|"void"|"delete"|"await") Unary | ("++"|"--") Place | Place ~ ("++"|"--") | Left (§13.4, §13.5)
  pub data SpUnary : Expr → ℕ → Tokens → Tokens → Type 0 where
    unary-op : {t : Token} {op : UnaryOp} {x : Expr} {h : ℕ} {a b : Tokens} → unary_op (kind_of t.kind) ≡ Some op → SpUnary x h a b
        → SpUnary (e.Unary op x) (suc h) (t ∷ a) b
    unary-before : {t : Token} {op : StepOp} {x : Expr} {h : ℕ} {a b : Tokens} → step_op (kind_of t.kind) ≡ Some op → SpLeft x h a b → is_place x ≡ true
        → SpUnary (e.StepBefore op x) (suc h) (t ∷ a) b
    unary-after : {t : Token} {op : StepOp} {x : Expr} {h : ℕ} {a b : Tokens} → SpLeft x h a (t ∷ b) → is_place x ≡ true
        → step_op (kind_of t.kind) ≡ Some op → t.first ≡ false → SpUnary (e.StepAfter x op) (suc h) a b
    unary-left : {x : Expr} {h : ℕ} {a b : Tokens} → SpLeft x h a b → SpUnary x h a b

  -- Left = (Primary | New) Suffix* (§13.3)
  pub data SpLeft : Expr → ℕ → Tokens → Tokens → Type 0 where
    left-made : {x : Expr} {h : ℕ} {a b : Tokens} → SpMade x h a b → SpLeft x h a b
    left-suffixes : {x : Expr} {y : Suffix} {ys : List Suffix} {h i : ℕ} {a m b : Tokens} → SpMade x h a m → SpSuffixes (y ∷ ys) i m b
        → SpLeft (e.Left x (y ∷ ys)) (suc (max h i)) a b

  -- Primary, or New = "new" (Primary | New) ("." Word | "[" Expr "]")* [Args] (§13.3.5).
  -- A `new` takes every member behind what it makes, and then the Args that follow at once; one without isn't followed by `?.`.
  pub data SpMade : Expr → ℕ → Tokens → Tokens → Type 0 where
    made-primary : {x : Expr} {h : ℕ} {a b : Tokens} → SpPrimary x h a b → SpMade x h a b
    made-new : {t : Token} {x : Expr} {xs : List Suffix} {zs : List Argument} {h i j : ℕ} {a m n b : Tokens} → Is (kind.Word word.New) t
        → SpMade x h a m → SpMemberSuffixes xs i m n → SpArgs zs j n b → SpMade (e.New x xs (Some zs)) (suc (max (max h i) j)) (t ∷ a) b
    made-new_bare : {t : Token} {x : Expr} {xs : List Suffix} {h i : ℕ} {a m b : Tokens} → Is (kind.Word word.New) t → SpMade x h a m
        → SpMemberSuffixes xs i m b → begins_suffix (next b) ≡ false → SpMade (e.New x xs None) (suc (max h i)) (t ∷ a) b

  -- Suffix*
  pub data SpSuffixes : List Suffix → ℕ → Tokens → Tokens → Type 0 where
    suffixes-none : {b : Tokens} → SpSuffixes [] 0 b b
    suffixes-more : {x : Suffix} {xs : List Suffix} {h i : ℕ} {a m b : Tokens} → SpSuffix x h a m → SpSuffixes xs i m b
        → SpSuffixes (x ∷ xs) (max h i) a b

  -- ("." Word | "[" Expr "]")*
  pub data SpMemberSuffixes : List Suffix → ℕ → Tokens → Tokens → Type 0 where
    member_suffixes-none : {b : Tokens} → SpMemberSuffixes [] 0 b b
    member_suffixes-more : {x : Suffix} {xs : List Suffix} {h i : ℕ} {a m b : Tokens} → SpMemberSuffix x h a m → SpMemberSuffixes xs i m b
        → SpMemberSuffixes (x ∷ xs) (max h i) a b

  -- Suffix = ["?."] (Args | "[" Expr "]") | ("." | "?.") Word (§13.3.2, §13.3.6, §13.3.9)
  pub data SpSuffix : Suffix → ℕ → Tokens → Tokens → Type 0 where
    suffix-member : {x : Suffix} {h : ℕ} {a b : Tokens} → SpMemberSuffix x h a b → SpSuffix x h a b
    suffix-call : {xs : List Argument} {h : ℕ} {a b : Tokens} → SpArgs xs h a b → SpSuffix (suffix.Call false xs) h a b
    suffix-optional_name : {t : Token} {u : Units} {a b : Tokens} → Is (kind.Sign p.OptionalDot) t → SpWord u a b
        → SpSuffix (suffix.Member true u) 0 (t ∷ a) b
    suffix-optional_index : {t : Token} {x : Expr} {h : ℕ} {a b : Tokens} → Is (kind.Sign p.OptionalDot) t → SpIndex x h a b
        → SpSuffix (suffix.Index true x) h (t ∷ a) b
    suffix-optional_call : {t : Token} {xs : List Argument} {h : ℕ} {a b : Tokens} → Is (kind.Sign p.OptionalDot) t → SpArgs xs h a b
        → SpSuffix (suffix.Call true xs) h (t ∷ a) b

  -- "." Word | "[" Expr "]"
  pub data SpMemberSuffix : Suffix → ℕ → Tokens → Tokens → Type 0 where
    member_suffix-name : {t : Token} {u : Units} {a b : Tokens} → Is (kind.Sign p.Dot) t → SpWord u a b
        → SpMemberSuffix (suffix.Member false u) 0 (t ∷ a) b
    member_suffix-index : {x : Expr} {h : ℕ} {a b : Tokens} → SpIndex x h a b → SpMemberSuffix (suffix.Index false x) h a b

  -- "[" Expr "]"
  pub data SpIndex : Expr → ℕ → Tokens → Tokens → Type 0 where
    index : {t u : Token} {x : Expr} {h : ℕ} {a b : Tokens} → Is (kind.Sign p.OpenBracket) t → SpExpr x h a (u ∷ b)
        → Is (kind.Sign p.CloseBracket) u → SpIndex x h (t ∷ a) b

  -- Args = "(" [["..."] Assign ("," ["..."] Assign)* [","]] ")" (§13.3.6)
  pub data SpArgs : List Argument → ℕ → Tokens → Tokens → Type 0 where
    args : {t u : Token} {xs : List Argument} {h : ℕ} {a b : Tokens} → Is (kind.Sign p.OpenParenthesis) t
        → SpArguments bracket.Round xs h a (u ∷ b) → Is (kind.Sign p.CloseParenthesis) u → SpArgs xs h (t ∷ a) b

  -- [["..."] Assign ("," ["..."] Assign)* [","]] before a closing bracket
  pub data SpArguments : Bracket → List Argument → ℕ → Tokens → Tokens → Type 0 where
    arguments-none : {c : Bracket} {b : Tokens} → SpArguments c [] 0 b b
    arguments-last : {c : Bracket} {x : Argument} {h : ℕ} {a b : Tokens} → SpArgument x h a b → next b ≡ closing c → SpArguments c (x ∷ []) h a b
    arguments-more : {c : Bracket} {t : Token} {x : Argument} {xs : List Argument} {h i : ℕ} {a m b : Tokens} → SpArgument x h a (t ∷ m)
        → Is (kind.Sign p.Comma) t → SpArguments c xs i m b → SpArguments c (x ∷ xs) (max h i) a b

  -- ["..."] Assign
  pub data SpArgument : Argument → ℕ → Tokens → Tokens → Type 0 where
    argument-one : {x : Expr} {h : ℕ} {a b : Tokens} → SpAssign x h a b → SpArgument (argument.One x) h a b
    argument-spread : {t : Token} {x : Expr} {h : ℕ} {a b : Tokens} → Is (kind.Sign p.Ellipsis) t → SpAssign x h a b
        → SpArgument (argument.Spread x) h (t ∷ a) b

  -- Primary (§13.2, §13.3.5, §13.3.7). `async` before `function` on its line begins a Function.
  pub data SpPrimary : Expr → ℕ → Tokens → Tokens → Type 0 where
    primary-name : {t : Token} {n : Units} {b : Tokens} → t.kind ≡ k.Name n → is_async_function (t ∷ b) ≡ false → SpPrimary (e.Name n) 1 (t ∷ b) b
    primary-number : {t : Token} {n : ℤ} {b : Tokens} → t.kind ≡ k.Number n → SpPrimary (e.Number n) 1 (t ∷ b) b
    primary-text : {t : Token} {u : Units} {b : Tokens} → t.kind ≡ k.Text u → SpPrimary (e.Text u) 1 (t ∷ b) b
    primary-true : {t : Token} {b : Tokens} → Is (kind.Word word.True) t → SpPrimary (e.Bool true) 1 (t ∷ b) b
    primary-false : {t : Token} {b : Tokens} → Is (kind.Word word.False) t → SpPrimary (e.Bool false) 1 (t ∷ b) b
    primary-null : {t : Token} {b : Tokens} → Is (kind.Word word.Null) t → SpPrimary e.Null 1 (t ∷ b) b
    primary-this : {t : Token} {b : Tokens} → Is (kind.Word word.This) t → SpPrimary e.This 1 (t ∷ b) b
    primary-template : {t : Token} {u : Units} {b : Tokens} → t.kind ≡ k.Template u true true → SpPrimary (e.Template u []) 1 (t ∷ b) b
    primary-template_of : {t : Token} {u : Units} {x : Piece} {xs : List Piece} {h : ℕ} {a b : Tokens} → t.kind ≡ k.Template u true false
        → SpPieces (x ∷ xs) h a b → SpPrimary (e.Template u (x ∷ xs)) (suc h) (t ∷ a) b
    primary-brackets : {t u : Token} {x : Expr} {h : ℕ} {a b : Tokens} → Is (kind.Sign p.OpenParenthesis) t → SpExpr x h a (u ∷ b)
        → Is (kind.Sign p.CloseParenthesis) u → SpPrimary (e.Brackets x) (suc h) (t ∷ a) b
    primary-array : {t u : Token} {xs : List Argument} {h : ℕ} {a b : Tokens} → Is (kind.Sign p.OpenBracket) t
        → SpArguments bracket.Square xs h a (u ∷ b) → Is (kind.Sign p.CloseBracket) u → SpPrimary (e.Array xs) (suc h) (t ∷ a) b
    primary-object : {t u : Token} {xs : List Entry} {h : ℕ} {a b : Tokens} → Is (kind.Sign p.OpenBrace) t → SpEntries xs h a (u ∷ b)
        → Is (kind.Sign p.CloseBrace) u → SpPrimary (e.Object xs) (suc h) (t ∷ a) b
    primary-super_call : {t : Token} {xs : List Argument} {h : ℕ} {a b : Tokens} → Is (kind.Word word.Super) t → SpArgs xs h a b
        → SpPrimary (e.SuperCall xs) (suc h) (t ∷ a) b
    primary-super_member : {t u : Token} {n : Units} {a b : Tokens} → Is (kind.Word word.Super) t → Is (kind.Sign p.Dot) u → SpWord n a b
        → SpPrimary (e.SuperMember n) 1 (t ∷ u ∷ a) b
    primary-function : {f : Function} {h : ℕ} {a b : Tokens} → SpFunction f h a b → SpPrimary (e.Function f) h a b
    primary-class : {c : Class} {h : ℕ} {a b : Tokens} → SpClass c h a b → SpPrimary (e.Class c) h a b

  -- the values of a template, each with the piece behind it; the last piece ends the template (§13.2.8)
  pub data SpPieces : List Piece → ℕ → Tokens → Tokens → Type 0 where
    pieces-last : {t : Token} {x : Expr} {u : Units} {h : ℕ} {a b : Tokens} → SpExpr x h a (t ∷ b) → t.kind ≡ k.Template u false true
        → SpPieces (piece_of x u ∷ []) h a b
    pieces-more : {t : Token} {x : Expr} {u : Units} {xs : List Piece} {h i : ℕ} {a m b : Tokens} → SpExpr x h a (t ∷ m)
        → t.kind ≡ k.Template u false false → SpPieces xs i m b → SpPieces (piece_of x u ∷ xs) (max h i) a b

  -- [Entry ("," Entry)* [","]] before `}` (§13.2.5)
  pub data SpEntries : List Entry → ℕ → Tokens → Tokens → Type 0 where
    entries-none : {b : Tokens} → SpEntries [] 0 b b
    entries-last : {x : Entry} {h : ℕ} {a b : Tokens} → SpEntry x h a b → next b ≡ closing bracket.Curly → SpEntries (x ∷ []) h a b
    entries-more : {t : Token} {x : Entry} {xs : List Entry} {h i : ℕ} {a m b : Tokens} → SpEntry x h a (t ∷ m) → Is (kind.Sign p.Comma) t
        → SpEntries xs i m b → SpEntries (x ∷ xs) (max h i) a b

  -- Entry = "..." Assign | Name | Key ":" Assign | Method
  pub data SpEntry : Entry → ℕ → Tokens → Tokens → Type 0 where
    entry-spread : {t : Token} {x : Expr} {h : ℕ} {a b : Tokens} → Is (kind.Sign p.Ellipsis) t → SpAssign x h a b
        → SpEntry (entry.Spread x) h (t ∷ a) b
    entry-name : {t : Token} {n : Units} {b : Tokens} → t.kind ≡ k.Name n → is_shorthand (t ∷ b) ≡ true → SpEntry (entry.Shorthand n) 1 (t ∷ b) b
    entry-pair : {t : Token} {w : Key} {x : Expr} {h i : ℕ} {a m b : Tokens} → is_shorthand a ≡ false → method_flow a ≡ flow.Plain
        → SpKey w h a (t ∷ m) → Is (kind.Sign p.Colon) t → SpAssign x i m b → SpEntry (entry.Pair w x) (max h i) a b
    entry-method : {x : Method} {h : ℕ} {a b : Tokens} → is_shorthand a ≡ false → SpMethod x h a b → SpEntry (entry.Method x) h a b

  -- Key = Word | Text | Number | "[" Assign "]" (§13.2.5)
  pub data SpKey : Key → ℕ → Tokens → Tokens → Type 0 where
    key-literal : {w : Key} {a b : Tokens} → SpLiteral w a b → SpKey w 0 a b
    key-computed : {t u : Token} {x : Expr} {h : ℕ} {a b : Tokens} → Is (kind.Sign p.OpenBracket) t → SpAssign x h a (u ∷ b)
        → Is (kind.Sign p.CloseBracket) u → SpKey (key.Computed x) h (t ∷ a) b
