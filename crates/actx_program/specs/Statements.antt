-- The grammar of statements, declarations and lists of them (ECMA-262 §14): one case for each line. Bodies of functions
-- are passed over, as in expressions.
--
-- `SpX x h a b` says that the tokens a are a spelling of x by the line X and then the tokens b, and that x has h levels
-- of nodes. Each statement is a node, also a Let in the head of a `for`; a block of a function, of `try`, `catch` and
-- `finally` is none of its own.
use Rattle.std.specs.Prelude.{◌≡◌, ℕ, suc, max, Bool, true, false, ◌||◌, List, [], ◌∷◌, Option, Some, None, is_some}
use Rattle.actx_text.specs.declared.units.Units.{Units}
use Rattle.actx_lex.specs.declared.token.Token.{Token}
use Rattle.actx_lex.specs.declared.token.TokenKind.TheVariants as k
use Rattle.actx_lex.specs.declared.token.Punct.TheVariants as p
use Rattle.actx_tree.specs.declared.expr.Expr.{Expr}
use Rattle.actx_tree.specs.declared.function.Function.{Function}
use Rattle.actx_tree.specs.declared.function.Class.{Class}
use Rattle.actx_tree.specs.declared.pattern.Target.{Target}
use Rattle.actx_tree.specs.declared.pattern.Target.TheVariants as target
use Rattle.actx_tree.specs.declared.pattern.Elem.{Elem}
use Rattle.actx_tree.specs.declared.stmt.Stmt.{Stmt}
use Rattle.actx_tree.specs.declared.stmt.Stmt.TheVariants as s
use Rattle.actx_tree.specs.declared.stmt.Catch.{Catch}
use Rattle.actx_tree.specs.declared.stmt.ForInit.{ForInit}
use Rattle.actx_tree.specs.declared.stmt.ForInit.TheVariants as init
use Rattle.actx_tree.specs.Parts.{elem_of, catch_of}
use Rattle.actx_grammar.specs.declared.kind.Kind.TheVariants as kind
use Rattle.actx_grammar.specs.declared.word.Word.TheVariants as word
use Rattle.actx_grammar.specs.Kinds.{is_open_parenthesis, is_semicolon}
use Rattle.actx_grammar.specs.Tokens.{Tokens, Is, next, is_on_line}
use Rattle.actx_grammar.specs.Grammar.{SpExpr, SpAssign, SpTarget, SpFunction, SpClass}
use Rattle.actx_program.specs.Ends.{SpEnd, let_word, is_else_word, is_catch_word, is_finally_word, is_of, begins_other, has_function_name, has_class_name}

-- ---- parts with no statement in them

-- Bind = Name | Target "=" Assign; after `const` the latter (§14.3.1, §14.3.3)
pub data SpBind : Bool → Elem → ℕ → Tokens → Tokens → Type 0 where
  bind-name : {t : Token} {n : Units} {b : Tokens} → t.kind ≡ k.Name n → SpBind false (elem_of (target.Name n) None) 0 (t ∷ b) b
  bind-value : {c : Bool} {t : Token} {x : Target} {y : Expr} {h i : ℕ} {a m b : Tokens} → SpTarget x h a (t ∷ m) → Is (kind.Sign p.Assign) t → SpAssign y i m b
      → SpBind c (elem_of x (Some y)) (max h i) a b

-- ("," Bind)*
pub data SpBinds : Bool → List Elem → ℕ → Tokens → Tokens → Type 0 where
  binds-none : {c : Bool} {b : Tokens} → SpBinds c [] 0 b b
  binds-more : {c : Bool} {t : Token} {x : Elem} {xs : List Elem} {h i : ℕ} {a m b : Tokens} → Is (kind.Sign p.Comma) t → SpBind c x h a m → SpBinds c xs i m b
      → SpBinds c (x ∷ xs) (max h i) (t ∷ a) b

-- Let = ("let" | "const") Bind ("," Bind)* (§14.3.1)
pub data SpLet : Bool → List Elem → ℕ → Tokens → Tokens → Type 0 where
  let_binds : {c : Bool} {t : Token} {x : Elem} {xs : List Elem} {h i : ℕ} {a m b : Tokens} → Is (let_word c) t → SpBind c x h a m → SpBinds c xs i m b
      → SpLet c (x ∷ xs) (max h i) (t ∷ a) b

-- "(" Expr ")"
pub data SpTest : Expr → ℕ → Tokens → Tokens → Type 0 where
  test : {t u : Token} {x : Expr} {h : ℕ} {a b : Tokens} → Is (kind.Sign p.OpenParenthesis) t → SpExpr x h a (u ∷ b) → Is (kind.Sign p.CloseParenthesis) u
      → SpTest x h (t ∷ a) b

-- [Expr], in the head of a `for`
pub data SpValue : Option Expr → ℕ → Tokens → Tokens → Type 0 where
  value-none : {b : Tokens} → SpValue None 0 b b
  value-some : {x : Expr} {h : ℕ} {a b : Tokens} → SpExpr x h a b → SpValue (Some x) h a b

-- [Let | Expr], in the head of a `for`
pub data SpFirst : ForInit → ℕ → Tokens → Tokens → Type 0 where
  first-nothing : {b : Tokens} → SpFirst init.Nothing 0 b b
  first-let : {c : Bool} {xs : List Elem} {h : ℕ} {a b : Tokens} → SpLet c xs h a b → SpFirst (init.Let c xs) (suc h) a b
  first-expr : {x : Expr} {h : ℕ} {a b : Tokens} → SpExpr x h a b → SpFirst (init.Expr x) h a b

-- [";"] behind a `do`: it takes one that is there
pub data SpSemicolon : Tokens → Tokens → Type 0 where
  semicolon-some : {t : Token} {b : Tokens} → Is (kind.Sign p.Semicolon) t → SpSemicolon (t ∷ b) b
  semicolon-none : {b : Tokens} → is_semicolon (next b) ≡ false → SpSemicolon b b

-- ["(" Target ")"] behind `catch`
pub data SpCaught : Option Target → ℕ → Tokens → Tokens → Type 0 where
  caught-none : {b : Tokens} → is_open_parenthesis (next b) ≡ false → SpCaught None 0 b b
  caught-some : {t u : Token} {x : Target} {h : ℕ} {a b : Tokens} → Is (kind.Sign p.OpenParenthesis) t → SpTarget x h a (u ∷ b)
      → Is (kind.Sign p.CloseParenthesis) u → SpCaught (Some x) h (t ∷ a) b

mutual
  -- Stmt
  pub data SpStmt : Stmt → ℕ → Tokens → Tokens → Type 0 where
    -- Block (§14.2)
    stmt-block : {xs : List Stmt} {h : ℕ} {a b : Tokens} → SpBlock xs h a b → SpStmt (s.Block xs) (suc h) a b
    -- ";" (§14.4)
    stmt-empty : {t : Token} {b : Tokens} → Is (kind.Sign p.Semicolon) t → SpStmt s.Empty 1 (t ∷ b) b
    -- "if" "(" Expr ")" Stmt ["else" Stmt] (§14.6)
    stmt-if : {t : Token} {x : Expr} {y : Stmt} {z : Option Stmt} {h i j : ℕ} {a m n b : Tokens} → Is (kind.Word word.If) t → SpTest x h a m → SpStmt y i m n
        → SpElse z j n b → SpStmt (s.If x y z) (suc (max h (max i j))) (t ∷ a) b
    -- "while" "(" Expr ")" Stmt (§14.7.3)
    stmt-while : {t : Token} {x : Expr} {y : Stmt} {h i : ℕ} {a m b : Tokens} → Is (kind.Word word.While) t → SpTest x h a m → SpStmt y i m b
        → SpStmt (s.While x y) (suc (max h i)) (t ∷ a) b
    -- "do" Stmt "while" "(" Expr ")" [";"] (§14.7.2)
    stmt-do : {t u : Token} {x : Expr} {y : Stmt} {h i : ℕ} {a m n b : Tokens} → Is (kind.Word word.Do) t → SpStmt y h a (u ∷ m) → Is (kind.Word word.While) u
        → SpTest x i m n → SpSemicolon n b → SpStmt (s.Do y x) (suc (max h i)) (t ∷ a) b
    -- "for" "(" [Let | Expr] ";" [Expr] ";" [Expr] ")" Stmt (§14.7.4)
    stmt-for : {t u v w o : Token} {x : ForInit} {y z : Option Expr} {e : Stmt} {h i j l : ℕ} {a m n q b : Tokens} → Is (kind.Word word.For) t
        → Is (kind.Sign p.OpenParenthesis) u → SpFirst x h a (v ∷ m) → Is (kind.Sign p.Semicolon) v → SpValue y i m (w ∷ n) → Is (kind.Sign p.Semicolon) w
        → SpValue z j n (o ∷ q) → Is (kind.Sign p.CloseParenthesis) o → SpStmt e l q b
        → SpStmt (s.For x y z e) (suc (max h (max i (max j l)))) (t ∷ u ∷ a) b
    -- "for" "(" ("let" | "const") Target "of" Assign ")" Stmt (§14.7.5)
    stmt-for_of : {c : Bool} {t u v w o : Token} {x : Target} {y : Expr} {e : Stmt} {h i j : ℕ} {a m n b : Tokens} → Is (kind.Word word.For) t
        → Is (kind.Sign p.OpenParenthesis) u → Is (let_word c) v → SpTarget x h a (w ∷ m) → is_of (w ∷ m) ≡ true → SpAssign y i m (o ∷ n)
        → Is (kind.Sign p.CloseParenthesis) o → SpStmt e j n b → SpStmt (s.ForOf c x y e) (suc (max h (max i j))) (t ∷ u ∷ v ∷ a) b
    -- "return" [~ Expr] End (§14.10)
    stmt-return : {t : Token} {a b : Tokens} → Is (kind.Word word.Return) t → SpEnd a b → SpStmt (s.Return None) 1 (t ∷ a) b
    stmt-return_of : {t : Token} {x : Expr} {h : ℕ} {a m b : Tokens} → Is (kind.Word word.Return) t → is_on_line a ≡ true → SpExpr x h a m → SpEnd m b
        → SpStmt (s.Return (Some x)) (suc h) (t ∷ a) b
    -- "throw" ~ Expr End (§14.14)
    stmt-throw : {t : Token} {x : Expr} {h : ℕ} {a m b : Tokens} → Is (kind.Word word.Throw) t → is_on_line a ≡ true → SpExpr x h a m → SpEnd m b
        → SpStmt (s.Throw x) (suc h) (t ∷ a) b
    -- "break" End (§14.9), "continue" End (§14.8)
    stmt-break : {t : Token} {a b : Tokens} → Is (kind.Word word.Break) t → SpEnd a b → SpStmt s.Break 1 (t ∷ a) b
    stmt-continue : {t : Token} {a b : Tokens} → Is (kind.Word word.Continue) t → SpEnd a b → SpStmt s.Continue 1 (t ∷ a) b
    -- "try" Block, then `catch`, `finally` or both (§14.15)
    stmt-try : {t : Token} {xs : List Stmt} {c : Option Catch} {f : Option (List Stmt)} {h i j : ℕ} {a m n b : Tokens} → Is (kind.Word word.Try) t
        → SpBlock xs h a m → SpHandler c i m n → SpFinally f j n b → (is_some c || is_some f) ≡ true
        → SpStmt (s.Try xs c f) (suc (max h (max i j))) (t ∷ a) b
    -- Expr End (§14.5)
    stmt-expr : {x : Expr} {h : ℕ} {a m b : Tokens} → begins_other a ≡ false → SpExpr x h a m → SpEnd m b → SpStmt (s.Expr x) (suc h) a b

  -- ["else" Stmt]: an `else` belongs to the nearest `if` (§14.6)
  pub data SpElse : Option Stmt → ℕ → Tokens → Tokens → Type 0 where
    else-none : {b : Tokens} → is_else_word (next b) ≡ false → SpElse None 0 b b
    else-some : {t : Token} {x : Stmt} {h : ℕ} {a b : Tokens} → Is (kind.Word word.Else) t → SpStmt x h a b → SpElse (Some x) h (t ∷ a) b

  -- ["catch" ["(" Target ")"] Block] (§14.15)
  pub data SpHandler : Option Catch → ℕ → Tokens → Tokens → Type 0 where
    handler-none : {b : Tokens} → is_catch_word (next b) ≡ false → SpHandler None 0 b b
    handler-some : {t : Token} {x : Option Target} {xs : List Stmt} {h i : ℕ} {a m b : Tokens} → Is (kind.Word word.Catch) t → SpCaught x h a m → SpBlock xs i m b
        → SpHandler (Some (catch_of x xs)) (max h i) (t ∷ a) b

  -- ["finally" Block] (§14.15)
  pub data SpFinally : Option (List Stmt) → ℕ → Tokens → Tokens → Type 0 where
    finally-none : {b : Tokens} → is_finally_word (next b) ≡ false → SpFinally None 0 b b
    finally-some : {t : Token} {xs : List Stmt} {h : ℕ} {a b : Tokens} → Is (kind.Word word.Finally) t → SpBlock xs h a b → SpFinally (Some xs) h (t ∷ a) b

  -- Block = "{" Item* "}" (§14.2)
  pub data SpBlock : List Stmt → ℕ → Tokens → Tokens → Type 0 where
    block : {t u : Token} {xs : List Stmt} {h : ℕ} {a b : Tokens} → Is (kind.Sign p.OpenBrace) t → SpItems xs h a (u ∷ b) → Is (kind.Sign p.CloseBrace) u
        → SpBlock xs h (t ∷ a) b

  -- Item*
  pub data SpItems : List Stmt → ℕ → Tokens → Tokens → Type 0 where
    items-none : {b : Tokens} → SpItems [] 0 b b
    items-more : {x : Stmt} {xs : List Stmt} {h i : ℕ} {a m b : Tokens} → SpItem x h a m → SpItems xs i m b → SpItems (x ∷ xs) (max h i) a b

  -- Item = Let End | Function | Class | Stmt; a Function or Class has its name here (§14.2, §15.2, §15.7)
  pub data SpItem : Stmt → ℕ → Tokens → Tokens → Type 0 where
    item-let : {c : Bool} {xs : List Elem} {h : ℕ} {a m b : Tokens} → SpLet c xs h a m → SpEnd m b → SpItem (s.Let c xs) (suc h) a b
    item-function : {f : Function} {h : ℕ} {a b : Tokens} → SpFunction f h a b → has_function_name f ≡ true → SpItem (s.Function f) h a b
    item-class : {c : Class} {h : ℕ} {a b : Tokens} → SpClass c h a b → has_class_name c ≡ true → SpItem (s.Class c) h a b
    item-stmt : {x : Stmt} {h : ℕ} {a b : Tokens} → SpStmt x h a b → SpItem x h a b
