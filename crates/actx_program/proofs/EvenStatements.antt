-- Items open and close their braces: where items and a closing brace stand, the search from the first of them finds
-- that brace. So it is no restriction that bodies are passed over by their braces.
use Rattle.std.proofs.Common.{◌≡◌, ◌∙◌, ℕ, suc, Bool, true, false, List, ◌∷◌, Option, Some, refl, ap}
use Rattle.actx_lex.specs.declared.token.Token.{Token}
use Rattle.actx_lex.specs.declared.token.TokenKind.{TokenKind}
use Rattle.actx_lex.specs.declared.token.TokenKind.TheVariants as k
use Rattle.actx_tree.specs.declared.expr.Expr.{Expr}
use Rattle.actx_tree.specs.declared.pattern.Target.{Target}
use Rattle.actx_tree.specs.declared.pattern.Elem.{Elem}
use Rattle.actx_tree.specs.declared.stmt.Stmt.{Stmt}
use Rattle.actx_tree.specs.declared.stmt.Catch.{Catch}
use Rattle.actx_tree.specs.declared.stmt.ForInit.{ForInit}
use Rattle.actx_grammar.specs.declared.kind.Kind.TheVariants as kind
use Rattle.actx_grammar.specs.declared.bracket.Bracket.TheVariants as bracket
use Rattle.actx_grammar.specs.Kinds.{kind_of}
use Rattle.actx_grammar.specs.Tokens.{Tokens, Is, after_brackets, open_after}
use Rattle.actx_grammar.specs.Grammar.{unread}
use Rattle.actx_program.specs.Ends.{SpEnd, end-semicolon, end-nothing, let_word, is_of, is_of_word}
use Rattle.actx_program.specs.Statements.{SpBind, bind-name, bind-value, SpBinds, binds-none, binds-more, SpLet, let_binds, SpTest, test, SpValue, value-none, value-some, SpFirst, first-nothing, first-let, first-expr, SpSemicolon, semicolon-some, semicolon-none, SpCaught, caught-none, caught-some, SpStmt, stmt-block, stmt-empty, stmt-if, stmt-while, stmt-do, stmt-for, stmt-for_of, stmt-return, stmt-return_of, stmt-throw, stmt-break, stmt-continue, stmt-try, stmt-expr, SpElse, else-none, else-some, SpHandler, handler-none, handler-some, SpFinally, finally-none, finally-some, SpBlock, block, SpItems, items-none, items-more, SpItem, item-let, item-function, item-class, item-stmt}
use Rattle.actx_program.specs.Laws.{OneBlock, BlocksUnread}
use Rattle.actx_program.proofs.EvenExpressions.{pass, opens, shuts, found, even-target, even-expr, even-assign, even-function, even-class}

-- ---- one token

let_even : (c : Bool) (n : ℕ) → open_after bracket.Curly (let_word c) n ≡ Some n
let_even true n = refl
let_even false n = refl

of_word_kind : (sort : TokenKind) → is_of_word sort ≡ true → kind_of sort ≡ kind.Name
of_word_kind (k.Name u) e = refl
of_word_kind _ e = Prim.absurd (cc)

of_kind : (t : Token) (ts : Tokens) → is_of (t ∷ ts) ≡ true → Is kind.Name t
unfolding is_of
of_kind t ts e = of_word_kind t.kind e

even-end : {a b : Tokens} → SpEnd a b → (n : ℕ) → after_brackets bracket.Curly a n ≡ after_brackets bracket.Curly b n
even-end (end-semicolon e) n = pass _ _ n e refl
even-end (end-nothing e) n = refl

even-semicolon : {a b : Tokens} → SpSemicolon a b → (n : ℕ) → after_brackets bracket.Curly a n ≡ after_brackets bracket.Curly b n
even-semicolon (semicolon-some e) n = pass _ _ n e refl
even-semicolon (semicolon-none e) n = refl

-- ---- the lines of the grammar

pub even-bind : {i0 : Bool} {i1 : Elem} {i2 : ℕ} {a b : Tokens} → SpBind i0 i1 i2 a b → (n : ℕ) → after_brackets bracket.Curly a n ≡ after_brackets bracket.Curly b n
even-bind (bind-name p0) n = pass _ _ n (ap kind_of p0) refl
even-bind (bind-value p0 p1 p2) n = even-target p0 n ∙ pass _ _ n p1 refl ∙ even-assign p2 n

pub even-binds : {i0 : Bool} {i1 : List Elem} {i2 : ℕ} {a b : Tokens} → SpBinds i0 i1 i2 a b → (n : ℕ) → after_brackets bracket.Curly a n ≡ after_brackets bracket.Curly b n
even-binds binds-none n = refl
even-binds (binds-more p0 p1 p2) n = pass _ _ n p0 refl ∙ even-bind p1 n ∙ even-binds p2 n

pub even-let : {i0 : Bool} {i1 : List Elem} {i2 : ℕ} {a b : Tokens} → SpLet i0 i1 i2 a b → (n : ℕ) → after_brackets bracket.Curly a n ≡ after_brackets bracket.Curly b n
even-let (let_binds {c = c} p0 p1 p2) n = pass _ _ n p0 (let_even c n) ∙ even-bind p1 n ∙ even-binds p2 n

pub even-test : {i0 : Expr} {i1 : ℕ} {a b : Tokens} → SpTest i0 i1 a b → (n : ℕ) → after_brackets bracket.Curly a n ≡ after_brackets bracket.Curly b n
even-test (test p0 p1 p2) n = pass _ _ n p0 refl ∙ even-expr p1 n ∙ pass _ _ n p2 refl

pub even-value : {i0 : Option Expr} {i1 : ℕ} {a b : Tokens} → SpValue i0 i1 a b → (n : ℕ) → after_brackets bracket.Curly a n ≡ after_brackets bracket.Curly b n
even-value value-none n = refl
even-value (value-some p0) n = even-expr p0 n

pub even-first : {i0 : ForInit} {i1 : ℕ} {a b : Tokens} → SpFirst i0 i1 a b → (n : ℕ) → after_brackets bracket.Curly a n ≡ after_brackets bracket.Curly b n
even-first first-nothing n = refl
even-first (first-let p0) n = even-let p0 n
even-first (first-expr p0) n = even-expr p0 n

pub even-caught : {i0 : Option Target} {i1 : ℕ} {a b : Tokens} → SpCaught i0 i1 a b → (n : ℕ) → after_brackets bracket.Curly a n ≡ after_brackets bracket.Curly b n
even-caught (caught-none p0) n = refl
even-caught (caught-some p0 p1 p2) n = pass _ _ n p0 refl ∙ even-target p1 n ∙ pass _ _ n p2 refl

mutual
  pub even-stmt : {i0 : Stmt} {i1 : ℕ} {a b : Tokens} → SpStmt i0 i1 a b → (n : ℕ) → after_brackets bracket.Curly a n ≡ after_brackets bracket.Curly b n
  even-stmt (stmt-block p0) n = even-block p0 n
  even-stmt (stmt-empty p0) n = pass _ _ n p0 refl
  even-stmt (stmt-if p0 p1 p2 p3) n = pass _ _ n p0 refl ∙ even-test p1 n ∙ even-stmt p2 n ∙ even-else p3 n
  even-stmt (stmt-while p0 p1 p2) n = pass _ _ n p0 refl ∙ even-test p1 n ∙ even-stmt p2 n
  even-stmt (stmt-do p0 p1 p2 p3 p4) n = pass _ _ n p0 refl ∙ even-stmt p1 n ∙ pass _ _ n p2 refl ∙ even-test p3 n ∙ even-semicolon p4 n
  even-stmt (stmt-for p0 p1 p2 p3 p4 p5 p6 p7 p8) n = pass _ _ n p0 refl ∙ pass _ _ n p1 refl ∙ even-first p2 n ∙ pass _ _ n p3 refl ∙ even-value p4 n ∙ pass _ _ n p5 refl ∙ even-value p6 n ∙ pass _ _ n p7 refl ∙ even-stmt p8 n
  even-stmt (stmt-for_of {c = c} p0 p1 p2 p3 p4 p5 p6 p7) n = pass _ _ n p0 refl ∙ pass _ _ n p1 refl ∙ pass _ _ n p2 (let_even c n) ∙ even-target p3 n ∙ pass _ _ n (of_kind _ _ p4) refl ∙ even-assign p5 n ∙ pass _ _ n p6 refl ∙ even-stmt p7 n
  even-stmt (stmt-return p0 p1) n = pass _ _ n p0 refl ∙ even-end p1 n
  even-stmt (stmt-return_of p0 p1 p2 p3) n = pass _ _ n p0 refl ∙ even-expr p2 n ∙ even-end p3 n
  even-stmt (stmt-throw p0 p1 p2 p3) n = pass _ _ n p0 refl ∙ even-expr p2 n ∙ even-end p3 n
  even-stmt (stmt-break p0 p1) n = pass _ _ n p0 refl ∙ even-end p1 n
  even-stmt (stmt-continue p0 p1) n = pass _ _ n p0 refl ∙ even-end p1 n
  even-stmt (stmt-try p0 p1 p2 p3 p4) n = pass _ _ n p0 refl ∙ even-block p1 n ∙ even-handler p2 n ∙ even-finally p3 n
  even-stmt (stmt-expr p0 p1 p2) n = even-expr p1 n ∙ even-end p2 n

  pub even-else : {i0 : Option Stmt} {i1 : ℕ} {a b : Tokens} → SpElse i0 i1 a b → (n : ℕ) → after_brackets bracket.Curly a n ≡ after_brackets bracket.Curly b n
  even-else (else-none p0) n = refl
  even-else (else-some p0 p1) n = pass _ _ n p0 refl ∙ even-stmt p1 n

  pub even-handler : {i0 : Option Catch} {i1 : ℕ} {a b : Tokens} → SpHandler i0 i1 a b → (n : ℕ) → after_brackets bracket.Curly a n ≡ after_brackets bracket.Curly b n
  even-handler (handler-none p0) n = refl
  even-handler (handler-some p0 p1 p2) n = pass _ _ n p0 refl ∙ even-caught p1 n ∙ even-block p2 n

  pub even-finally : {i0 : Option (List Stmt)} {i1 : ℕ} {a b : Tokens} → SpFinally i0 i1 a b → (n : ℕ) → after_brackets bracket.Curly a n ≡ after_brackets bracket.Curly b n
  even-finally (finally-none p0) n = refl
  even-finally (finally-some p0 p1) n = pass _ _ n p0 refl ∙ even-block p1 n

  pub even-block : {i0 : List Stmt} {i1 : ℕ} {a b : Tokens} → SpBlock i0 i1 a b → (n : ℕ) → after_brackets bracket.Curly a n ≡ after_brackets bracket.Curly b n
  even-block (block p0 p1 p2) n = opens _ _ n p0 ∙ even-items p1 (suc n) ∙ shuts _ _ n p2

  pub even-items : {i0 : List Stmt} {i1 : ℕ} {a b : Tokens} → SpItems i0 i1 a b → (n : ℕ) → after_brackets bracket.Curly a n ≡ after_brackets bracket.Curly b n
  even-items items-none n = refl
  even-items (items-more p0 p1) n = even-item p0 n ∙ even-items p1 n

  pub even-item : {i0 : Stmt} {i1 : ℕ} {a b : Tokens} → SpItem i0 i1 a b → (n : ℕ) → after_brackets bracket.Curly a n ≡ after_brackets bracket.Curly b n
  even-item (item-let p0 p1) n = even-let p0 n ∙ even-end p1 n
  even-item (item-function p0 p1) n = even-function p0 n
  even-item (item-class p0 p1) n = even-class p0 n
  even-item (item-stmt p0) n = even-stmt p0 n

-- ---- blocks

pub one_block : OneBlock
one_block xs h u m b d e = even-items d 0 ∙ found u b e

pub blocks_unread : BlocksUnread
blocks_unread r xs h t u m b e d f q s = unread e (one_block xs h u m b d f) q s
