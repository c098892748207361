-- Statements and lists of them: what is spelled is read, or has too many levels.
use Rattle.std.proofs.Common.{◌≡◌, ◌∙◌, ℕ, suc, ◌<◌, ◌≤◌, max, Bool, true, false, ◌&&◌, ◌||◌, if◌then◌else◌, List, [], ◌∷◌, length, Option, None, is_some, Ok, refl, sym, ap, arith}
use Rattle.actx_lex.specs.declared.token.Token.{Token}
use Rattle.actx_lex.specs.declared.token.TokenKind.{TokenKind}
use Rattle.actx_lex.specs.declared.token.TokenKind.TheVariants as k
use Rattle.actx_lex.specs.declared.token.Punct.TheVariants as p
use Rattle.actx_tree.specs.declared.expr.Expr.{Expr}
use Rattle.actx_tree.specs.declared.expr.Expr.{the_lemmas}
use Rattle.actx_tree.specs.declared.pattern.Target.{Target}
use Rattle.actx_tree.specs.declared.pattern.Target.TheVariants as target
use Rattle.actx_tree.specs.declared.pattern.Elem.{Elem}
use Rattle.actx_tree.specs.declared.function.Function.{Function}
use Rattle.actx_tree.specs.declared.function.Class.{Class}
use Rattle.actx_tree.specs.declared.stmt.Stmt.{Stmt}
use Rattle.actx_tree.specs.declared.stmt.Stmt.TheVariants as s
use Rattle.actx_tree.specs.declared.stmt.Catch.{Catch}
use Rattle.actx_tree.specs.declared.stmt.ForInit.{ForInit}
use Rattle.actx_grammar.specs.declared.kind.Kind.{Kind}
use Rattle.actx_grammar.specs.declared.kind.Kind.TheVariants as kind
use Rattle.actx_grammar.specs.declared.word.Word.TheVariants as word
use Rattle.actx_grammar.specs.declared.bracket.Bracket.TheVariants as bracket
use Rattle.actx_grammar.specs.Kinds.{kind_of, closes, assign_op, begins_assign, is_comma, is_semicolon, is_equals, is_open_parenthesis, is_open_brace}
use Rattle.actx_grammar.specs.Tokens.{Tokens, Is, next, behind, is_on_line, has_operand}
use Rattle.actx_grammar.specs.Reader.{Outcome, Parser, Inner, and_then, count, fits}
use Rattle.actx_grammar.specs.Lines.{goes_on_comma}
use Rattle.actx_grammar.specs.Grammar.{SpExpr, SpAssign, SpTarget, target-name, SpFunction, SpClass}
use Rattle.actx_grammar.proofs.Past.{shorter}
use Rattle.actx_grammar.proofs.Following.{after, after_is, no_assign, no_comma}
use Rattle.actx_grammar.proofs.Gets.{Gets, got, deep, along, yes, no, take, seq, node, done, fitting, next_of, skipped, expected, closed, Run, run-none, run-more, many_gets}
use Rattle.actx_grammar.proofs.Completes.{Completes}
use Rattle.actx_grammar.proofs.GetPatterns.{get-function, get-class}
use Rattle.actx_program.specs.Ends.{SpEnd, let_word, is_else_word, is_while_word, is_catch_word, is_finally_word, is_of, is_of_word, begins_function, begins_other, has_function_name, has_class_name, is_name_target}
use Rattle.actx_program.specs.Statements.{SpBind, bind-name, bind-value, SpBinds, binds-none, binds-more, SpLet, let_binds, SpTest, test, SpValue, value-none, value-some, SpFirst, first-nothing, first-let, first-expr, SpSemicolon, semicolon-some, semicolon-none, SpCaught, caught-none, caught-some, SpStmt, stmt-block, stmt-empty, stmt-if, stmt-while, stmt-do, stmt-for, stmt-for_of, stmt-return, stmt-return_of, stmt-throw, stmt-break, stmt-continue, stmt-try, stmt-expr, SpElse, else-none, else-some, SpHandler, handler-none, handler-some, SpFinally, finally-none, finally-some, SpBlock, block, SpItems, items-none, items-more, SpItem, item-let, item-function, item-class, item-stmt}
use Rattle.actx_program.specs.StatementReader as r
use Rattle.actx_program.specs.StatementReader.{Within, goes_on_items}
use Rattle.actx_program.proofs.StatementPast.{past-bind, past-item}
use Rattle.actx_program.proofs.Starts.{Begun, end_is, end_after, no_operand, declares, assign_goes, other_brace, item_goes, first-block}
use Rattle.actx_program.proofs.Starts as starts

-- the readers of what lies in a statement read all that is spelled
pub record CompletesWithin (within : Within) : Type 0 where
  pub inner : Completes within.inner
  pub stmt : {x : Stmt} {h : ℕ} {a b : Tokens} → SpStmt x h a b → Gets within.inner.room h (within.stmt a) (x, h) b
  pub item : {x : Stmt} {h : ℕ} {a b : Tokens} → SpItem x h a b → Gets within.inner.room h (within.item a) (x, h) b

-- ---- what comes next

no_equals : (sort : Kind) → assign_op sort ≡ None → is_equals sort ≡ false
no_equals (kind.Sign p.Assign) e = Prim.absurd (cc)
no_equals _ e = refl

comma_next : (t : Token) (ts : Tokens) → Is (kind.Sign p.Comma) t → goes_on_comma (t ∷ ts) ≡ true
unfolding goes_on_comma
comma_next t ts e = ap is_comma (next_of t ts e)

is_name_name : (n : _) → is_name_target (target.Name n) ≡ true
is_name_name n = simp the_lemmas

-- the token is no name
not_of_kind : (sort : TokenKind) {own : Kind} → kind_of sort ≡ own → (own ≡ kind.Name → ⊥) → is_of_word sort ≡ false
not_of_kind (k.Name u) e n = Prim.absurd (n (sym e))
not_of_kind _ e n = refl

pub not_of : (t : Token) (ts : Tokens) {own : Kind} → Is own t → (own ≡ kind.Name → ⊥) → is_of (t ∷ ts) ≡ false
unfolding is_of
not_of t ts e n = not_of_kind t.kind e n

semicolon_is : {a b : Tokens} → SpSemicolon a b → r.semicolon a ≡ Ok (tt, b)
unfolding r.semicolon behind
semicolon_is (semicolon-some {t = t} {b = b} e) = rw (next_of t b e) refl
semicolon_is (semicolon-none e) = rw e refl

assign_no_semicolon : (sort : Kind) → begins_assign sort ≡ true → is_semicolon sort ≡ false
assign_no_semicolon (kind.Sign p.Semicolon) e = Prim.absurd (cc)
assign_no_semicolon _ e = refl

assign_no_close : (sort : Kind) → begins_assign sort ≡ true → closes bracket.Round sort ≡ false
assign_no_close (kind.Sign p.CloseParenthesis) e = Prim.absurd (cc)
assign_no_close _ e = refl

-- what follows the words of a Let goes on after a Bind
after_binds : {c : Bool} {xs : List Elem} {h : ℕ} {a b : Tokens} → SpBinds c xs h a b → 12 < after b → 11 < after a
after_binds binds-none l = omega arith
after_binds (binds-more {t = t} {a = a} e d q) l = rw (after_is t a e) (omega arith)

-- nor is it `of`
binds_not_of : {c : Bool} {xs : List Elem} {h : ℕ} {a b : Tokens} → SpBinds c xs h a b → is_of b ≡ false → is_of a ≡ false
binds_not_of binds-none l = l
binds_not_of (binds-more {t = t} {a = a} e d q) l = not_of t a e (λ z. cc)

pub brace_stops : (u : Token) (b : Tokens) → Is (kind.Sign p.CloseBrace) u → goes_on_items (u ∷ b) ≡ false
unfolding goes_on_items
brace_stops u b e = rw (next_of u b e) refl

-- with what was read before, of no more levels
higher : {A : Type 0} {lim h i H : ℕ} {o : Outcome A} {v : A} {b : Tokens} → h ≤ lim → Gets lim i o v b → H ≡ max h i → Gets lim H o v b
higher l (got m q) e = got (omega arith) q
higher l (deep m q) e = deep (omega arith) q

-- a part that is looked at once it is read, and then others
into : {B : Type 0} (inner : Inner) {H : ℕ} {w : B} {b : Tokens} (h : ℕ) (i : Tokens) (f : Unit {0} → Parser B)
    → (h ≤ inner.room → Gets inner.room H (f tt i) w b) → h ≤ H → Gets inner.room H (and_then (fits inner h i) f) w b
into inner {H = H} {w = w} {b = b} h i f k l = go (fitting inner h i f k l)
  where
    go : Gets (suc inner.room) (suc H) (and_then (fits inner h i) f) w b → Gets inner.room H (and_then (fits inner h i) f) w b
    go (got m q) = got (omega arith) q
    go (deep m q) = deep (omega arith) q

an_operand : (a : Tokens) → begins_assign (next a) ≡ true → is_on_line a ≡ true → has_operand a ≡ true
unfolding has_operand
an_operand a e l = rw (e, l) refl

module _ (within : Within) (sub : CompletesWithin within) where
  -- ---- declarations

  -- the two parts of a Bind: its target, and what stands behind it
  record Bound (c : Bool) (x : Elem) (h : ℕ) (a b : Tokens) : Type 0 where
    y : Target
    i : ℕ
    j : ℕ
    m : Tokens
    first : Gets within.inner.room i (within.inner.target a) (y, i) m
    rest : i ≤ within.inner.room → Gets within.inner.room j (r.bind_after within c (y, i) m) (x, h) b
    high : h ≡ max i j
    not_of : is_of b ≡ false → is_of m ≡ false

  bound : {c : Bool} {x : Elem} {h : ℕ} {a b : Tokens} → SpBind c x h a b → 11 < after b → Bound c x h a b
  unfolding r.bind_after
  bound (bind-name {n = n} {b = b} e) l = record {
    y = target.Name n;
    i = 0;
    j = 0;
    m = b;
    first = sub.inner.target (target-name e);
    rest = λ _. no _ _ (no_equals (next b) (no_assign b l)) (yes (true && is_name_target (target.Name n)) _ (is_name_name n) (done _ _));
    high = refl;
    not_of = λ z. z;
  }
  bound (bind-value {t = t} {x = x} {h = h} {i = i} {m = m} d e q) l = record {
    y = x;
    i = h;
    j = i;
    m = t ∷ m;
    first = sub.inner.target d;
    rest = λ _. yes _ _ (ap is_equals (next_of t m e)) (take _ _ (skipped t m) (seq _ _ (sub.inner.assign q l) (λ _. done _ _) (omega arith)));
    high = refl;
    not_of = λ _. not_of t m e (λ z. cc);
  }

  get-next_bind : (t : Token) {c : Bool} {x : Elem} {h : ℕ} {a b : Tokens} → SpBind c x h a b → 11 < after b → Gets within.inner.room h (r.next_bind within c (t ∷ a)) (x, h) b
  unfolding r.next_bind
  get-next_bind t {a = a} d l = let z = bound d l in take _ _ (skipped t a) (seq _ _ z.first z.rest z.high)

  run-binds : {c : Bool} {xs : List Elem} {h : ℕ} {a b : Tokens} → SpBinds c xs h a b → 12 < after b → Run goes_on_comma (r.next_bind within c) within.inner.room xs h a b
  run-binds binds-none l = run-none
  run-binds (binds-more {t = t} {a = a} e d q) l = run-more (comma_next t a e) (get-next_bind t d (after_binds q l)) (let z = shorter (past-bind d) in omega arith) (run-binds q l)

  get-more_binds : {c : Bool} {x : Elem} {xs : List Elem} {h i : ℕ} {a b : Tokens} → SpBinds c xs i a b → 12 < after b → h ≤ within.inner.room
      → Gets within.inner.room (max h i) (r.more_binds within c (x, h) a) (x ∷ xs, max h i) b
  unfolding r.more_binds count
  get-more_binds {x = x} {xs = xs} {h = h} {i = i} {a = a} {b = b} q l m = many_gets (length a) h (max h i) (x ∷ []) (x ∷ xs) (run-binds q l) (no_comma b l) (omega arith) m refl refl

  -- behind the target of the first Bind
  get-binds_after : {c : Bool} {x : Elem} {xs : List Elem} {h i : ℕ} {a m b : Tokens} → (z : Bound c x h a m) → SpBinds c xs i m b → 12 < after b → z.i ≤ within.inner.room
      → Gets within.inner.room (max z.j (max h i)) (r.binds_after within c (z.y, z.i) z.m) (x ∷ xs, max h i) b
  unfolding r.binds_after
  get-binds_after z q l m = seq _ _ (z.rest m) (λ n. get-more_binds q l (let e = z.high in omega arith)) refl

  get-let : {c : Bool} {t : Token} {xs : List Elem} {h : ℕ} {a b : Tokens} → SpLet c xs h (t ∷ a) b → 12 < after b → Gets within.inner.room h (r.binds within c a) (xs, h) b
  unfolding r.binds
  get-let (let_binds e d q) l = let z = bound d (after_binds q l) in seq _ _ z.first (λ m. get-binds_after z q l m) (let f = z.high in omega arith)

  let_kind : (c : Bool) (t : Token) (ts : Tokens) → Is (let_word c) t → r.item within (t ∷ ts) ≡ r.let_item within c (t ∷ ts)
  unfolding r.item
  let_kind false t ts e = ap (λ z. r.item_from within z (t ∷ ts)) (next_of t ts e)
  let_kind true t ts e = ap (λ z. r.item_from within z (t ∷ ts)) (next_of t ts e)

  get-let_item : {c : Bool} {xs : List Elem} {h : ℕ} {a m b : Tokens} → SpLet c xs h a m → SpEnd m b → Gets (suc within.inner.room) (suc h) (r.item within a) (s.Let c xs, suc h) b
  unfolding r.let_item
  get-let_item (let_binds {c = c} {t = t} {a = a} e d q) f = along (let_kind c t a e) (node (take _ _ (skipped t a) (seq _ _ (get-let (let_binds {t = t} e d q) (end_after f)) (λ _. take _ _ (end_is f) (done _ _)) (omega arith))))

  get-function_item : {x : Function} {h : ℕ} {a b : Tokens} → SpFunction x h a b → has_function_name x ≡ true → Gets (suc within.inner.room) h (r.function_item within a) (s.Function x, h) b
  unfolding r.function_item
  get-function_item {x = x} d e = seq _ _ (get-function within.inner sub.inner d) (λ _. yes (has_function_name x) _ e (done _ _)) (omega arith)

  get-class_item : {x : Class} {h : ℕ} {a b : Tokens} → SpClass x h a b → has_class_name x ≡ true → Gets (suc within.inner.room) h (r.class_item within a) (s.Class x, h) b
  unfolding r.class_item
  get-class_item {x = x} d e = seq _ _ (get-class within.inner sub.inner d) (λ _. yes (has_class_name x) _ e (done _ _)) (omega arith)

  -- ---- lists of items

  run-items : {xs : List Stmt} {h : ℕ} {a b : Tokens} → SpItems xs h a b → Run goes_on_items within.item within.inner.room xs h a b
  run-items items-none = run-none
  run-items (items-more d q) = run-more (item_goes d) (sub.item d) (shorter (past-item d)) (run-items q)

  pub get-items : {xs : List Stmt} {h : ℕ} {a b : Tokens} → SpItems xs h a b → goes_on_items b ≡ false → Gets within.inner.room h (r.items within a) (xs, h) b
  unfolding r.items count
  get-items {xs = xs} {h = h} {a = a} d e = many_gets (length a) 0 h [] xs (run-items d) e (omega arith) (omega arith) refl (omega arith)

  get-block : {xs : List Stmt} {h : ℕ} {a b : Tokens} → SpBlock xs h a b → Gets within.inner.room h (r.block within a) (xs, h) b
  unfolding r.block
  get-block (block {t = t} {u = u} {a = a} {b = b} e d f) = take _ _ (expected is_open_brace t a e refl) (seq _ _ (get-items d (brace_stops u b f)) (λ _. take _ _ (closed bracket.Curly u b f) (done _ _)) (omega arith))

  -- ---- parts of statements

  get-test : {x : Expr} {h : ℕ} {a b : Tokens} → SpTest x h a b → Gets within.inner.room h (r.test within a) (x, h) b
  unfolding r.test
  get-test (test {t = t} {u = u} {a = a} {b = b} e d f) =
      take _ _ (expected is_open_parenthesis t a e refl) (seq _ _ (sub.inner.expr d (rw (after_is u b f) (omega arith))) (λ _. take _ _ (closed bracket.Round u b f) (done _ _)) (omega arith))

  get-else : {x : Option Stmt} {h : ℕ} {a b : Tokens} → SpElse x h a b → Gets within.inner.room h (r.other within a) (x, h) b
  unfolding r.other
  get-else (else-none e) = no _ _ e (done _ _)
  get-else (else-some {t = t} {a = a} e d) = yes _ _ (ap is_else_word (next_of t a e)) (take _ _ (skipped t a) (seq _ _ (sub.stmt d) (λ _. done _ _) (omega arith)))

  get-caught : {x : Option Target} {h : ℕ} {a b : Tokens} → SpCaught x h a b → Gets within.inner.room h (r.caught within a) (x, h) b
  unfolding r.caught
  get-caught (caught-none e) = no _ _ e (done _ _)
  get-caught (caught-some {t = t} {u = u} {a = a} {b = b} e d f) =
      yes _ _ (ap is_open_parenthesis (next_of t a e)) (take _ _ (skipped t a) (seq _ _ (sub.inner.target d) (λ _. take _ _ (closed bracket.Round u b f) (done _ _)) (omega arith)))

  get-handler : {x : Option Catch} {h : ℕ} {a b : Tokens} → SpHandler x h a b → Gets within.inner.room h (r.handler within a) (x, h) b
  unfolding r.handler
  get-handler (handler-none e) = no _ _ e (done _ _)
  get-handler (handler-some {t = t} {a = a} e d q) =
      yes _ _ (ap is_catch_word (next_of t a e)) (take _ _ (skipped t a) (seq _ _ (get-caught d) (λ _. seq _ _ (get-block q) (λ _. done _ _) refl) (omega arith)))

  get-finally : {x : Option (List Stmt)} {h : ℕ} {a b : Tokens} → SpFinally x h a b → Gets within.inner.room h (r.finally within a) (x, h) b
  unfolding r.finally
  get-finally (finally-none e) = no _ _ e (done _ _)
  get-finally (finally-some {t = t} {a = a} e d) = yes _ _ (ap is_finally_word (next_of t a e)) (take _ _ (skipped t a) (seq _ _ (get-block d) (λ _. done _ _) (omega arith)))

  get-ended_value : {x : Expr} {h : ℕ} {a m b : Tokens} → SpExpr x h a m → SpEnd m b → Gets within.inner.room h (r.ended_value within a) (x, h) b
  unfolding r.ended_value
  get-ended_value d e = seq _ _ (sub.inner.expr d (end_after e)) (λ _. take _ _ (end_is e) (done _ _)) (omega arith)

  -- ---- `for`

  -- [Expr] and the sign behind it
  get-value : (ends : Kind → Bool) (t : Token) {own : Kind} {x : Option Expr} {h : ℕ} {a b : Tokens} → SpValue x h a (t ∷ b) → Is own t → ends own ≡ true → 12 < after (t ∷ b)
      → ((sort : Kind) → begins_assign sort ≡ true → ends sort ≡ false) → Gets within.inner.room h (r.value_to within ends a) (x, h) b
  unfolding r.value_to behind
  get-value ends t {b = b} value-none e q l n = yes (ends (next (t ∷ b))) _ (ap ends (next_of t b e) ∙ q) (done _ _)
  get-value ends t {a = a} {b = b} (value-some d) e q l n = no (ends (next a)) _ (n (next a) (starts.first-expr d)) (seq _ _ (sub.inner.expr d l) (λ _. take _ _ (expected ends t b e q) (done _ _)) (omega arith))

  -- the rest of the head of a `for`, and its statement
  get-for_after : (v : Token) {w o : Token} {x : ForInit} {y z : Option Expr} {e : Stmt} {h i j l : ℕ} {m n q b : Tokens} → Is (kind.Sign p.Semicolon) v → SpValue y i m (w ∷ n) → Is (kind.Sign p.Semicolon) w
      → SpValue z j n (o ∷ q) → Is (kind.Sign p.CloseParenthesis) o → SpStmt e l q b → h ≤ within.inner.room
      → Gets within.inner.room (max h (max i (max j l))) (r.for_after within (x, h) (v ∷ m)) (s.For x y z e, suc (max h (max i (max j l)))) b
  unfolding r.for_after
  get-for_after v {w = w} {o = o} {h = h} {i = i} {j = j} {l = l} {m = m} {n = n} {q = q} c f d g u k room =
      higher room (take _ _ (expected is_semicolon v m c refl) (seq _ _ (get-value is_semicolon w f d refl (rw (after_is w n d) (omega arith)) assign_no_semicolon)
      (λ _. seq _ _ (get-value (closes bracket.Round) o g u refl (rw (after_is o q u) (omega arith)) assign_no_close) (λ _. seq _ _ (sub.stmt k) (λ _. done _ _) refl) refl) refl)) (omega arith)

  for_kind : {sort : Kind} (a : Tokens) → next a ≡ sort → r.for_head within a ≡ r.for_from within sort a
  unfolding r.for_head
  for_kind a e = ap (λ z. r.for_from within z a) e

  for_let : (c : Bool) (t : Token) (ts : Tokens) → Is (let_word c) t → r.for_head within (t ∷ ts) ≡ r.for_let within c (t ∷ ts)
  for_let false t ts e = for_kind (t ∷ ts) (next_of t ts e)
  for_let true t ts e = for_kind (t ∷ ts) (next_of t ts e)

  for_expr : (sort : Kind) → begins_assign sort ≡ true → r.for_from within sort ≡ r.for_expr within
  for_expr (kind.Sign p.Semicolon) e = Prim.absurd (cc)
  for_expr (kind.Word word.Let) e = Prim.absurd (cc)
  for_expr (kind.Word word.Const) e = Prim.absurd (cc)
  for_expr _ e = refl

  -- the head of a `for`, from what comes first in it on
  get-for_head : (v : Token) {w o : Token} {x : ForInit} {y z : Option Expr} {e : Stmt} {h i j l : ℕ} {a m n q b : Tokens} → SpFirst x h a (v ∷ m) → Is (kind.Sign p.Semicolon) v → SpValue y i m (w ∷ n)
      → Is (kind.Sign p.Semicolon) w → SpValue z j n (o ∷ q) → Is (kind.Sign p.CloseParenthesis) o → SpStmt e l q b
      → Gets within.inner.room (max h (max i (max j l))) (r.for_head within a) (s.For x y z e, suc (max h (max i (max j l)))) b
  unfolding r.for_let r.for_target r.for_binds r.for_expr
  get-for_head v {m = m} first-nothing c f d g u k = along (for_kind (v ∷ m) (next_of v m c)) (get-for_after v c f d g u k (omega arith))
  get-for_head v {i = i} {j = j} {l = l} {m = m} (first-let (let_binds {c = const} {t = t} {h = h} {i = o} {a = a} w d q)) c f e g u k =
      let r11 : 12 < after (v ∷ m) = rw (after_is v m c) (omega arith) in let z = bound d (after_binds q r11) in
      along (for_let const t a w) (take _ _ (skipped t a) (seq {i = max (suc (max h o)) (max i (max j l))} _ _ z.first
      (λ n. no (is_of z.m) _ (z.not_of (binds_not_of q (not_of v m c (λ y. cc))))
      (seq {i = max (suc (max h o)) (max i (max j l))} _ _ (get-binds_after z q r11 n)
      (λ _. into within.inner (suc (max h o)) _ _ (λ fit. get-for_after v c f e g u k fit) (omega arith)) (let y = z.high in omega arith)))
      (let y = z.high in omega arith)))
  get-for_head v {i = i} {j = j} {l = l} {a = a} {m = m} (first-expr {h = h} d) c f e g u k = along (for_kind a refl ∙ ap (λ z. z a) (for_expr (next a) (starts.first-expr d)))
      (seq {i = max h (max i (max j l))} _ _ (sub.inner.expr d (rw (after_is v m c) (omega arith))) (λ n. get-for_after v c f e g u k n) (omega arith))

  get-for_of : {c : Bool} (v : Token) {w o : Token} {x : Target} {y : Expr} {e : Stmt} {h i j : ℕ} {a m n b : Tokens} → Is (let_word c) v → SpTarget x h a (w ∷ m) → is_of (w ∷ m) ≡ true → SpAssign y i m (o ∷ n)
      → Is (kind.Sign p.CloseParenthesis) o → SpStmt e j n b
      → Gets within.inner.room (max h (max i j)) (r.for_head within (v ∷ a)) (s.ForOf c x y e, suc (max h (max i j))) b
  unfolding r.for_let r.for_target r.for_of
  get-for_of {c = c} v {w = w} {o = o} {a = a} {m = m} {n = n} t d q f u k =
      along (for_let c v a t) (take _ _ (skipped v a) (seq _ _ (sub.inner.target d) (λ _. yes (is_of (w ∷ m)) _ q (take _ _ (skipped w m)
      (seq _ _ (sub.inner.assign f (rw (after_is o n u) (omega arith))) (λ _. take _ _ (closed bracket.Round o n u) (seq _ _ (sub.stmt k) (λ _. done _ _) refl)) refl))) (omega arith)))

  -- ---- statements

  by_kind : {sort : Kind} (a : Tokens) → next a ≡ sort → r.stmt within a ≡ r.stmt_from within sort a
  unfolding r.stmt
  by_kind a e = ap (λ z. r.stmt_from within z a) e

  plain_stmt : (sort : Kind) → begins_assign sort ≡ true → is_open_brace sort ≡ false → r.stmt_from within sort ≡ r.expr_form within
  plain_stmt (kind.Sign p.OpenBrace) e n = Prim.absurd (cc)
  plain_stmt (kind.Sign p.Semicolon) e n = Prim.absurd (cc)
  plain_stmt (kind.Word word.If) e n = Prim.absurd (cc)
  plain_stmt (kind.Word word.While) e n = Prim.absurd (cc)
  plain_stmt (kind.Word word.Do) e n = Prim.absurd (cc)
  plain_stmt (kind.Word word.For) e n = Prim.absurd (cc)
  plain_stmt (kind.Word word.Return) e n = Prim.absurd (cc)
  plain_stmt (kind.Word word.Throw) e n = Prim.absurd (cc)
  plain_stmt (kind.Word word.Break) e n = Prim.absurd (cc)
  plain_stmt (kind.Word word.Continue) e n = Prim.absurd (cc)
  plain_stmt (kind.Word word.Try) e n = Prim.absurd (cc)
  plain_stmt _ e n = refl

  pub get-stmt : {x : Stmt} {h : ℕ} {a b : Tokens} → SpStmt x h a b → Gets (suc within.inner.room) h (r.stmt within a) (x, h) b
  unfolding r.block_form r.if_form r.while_form r.do_form r.for_form r.return_form r.return_after r.throw_form r.throw_after r.break_form r.continue_form r.try_form r.expr_form
  get-stmt (stmt-block {a = a} d) = along (by_kind a (first-block d)) (node (seq _ _ (get-block d) (λ _. done _ _) (omega arith)))
  get-stmt (stmt-empty {t = t} {b = b} e) = along (by_kind (t ∷ b) (next_of t b e)) (node (take _ _ (skipped t b) (done _ _)))
  get-stmt (stmt-if {t = t} {a = a} e d y z) =
      along (by_kind (t ∷ a) (next_of t a e)) (node (take _ _ (skipped t a) (seq _ _ (get-test d) (λ _. seq _ _ (sub.stmt y) (λ _. seq _ _ (get-else z) (λ _. done _ _) refl) refl) (omega arith))))
  get-stmt (stmt-while {t = t} {a = a} e d y) =
      along (by_kind (t ∷ a) (next_of t a e)) (node (take _ _ (skipped t a) (seq _ _ (get-test d) (λ _. seq _ _ (sub.stmt y) (λ _. done _ _) refl) (omega arith))))
  get-stmt (stmt-do {t = t} {u = u} {a = a} {m = m} e y w d q) =
      along (by_kind (t ∷ a) (next_of t a e)) (node (take _ _ (skipped t a) (seq _ _ (sub.stmt y) (λ _. take _ _ (expected is_while_word u m w refl)
      (seq _ _ (get-test d) (λ _. take _ _ (semicolon_is q) (done _ _)) refl)) (omega arith))))
  get-stmt (stmt-for {t = t} {u = u} {v = v} {a = a} e o d c f w g z k) =
      along (by_kind (t ∷ u ∷ a) (next_of t (u ∷ a) e)) (node (take _ _ (skipped t (u ∷ a)) (take _ _ (expected is_open_parenthesis u a o refl) (get-for_head v d c f w g z k))))
  get-stmt (stmt-for_of {t = t} {u = u} {v = v} {a = a} e o l d q f c k) =
      along (by_kind (t ∷ u ∷ v ∷ a) (next_of t (u ∷ v ∷ a) e)) (node (take _ _ (skipped t (u ∷ v ∷ a)) (take _ _ (expected is_open_parenthesis u (v ∷ a) o refl) (get-for_of v l d q f c k))))
  get-stmt (stmt-return {t = t} {a = a} e d) =
      along (by_kind (t ∷ a) (next_of t a e)) (node (take _ _ (skipped t a) (no (has_operand a) _ (no_operand d) (take _ _ (end_is d) (done _ _)))))
  get-stmt (stmt-return_of {t = t} {a = a} e l d q) =
      along (by_kind (t ∷ a) (next_of t a e)) (node (take _ _ (skipped t a) (yes (has_operand a) _ (an_operand a (starts.first-expr d) l) (seq _ _ (get-ended_value d q) (λ _. done _ _) (omega arith)))))
  get-stmt (stmt-throw {t = t} {a = a} e l d q) =
      along (by_kind (t ∷ a) (next_of t a e)) (node (take _ _ (skipped t a) (yes (is_on_line a) _ l (seq _ _ (get-ended_value d q) (λ _. done _ _) (omega arith)))))
  get-stmt (stmt-break {t = t} {a = a} e d) = along (by_kind (t ∷ a) (next_of t a e)) (node (take _ _ (skipped t a) (take _ _ (end_is d) (done _ _))))
  get-stmt (stmt-continue {t = t} {a = a} e d) = along (by_kind (t ∷ a) (next_of t a e)) (node (take _ _ (skipped t a) (take _ _ (end_is d) (done _ _))))
  get-stmt (stmt-try {t = t} {c = c} {f = f} {a = a} e d q g n) =
      along (by_kind (t ∷ a) (next_of t a e)) (node (take _ _ (skipped t a) (seq _ _ (get-block d) (λ _. seq _ _ (get-handler q) (λ _. seq _ _ (get-finally g) (λ _. yes (is_some c || is_some f) _ n (done _ _)) refl) refl) (omega arith))))
  get-stmt (stmt-expr {a = a} n d q) = along (by_kind a refl ∙ ap (λ z. z a) (plain_stmt (next a) (starts.first-expr d) (other_brace a n)))
      (no (begins_other a) _ n (node (seq _ _ (get-ended_value d q) (λ _. done _ _) (omega arith))))

  -- ---- items

  item_kind : {sort : Kind} (a : Tokens) → next a ≡ sort → r.item within a ≡ r.item_from within sort a
  unfolding r.item
  item_kind a e = ap (λ z. r.item_from within z a) e

  plain_item : (sort : Kind) (a : Tokens) → declares sort ≡ false → r.item_from within sort a ≡ (if begins_function a then r.function_item within a else r.stmt within a)
  plain_item (kind.Word word.Let) a e = Prim.absurd (cc)
  plain_item (kind.Word word.Const) a e = Prim.absurd (cc)
  plain_item (kind.Word word.Class) a e = Prim.absurd (cc)
  plain_item _ a e = refl

  pub get-item : {x : Stmt} {h : ℕ} {a b : Tokens} → SpItem x h a b → Gets (suc within.inner.room) h (r.item within a) (x, h) b
  get-item (item-let d e) = get-let_item d e
  get-item (item-function {a = a} d e) = let z = starts.first-function d in along (item_kind a refl ∙ plain_item (next a) a z.plain) (yes (begins_function a) _ z.which (get-function_item d e))
  get-item (item-class {a = a} d e) = along (item_kind a (starts.first-class d)) (get-class_item d e)
  get-item (item-stmt {a = a} d) = let z = starts.first-stmt d in along (item_kind a refl ∙ plain_item (next a) a z.plain) (no (begins_function a) _ z.which (get-stmt d))
