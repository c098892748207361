-- Statements and lists of them: what is read is spelled.
use Rattle.std.proofs.Common.{◌≡◌, ◌∙◌, ℕ, zero, suc, ◌≤◌, max, Bool, true, false, not, ◌&&◌, ◌||◌, if◌then◌else◌, List, [], ◌∷◌, Option, Some, None, is_some, refl, sym, ap, subst, arith}
use Rattle.actx_lex.specs.declared.token.Token.{Token}
use Rattle.actx_lex.specs.declared.token.Punct.TheVariants as p
use Rattle.actx_tree.specs.declared.expr.Expr.{Expr}
use Rattle.actx_tree.specs.declared.expr.Expr.{the_lemmas}
use Rattle.actx_tree.specs.declared.pattern.Target.{Target}
use Rattle.actx_tree.specs.declared.pattern.Elem.{Elem}
use Rattle.actx_tree.specs.declared.stmt.Stmt.{Stmt}
use Rattle.actx_tree.specs.declared.stmt.Stmt.TheVariants as s
use Rattle.actx_tree.specs.declared.stmt.ForInit.{ForInit}
use Rattle.actx_tree.specs.declared.stmt.ForInit.TheVariants as init
use Rattle.actx_tree.specs.Parts.{elem_of, catch_of}
use Rattle.actx_grammar.specs.declared.error.Cause.TheVariants.{NoTree, TooNested}
use Rattle.actx_grammar.specs.declared.kind.Kind.{Kind}
use Rattle.actx_grammar.specs.declared.kind.Kind.TheVariants as kind
use Rattle.actx_grammar.specs.declared.word.Word.TheVariants as word
use Rattle.actx_grammar.specs.declared.bracket.Bracket.TheVariants as bracket
use Rattle.actx_grammar.specs.Kinds.{kind_of, closes, is_comma, is_semicolon, is_equals, is_open_parenthesis, is_open_brace, begins_assign}
use Rattle.actx_grammar.specs.Tokens.{Tokens, Is, next, behind, is_on_line, has_operand}
use Rattle.actx_grammar.specs.Reader.{Outcome, Read, count}
use Rattle.actx_grammar.specs.Lines.{goes_on_comma}
use Rattle.actx_grammar.specs.Grammar.{SpExpr, SpAssign, SpTarget, target-name, target-object, target-object_rest, target-array, target-array_rest}
use Rattle.actx_grammar.proofs.Tests as is
use Rattle.actx_grammar.proofs.Firsts.{both_second}
use Rattle.actx_grammar.proofs.Holds.{Holds, done, fails, step, bind, branch, map, fit, Low, Taken, taken, taken_if, sound-expect, Star, star-none, star-more, sound-many}
use Rattle.actx_grammar.proofs.Sounds.{Sounds}
use Rattle.actx_grammar.proofs.SoundExprs.{sounds}
use Rattle.actx_grammar.proofs.Complete.{room_is}
use Rattle.actx_grammar.proofs.SoundPatterns.{sound-function, sound-class}
use Rattle.actx_program.specs.Ends.{SpEnd, end-semicolon, end-nothing, let_word, may_end, is_else_word, is_while_word, is_catch_word, is_finally_word, is_of, begins_function, begins_other, has_function_name, has_class_name, is_name_target}
use Rattle.actx_program.specs.Statements.{SpBind, bind-name, bind-value, SpBinds, binds-none, binds-more, SpLet, let_binds, SpTest, test, SpValue, value-none, value-some, SpFirst, first-nothing, first-let, first-expr, SpSemicolon, semicolon-some, semicolon-none, SpCaught, caught-none, caught-some, SpStmt, stmt-block, stmt-empty, stmt-if, stmt-while, stmt-do, stmt-for, stmt-for_of, stmt-return, stmt-return_of, stmt-throw, stmt-break, stmt-continue, stmt-try, stmt-expr, SpElse, else-none, else-some, SpHandler, handler-none, handler-some, SpFinally, finally-none, finally-some, SpBlock, block, SpItems, items-none, items-more, SpItem, item-let, item-function, item-class, item-stmt}
use Rattle.actx_program.specs.StatementReader as r
use Rattle.actx_program.specs.StatementReader.{Within, goes_on_items, inside}
use Rattle.actx_program.proofs.CompleteStatements.{inside_room}

-- what the readers of what lies in a statement read is spelled
pub record SoundsWithin (within : Within) : Type 0 where
  pub inner : Sounds within.inner
  pub stmt : (a : Tokens) → Holds (Low within.inner.room SpStmt a) (within.stmt a)
  pub item : (a : Tokens) → Holds (Low within.inner.room SpItem a) (within.item a)

-- ---- the token that a test is about

else_word : (sort : Kind) → is_else_word sort ≡ true → sort ≡ kind.Word word.Else
else_word (kind.Word word.Else) e = refl
else_word _ e = Prim.absurd (cc)

while_word : (sort : Kind) → is_while_word sort ≡ true → sort ≡ kind.Word word.While
while_word (kind.Word word.While) e = refl
while_word _ e = Prim.absurd (cc)

catch_word : (sort : Kind) → is_catch_word sort ≡ true → sort ≡ kind.Word word.Catch
catch_word (kind.Word word.Catch) e = refl
catch_word _ e = Prim.absurd (cc)

finally_word : (sort : Kind) → is_finally_word sort ≡ true → sort ≡ kind.Word word.Finally
finally_word (kind.Word word.Finally) e = refl
finally_word _ e = Prim.absurd (cc)

-- ---- ends

a_semicolon : {a b : Tokens} → Taken is_semicolon a b → SpEnd a b
a_semicolon (taken {t = t} e) = end-semicolon (is.semicolon (kind_of t.kind) e)

sound-end : (a : Tokens) → Holds (λ _ b. SpEnd a b) (r.end a)
unfolding r.end
sound-end a = branch (is_semicolon (next a)) (λ e. done _ _ (a_semicolon (taken_if is_semicolon a refl e))) (λ _. branch (may_end a) (λ e. done _ _ (end-nothing e)) (λ _. fails NoTree))

one_semicolon : {a b : Tokens} → Taken is_semicolon a b → SpSemicolon a b
one_semicolon (taken {t = t} e) = semicolon-some (is.semicolon (kind_of t.kind) e)

sound-semicolon : (a : Tokens) → Holds (λ _ b. SpSemicolon a b) (r.semicolon a)
unfolding r.semicolon
sound-semicolon a = branch (is_semicolon (next a)) (λ e. done _ _ (one_semicolon (taken_if is_semicolon a refl e))) (λ e. done _ _ (semicolon-none e))

-- ---- parts made of their tokens

name_bind : (c : Bool) {x : Target} {h : ℕ} {a b : Tokens} → (not c && is_name_target x) ≡ true → SpTarget x h a b → SpBind c (elem_of x None) h a b
name_bind true e d = Prim.absurd (cc)
name_bind false e (target-name n) = bind-name n
name_bind false e (target-object o d q) = let z = simp the_lemmas at e in Prim.absurd (cc)
name_bind false e (target-object_rest o q) = let z = simp the_lemmas at e in Prim.absurd (cc)
name_bind false e (target-array o d q) = let z = simp the_lemmas at e in Prim.absurd (cc)
name_bind false e (target-array_rest o q) = let z = simp the_lemmas at e in Prim.absurd (cc)

value_bind : {c : Bool} {x : Target} {y : Expr} {h i : ℕ} {a m n b : Tokens} → SpTarget x h a m → Taken is_equals m n → SpAssign y i n b → SpBind c (elem_of x (Some y)) (max h i) a b
value_bind d (taken {t = t} e) q = bind-value d (is.equals (kind_of t.kind) e) q

-- a comma and a Bind
data CommaBind (c : Bool) : Elem → ℕ → Tokens → Tokens → Type 0 where
  comma_bind : {x : Elem} {h : ℕ} {a m b : Tokens} → Taken is_comma a m → SpBind c x h m b → CommaBind c x h a b

comma_binds : {c : Bool} {xs : List Elem} {h : ℕ} {a b : Tokens} → Star (CommaBind c) xs h a b → SpBinds c xs h a b
comma_binds star-none = binds-none
comma_binds (star-more (comma_bind (taken {t = t} e) d) q) = binds-more (is.comma (kind_of t.kind) e) d (comma_binds q)

-- Bind ("," Bind)*
data Bounds (c : Bool) : List Elem → ℕ → Tokens → Tokens → Type 0 where
  bounds : {x : Elem} {xs : List Elem} {h i : ℕ} {a m b : Tokens} → SpBind c x h a m → SpBinds c xs i m b → Bounds c (x ∷ xs) (max h i) a b

bounds_of : {c : Bool} {x : Elem} {xs L : List Elem} {h i H : ℕ} {a m b : Tokens} → SpBind c x h a m → Star (CommaBind c) xs i m b → L ≡ x ∷ xs → H ≡ max h i → Bounds c L H a b
bounds_of {c = c} {x = x} {xs = xs} {h = h} {i = i} {H = H} {a = a} {b = b} d q e g =
    subst (λ l. Bounds c l H a b) (sym e) (subst (λ n. Bounds c (x ∷ xs) n a b) (sym g) (bounds d (comma_binds q)))

let_of : {c : Bool} {t : Token} {xs : List Elem} {h : ℕ} {a b : Tokens} → Is (let_word c) t → Bounds c xs h a b → SpLet c xs h (t ∷ a) b
let_of e (bounds d q) = let_binds e d q

all_items : {xs : List Stmt} {h : ℕ} {a b : Tokens} → Star SpItem xs h a b → SpItems xs h a b
all_items star-none = items-none
all_items (star-more d q) = items-more d (all_items q)

a_block : {xs : List Stmt} {h : ℕ} {a m n b : Tokens} → Taken is_open_brace a m → SpItems xs h m n → Taken (closes bracket.Curly) n b → SpBlock xs h a b
a_block (taken {t = t} e) d (taken {t = u} f) = block (is.open_brace (kind_of t.kind) e) d (is.closer bracket.Curly (kind_of u.kind) f)

a_test : {x : Expr} {h : ℕ} {a m n b : Tokens} → Taken is_open_parenthesis a m → SpExpr x h m n → Taken (closes bracket.Round) n b → SpTest x h a b
a_test (taken {t = t} e) d (taken {t = u} f) = test (is.open_parenthesis (kind_of t.kind) e) d (is.closer bracket.Round (kind_of u.kind) f)

an_else : {x : Stmt} {h : ℕ} {a m b : Tokens} → Taken is_else_word a m → SpStmt x h m b → SpElse (Some x) h a b
an_else (taken {t = t} e) d = else-some (else_word (kind_of t.kind) e) d

a_caught : {x : Target} {h : ℕ} {a m n b : Tokens} → Taken is_open_parenthesis a m → SpTarget x h m n → Taken (closes bracket.Round) n b → SpCaught (Some x) h a b
a_caught (taken {t = t} e) d (taken {t = u} f) = caught-some (is.open_parenthesis (kind_of t.kind) e) d (is.closer bracket.Round (kind_of u.kind) f)

a_handler : {x : Option Target} {xs : List Stmt} {h i : ℕ} {a m n b : Tokens} → Taken is_catch_word a m → SpCaught x h m n → SpBlock xs i n b → SpHandler (Some (catch_of x xs)) (max h i) a b
a_handler (taken {t = t} e) d q = handler-some (catch_word (kind_of t.kind) e) d q

a_finally : {xs : List Stmt} {h : ℕ} {a m b : Tokens} → Taken is_finally_word a m → SpBlock xs h m b → SpFinally (Some xs) h a b
a_finally (taken {t = t} e) d = finally-some (finally_word (kind_of t.kind) e) d

a_do : {t : Token} {x : Expr} {y : Stmt} {h i : ℕ} {a m n q b : Tokens} → Is (kind.Word word.Do) t → SpStmt y h a m → Taken is_while_word m n → SpTest x i n q → SpSemicolon q b
    → SpStmt (s.Do y x) (suc (max h i)) (t ∷ a) b
a_do e y (taken {t = u} w) d q = stmt-do e y (while_word (kind_of u.kind) w) d q

-- [Expr] and the sign behind it
data Valued (ends : Kind → Bool) : Option Expr → ℕ → Tokens → Tokens → Type 0 where
  valued : {x : Option Expr} {h : ℕ} {a m b : Tokens} → SpValue x h a m → Taken ends m b → Valued ends x h a b

-- a `for`, from behind the bracket of its head on
record Headed (x : Stmt) (h : ℕ) (a b : Tokens) : Type 0 where
  is : {t u : Token} → Is (kind.Word word.For) t → Is (kind.Sign p.OpenParenthesis) u → SpStmt x h (t ∷ u ∷ a) b

a_for : {x : ForInit} {y z : Option Expr} {e : Stmt} {h i j l : ℕ} {a m n q o b : Tokens} → SpFirst x h a m → Taken is_semicolon m n → Valued is_semicolon y i n q
    → Valued (closes bracket.Round) z j q o → SpStmt e l o b → Headed (s.For x y z e) (suc (max h (max i (max j l)))) a b
a_for d (taken {t = v} c) (valued f (taken {t = w} g)) (valued k (taken {t = o} u)) q =
    record { is = λ t u'. stmt-for t u' d (is.semicolon (kind_of v.kind) c) f (is.semicolon (kind_of w.kind) g) k (is.closer bracket.Round (kind_of o.kind) u) q }

a_for_of : {c : Bool} {v : Token} {x : Target} {y : Expr} {e : Stmt} {h i j : ℕ} {a n q b : Tokens} (m : Tokens) → Is (let_word c) v → SpTarget x h a m → is_of m ≡ true → SpAssign y i (behind m) n
    → Taken (closes bracket.Round) n q → SpStmt e j q b → Headed (s.ForOf c x y e) (suc (max h (max i j))) (v ∷ a) b
unfolding behind is_of
a_for_of [] w d f q c k = Prim.absurd (cc)
a_for_of (o ∷ m) w d f q (taken {t = u} c) k = record { is = λ t u'. stmt-for_of t u' w d f q (is.closer bracket.Round (kind_of u.kind) c) k }

module _ (within : Within) (sub : SoundsWithin within) where
  -- ---- declarations

  sound-bind_after : (c : Bool) (x : Read Target) (a m : Tokens) → Low within.inner.room SpTarget a x m → Holds (Low within.inner.room (SpBind c) a) (r.bind_after within c x m)
  unfolding r.bind_after
  sound-bind_after c x a m z = branch (is_equals (next m))
      (λ e. step _ _ _ (bind _ _ (sub.inner.assign (behind m)) (λ y b d. done _ _ (record { low = omega (arith, z.low, d.low); is = value_bind z.is (taken_if is_equals m refl e) d.is }))))
      (λ _. branch (not c && is_name_target x.0) (λ e. done _ _ (record { low = z.low; is = name_bind c e z.is })) (λ _. fails NoTree))

  sound-next_bind : (c : Bool) (a : Tokens) → goes_on_comma a ≡ true → Holds (Low within.inner.room (CommaBind c) a) (r.next_bind within c a)
  unfolding r.next_bind goes_on_comma
  sound-next_bind c a e = step _ _ _ (bind _ _ (sub.inner.target (behind a)) (λ x m d. map (λ v b z. record { low = z.low; is = comma_bind (taken_if is_comma a refl e) z.is }) (sound-bind_after c x (behind a) m d)))

  sound-binds_after : (c : Bool) (x : Read Target) (a m : Tokens) → Low within.inner.room SpTarget a x m → Holds (Low within.inner.room (Bounds c) a) (r.binds_after within c x m)
  unfolding r.binds_after r.more_binds
  sound-binds_after c x a m z = bind _ _ (sound-bind_after c x a m z) (λ y n d.
      map (λ v b l. record { low = l.low; is = bounds_of d.is l.is l.list l.high }) (sound-many (sound-next_bind c) (count n) y.1 (y.0 ∷ []) n d.low))

  sound-binds : (c : Bool) (a : Tokens) → Holds (Low within.inner.room (Bounds c) a) (r.binds within c a)
  unfolding r.binds
  sound-binds c a = bind _ _ (sub.inner.target a) (λ x m d. sound-binds_after c x a m d)

  sound-let_item : (c : Bool) (t : Token) (ts : Tokens) → Is (let_word c) t → Holds (Low (suc within.inner.room) SpItem (t ∷ ts)) (r.let_item within c (t ∷ ts))
  unfolding r.let_item behind
  sound-let_item c t ts e = step _ _ _ (bind _ _ (sound-binds c ts) (λ xs m d. bind _ _ (sound-end m) (λ _ b f. done _ _ (record { low = omega (arith, d.low); is = item-let (let_of e d.is) f }))))

  sound-function_item : (a : Tokens) → Holds (Low (suc within.inner.room) SpItem a) (r.function_item within a)
  unfolding r.function_item
  sound-function_item a = bind _ _ (sound-function within.inner sub.inner a) (λ f b d. branch (has_function_name f.0) (λ e. done _ _ (record { low = d.low; is = item-function d.is e })) (λ _. fails NoTree))

  sound-class_item : (a : Tokens) → Holds (Low (suc within.inner.room) SpItem a) (r.class_item within a)
  unfolding r.class_item
  sound-class_item a = bind _ _ (sound-class within.inner sub.inner a) (λ c b d. branch (has_class_name c.0) (λ e. done _ _ (record { low = d.low; is = item-class d.is e })) (λ _. fails NoTree))

  -- ---- lists of items

  pub sound-items : (a : Tokens) → Holds (Low within.inner.room SpItems a) (r.items within a)
  unfolding r.items
  sound-items a = map (λ v b z. record { low = z.low; is = subst (λ h. SpItems v.0 h a b) (let e = z.high in omega arith) (subst (λ l. SpItems l z.i a b) (sym z.list) (all_items z.is)) })
      (sound-many {go = goes_on_items} (λ i _. sub.item i) (count a) 0 [] a (omega arith))

  sound-block : (a : Tokens) → Holds (Low within.inner.room SpBlock a) (r.block within a)
  unfolding r.block
  sound-block a = bind _ _ (sound-expect is_open_brace a refl) (λ _ m e. bind _ _ (sound-items m) (λ xs n d. bind _ _ (sound-expect (closes bracket.Curly) n refl) (λ _ b f.
      done _ _ (record { low = d.low; is = a_block e d.is f }))))

  -- ---- parts of statements

  sound-test : (a : Tokens) → Holds (Low within.inner.room SpTest a) (r.test within a)
  unfolding r.test
  sound-test a = bind _ _ (sound-expect is_open_parenthesis a refl) (λ _ m e. bind _ _ (sub.inner.expr m) (λ x n d. bind _ _ (sound-expect (closes bracket.Round) n refl) (λ _ b f.
      done _ _ (record { low = d.low; is = a_test e d.is f }))))

  sound-other : (a : Tokens) → Holds (Low within.inner.room SpElse a) (r.other within a)
  unfolding r.other
  sound-other a = branch (is_else_word (next a))
      (λ e. step _ _ _ (bind _ _ (sub.stmt (behind a)) (λ x b d. done _ _ (record { low = d.low; is = an_else (taken_if is_else_word a refl e) d.is }))))
      (λ e. done _ _ (record { low = omega arith; is = else-none e }))

  sound-caught : (a : Tokens) → Holds (Low within.inner.room SpCaught a) (r.caught within a)
  unfolding r.caught
  sound-caught a = branch (is_open_parenthesis (next a))
      (λ e. step _ _ _ (bind _ _ (sub.inner.target (behind a)) (λ x m d. bind _ _ (sound-expect (closes bracket.Round) m refl) (λ _ b f.
      done _ _ (record { low = d.low; is = a_caught (taken_if is_open_parenthesis a refl e) d.is f })))))
      (λ e. done _ _ (record { low = omega arith; is = caught-none e }))

  sound-handler : (a : Tokens) → Holds (Low within.inner.room SpHandler a) (r.handler within a)
  unfolding r.handler
  sound-handler a = branch (is_catch_word (next a))
      (λ e. step _ _ _ (bind _ _ (sound-caught (behind a)) (λ x m d. bind _ _ (sound-block m) (λ xs b f.
      done _ _ (record { low = omega (arith, d.low, f.low); is = a_handler (taken_if is_catch_word a refl e) d.is f.is })))))
      (λ e. done _ _ (record { low = omega arith; is = handler-none e }))

  sound-finally : (a : Tokens) → Holds (Low within.inner.room SpFinally a) (r.finally within a)
  unfolding r.finally
  sound-finally a = branch (is_finally_word (next a))
      (λ e. step _ _ _ (bind _ _ (sound-block (behind a)) (λ xs b d. done _ _ (record { low = d.low; is = a_finally (taken_if is_finally_word a refl e) d.is }))))
      (λ e. done _ _ (record { low = omega arith; is = finally-none e }))

  -- Expr End
  record Ended (a : Tokens) (v : Read Expr) (b : Tokens) : Type 0 where
    low : v.1 ≤ within.inner.room
    m : Tokens
    is : SpExpr v.0 v.1 a m
    close : SpEnd m b

  sound-ended_value : (a : Tokens) → Holds (Ended a) (r.ended_value within a)
  unfolding r.ended_value
  sound-ended_value a = bind _ _ (sub.inner.expr a) (λ x m d. bind _ _ (sound-end m) (λ _ b e. done _ _ (record { low = d.low; m = m; is = d.is; close = e })))

  -- ---- `for`

  sound-value_to : (ends : Kind → Bool) (a : Tokens) → ends kind.End ≡ false → Holds (Low within.inner.room (Valued ends) a) (r.value_to within ends a)
  unfolding r.value_to
  sound-value_to ends a n = branch (ends (next a))
      (λ e. done _ _ (record { low = omega arith; is = valued value-none (taken_if ends a n e) }))
      (λ _. bind _ _ (sub.inner.expr a) (λ x m d. bind _ _ (sound-expect ends m n) (λ _ b f. done _ _ (record { low = d.low; is = valued (value-some d.is) f }))))

  sound-for_after : (x : Read ForInit) (a m : Tokens) → Low within.inner.room SpFirst a x m → Holds (Low (suc within.inner.room) Headed a) (r.for_after within x m)
  unfolding r.for_after
  sound-for_after x a m z = bind _ _ (sound-expect is_semicolon m refl) (λ _ n e. bind _ _ (sound-value_to is_semicolon n refl) (λ y q d. bind _ _ (sound-value_to (closes bracket.Round) q refl)
      (λ u o f. bind _ _ (sub.stmt o) (λ w b g. done _ _ (record { low = omega (arith, z.low, d.low, f.low, g.low); is = a_for z.is e d.is f.is g.is })))))

  sound-for_binds : (c : Bool) (t : Token) (ts : Tokens) → Is (let_word c) t → (x : Read Target) (m : Tokens) → Low within.inner.room SpTarget ts x m
      → Holds (Low (suc within.inner.room) Headed (t ∷ ts)) (r.for_binds within c x m)
  unfolding r.for_binds
  sound-for_binds c t ts w x m z = bind _ _ (sound-binds_after c x ts m z) (λ xs n d. fit within.inner (suc xs.1) n _ (λ l. sound-for_after (init.Let c xs.0, suc xs.1) (t ∷ ts) n (record { low = l; is = first-let (let_of w d.is) })))

  sound-for_of : (c : Bool) (t : Token) (ts : Tokens) → Is (let_word c) t → (x : Read Target) (m : Tokens) → Low within.inner.room SpTarget ts x m → is_of m ≡ true
      → Holds (Low (suc within.inner.room) Headed (t ∷ ts)) (r.for_of within c x m)
  unfolding r.for_of
  sound-for_of c t ts w x m z f = step _ _ _ (bind _ _ (sub.inner.assign (behind m)) (λ y n d. bind _ _ (sound-expect (closes bracket.Round) n refl) (λ _ q e. bind _ _ (sub.stmt q)
      (λ u b g. done _ _ (record { low = omega (arith, z.low, d.low, g.low); is = a_for_of m w z.is f d.is e g.is })))))

  sound-for_let : (c : Bool) (t : Token) (ts : Tokens) → Is (let_word c) t → Holds (Low (suc within.inner.room) Headed (t ∷ ts)) (r.for_let within c (t ∷ ts))
  unfolding r.for_let r.for_target behind
  sound-for_let c t ts w = step _ _ _ (bind _ _ (sub.inner.target ts) (λ x m z. branch (is_of m) (λ e. sound-for_of c t ts w x m z e) (λ _. sound-for_binds c t ts w x m z)))

  sound-for_expr : (a : Tokens) → Holds (Low (suc within.inner.room) Headed a) (r.for_expr within a)
  unfolding r.for_expr
  sound-for_expr a = bind _ _ (sub.inner.expr a) (λ x m d. sound-for_after (init.Expr x.0, x.1) a m (record { low = d.low; is = first-expr d.is }))

  for_kind : (t : Token) (ts : Tokens) (sort : Kind) → kind_of t.kind ≡ sort → Holds (Low (suc within.inner.room) Headed (t ∷ ts)) (r.for_from within sort (t ∷ ts))
  for_kind t ts (kind.Sign p.Semicolon) e = sound-for_after (init.Nothing, 0) (t ∷ ts) (t ∷ ts) (record { low = omega arith; is = first-nothing })
  for_kind t ts (kind.Word word.Let) e = sound-for_let false t ts e
  for_kind t ts (kind.Word word.Const) e = sound-for_let true t ts e
  for_kind t ts _ e = sound-for_expr (t ∷ ts)

  sound-for_head : (a : Tokens) → Holds (Low (suc within.inner.room) Headed a) (r.for_head within a)
  unfolding r.for_head next
  sound-for_head [] = sound-for_expr []
  sound-for_head (t ∷ ts) = for_kind t ts (kind_of t.kind) refl

  a_for_stmt : {t : Token} {x : Stmt} {h : ℕ} {a m b : Tokens} → Is (kind.Word word.For) t → Taken is_open_parenthesis a m → Headed x h m b → SpStmt x h (t ∷ a) b
  a_for_stmt e (taken {t = u} f) z = z.is e (is.open_parenthesis (kind_of u.kind) f)

  -- ---- statements

  sound-return_after : (t : Token) (a : Tokens) → Is (kind.Word word.Return) t → Holds (Low (suc within.inner.room) SpStmt (t ∷ a)) (r.return_after within a)
  unfolding r.return_after has_operand
  sound-return_after t a e = branch (begins_assign (next a) && is_on_line a)
      (λ l. bind _ _ (sound-ended_value a) (λ x b d. done _ _ (record { low = omega (arith, d.low); is = stmt-return_of e (both_second (begins_assign (next a)) (is_on_line a) l) d.is d.close })))
      (λ _. bind _ _ (sound-end a) (λ _ b d. done _ _ (record { low = omega arith; is = stmt-return e d })))

  sound-throw_after : (t : Token) (a : Tokens) → Is (kind.Word word.Throw) t → Holds (Low (suc within.inner.room) SpStmt (t ∷ a)) (r.throw_after within a)
  unfolding r.throw_after
  sound-throw_after t a e = branch (is_on_line a) (λ l. bind _ _ (sound-ended_value a) (λ x b d. done _ _ (record { low = omega (arith, d.low); is = stmt-throw e l d.is d.close }))) (λ _. fails NoTree)

  sound-block_form : (a : Tokens) → Holds (Low (suc within.inner.room) SpStmt a) (r.block_form within a)
  unfolding r.block_form
  sound-block_form a = bind _ _ (sound-block a) (λ xs b d. done _ _ (record { low = omega (arith, d.low); is = stmt-block d.is }))

  sound-expr_form : (a : Tokens) → Holds (Low (suc within.inner.room) SpStmt a) (r.expr_form within a)
  unfolding r.expr_form
  sound-expr_form a = branch (begins_other a) (λ _. fails NoTree) (λ n. bind _ _ (sound-ended_value a) (λ x b d. done _ _ (record { low = omega (arith, d.low); is = stmt-expr n d.is d.close })))

  stmt_kind : (t : Token) (ts : Tokens) (sort : Kind) → kind_of t.kind ≡ sort → Holds (Low (suc within.inner.room) SpStmt (t ∷ ts)) (r.stmt_from within sort (t ∷ ts))
  unfolding behind r.if_form r.while_form r.do_form r.for_form r.return_form r.throw_form r.break_form r.continue_form r.try_form
  stmt_kind t ts (kind.Sign p.OpenBrace) e = sound-block_form (t ∷ ts)
  stmt_kind t ts (kind.Sign p.Semicolon) e = step _ _ _ (done _ _ (record { low = omega arith; is = stmt-empty e }))
  stmt_kind t ts (kind.Word word.If) e = step _ _ _ (bind _ _ (sound-test ts) (λ x m d. bind _ _ (sub.stmt m) (λ y n f. bind _ _ (sound-other n) (λ z b g.
      done _ _ (record { low = omega (arith, d.low, f.low, g.low); is = stmt-if e d.is f.is g.is })))))
  stmt_kind t ts (kind.Word word.While) e = step _ _ _ (bind _ _ (sound-test ts) (λ x m d. bind _ _ (sub.stmt m) (λ y b f. done _ _ (record { low = omega (arith, d.low, f.low); is = stmt-while e d.is f.is }))))
  stmt_kind t ts (kind.Word word.Do) e = step _ _ _ (bind _ _ (sub.stmt ts) (λ y m f. bind _ _ (sound-expect is_while_word m refl) (λ _ n w. bind _ _ (sound-test n) (λ x q d. bind _ _ (sound-semicolon q)
      (λ _ b c. done _ _ (record { low = omega (arith, d.low, f.low); is = a_do e f.is w d.is c }))))))
  stmt_kind t ts (kind.Word word.For) e = step _ _ _ (bind _ _ (sound-expect is_open_parenthesis ts refl) (λ _ m o. map (λ v b z. record { low = z.low; is = a_for_stmt e o z.is }) (sound-for_head m)))
  stmt_kind t ts (kind.Word word.Return) e = step _ _ _ (sound-return_after t ts e)
  stmt_kind t ts (kind.Word word.Throw) e = step _ _ _ (sound-throw_after t ts e)
  stmt_kind t ts (kind.Word word.Break) e = step _ _ _ (bind _ _ (sound-end ts) (λ _ b d. done _ _ (record { low = omega arith; is = stmt-break e d })))
  stmt_kind t ts (kind.Word word.Continue) e = step _ _ _ (bind _ _ (sound-end ts) (λ _ b d. done _ _ (record { low = omega arith; is = stmt-continue e d })))
  stmt_kind t ts (kind.Word word.Try) e = step _ _ _ (bind _ _ (sound-block ts) (λ xs m d. bind _ _ (sound-handler m) (λ c n f. bind _ _ (sound-finally n) (λ l b g. branch (is_some c.0 || is_some l.0)
      (λ q. done _ _ (record { low = omega (arith, d.low, f.low, g.low); is = stmt-try e d.is f.is g.is q })) (λ _. fails NoTree)))))
  stmt_kind t ts _ e = sound-expr_form (t ∷ ts)

  pub sound-stmt : (a : Tokens) → Holds (Low (suc within.inner.room) SpStmt a) (r.stmt within a)
  unfolding r.stmt next
  sound-stmt [] = sound-expr_form []
  sound-stmt (t ∷ ts) = stmt_kind t ts (kind_of t.kind) refl

  -- ---- items

  plain_item : (a : Tokens) → Holds (Low (suc within.inner.room) SpItem a) (if begins_function a then r.function_item within a else r.stmt within a)
  plain_item a = branch (begins_function a) (λ _. sound-function_item a) (λ _. map (λ v b z. record { low = z.low; is = item-stmt z.is }) (sound-stmt a))

  item_kind : (t : Token) (ts : Tokens) (sort : Kind) → kind_of t.kind ≡ sort → Holds (Low (suc within.inner.room) SpItem (t ∷ ts)) (r.item_from within sort (t ∷ ts))
  item_kind t ts (kind.Word word.Let) e = sound-let_item false t ts e
  item_kind t ts (kind.Word word.Const) e = sound-let_item true t ts e
  item_kind t ts (kind.Word word.Class) e = sound-class_item (t ∷ ts)
  item_kind t ts _ e = plain_item (t ∷ ts)

  pub sound-item : (a : Tokens) → Holds (Low (suc within.inner.room) SpItem a) (r.item within a)
  unfolding r.item next
  sound-item [] = plain_item []
  sound-item (t ∷ ts) = item_kind t ts (kind_of t.kind) refl

-- ---- the knot

low_as : {X : Type 0} {S : X → ℕ → Tokens → Tokens → Type 0} {l r : ℕ} {a : Tokens} {o : Outcome (Read X)} → l ≡ r → Holds (Low l S a) o → Holds (Low r S a) o
low_as {S = S} {a = a} {o = o} e z = subst (λ n. Holds (Low n S a) o) e z

pub sounds_within : (n : ℕ) → SoundsWithin (inside n)
unfolding inside
sounds_within zero = record { inner = sounds zero; stmt = λ a. fails TooNested; item = λ a. fails TooNested }
sounds_within (suc n) = record {
  inner = sounds (suc n);
  stmt = λ a. low_as (ap suc (inside_room n) ∙ sym (room_is (suc n))) (sound-stmt (inside n) (sounds_within n) a);
  item = λ a. low_as (ap suc (inside_room n) ∙ sym (room_is (suc n))) (sound-item (inside n) (sounds_within n) a);
}

-- items of n levels at most
pub sound_items_in : (n : ℕ) (a : Tokens) → Holds (Low n SpItems a) (r.items (inside n) a)
sound_items_in n a = low_as (inside_room n) (sound-items (inside n) (sounds_within n) a)
