-- Operators, assignments, arrows and Expr: what is spelled is read, or has too many levels.
use Rattle.std.proofs.Common.{◌≡◌, ◌∙◌, ℕ, suc, ◌+◌, ◌<◌, ◌≤◌, ◌==◌, nat_lt, max, Bool, true, false, ◌&&◌, List, [], ◌∷◌, length, Option, Some, None, is_some, Ok, refl, sym, ap, arith, eq-eqb}
use Rattle.actx_lex.specs.declared.token.Token.{Token}
use Rattle.actx_lex.specs.declared.token.Punct.TheVariants as p
use Rattle.actx_tree.specs.declared.operator.BinaryOp.{BinaryOp}
use Rattle.actx_tree.specs.declared.operator.UnaryOp.{UnaryOp}
use Rattle.actx_tree.specs.declared.operator.StepOp.{StepOp}
use Rattle.actx_tree.specs.declared.operator.AssignOp.{AssignOp}
use Rattle.actx_tree.specs.declared.expr.Expr.{Expr, the_lemmas}
use Rattle.actx_tree.specs.declared.expr.Expr.TheVariants as e
use Rattle.actx_tree.specs.declared.expr.Operand.{Operand}
use Rattle.actx_tree.specs.declared.pattern.Params.{Params}
use Rattle.actx_tree.specs.Parts.{operand_of}
use Rattle.actx_grammar.specs.declared.kind.Kind.{Kind}
use Rattle.actx_grammar.specs.declared.kind.Kind.TheVariants as kind
use Rattle.actx_grammar.specs.declared.word.Word.TheVariants as word
use Rattle.std.proofs.lemmas.Bool.Decides.{nat_tests}
use Rattle.actx_grammar.specs.Kinds.{kind_of, is_comma, is_colon, is_question, is_name, is_open_brace, is_yield_word, binary_op, level_of, unary_op, step_op, assign_op}
use Rattle.actx_grammar.specs.Tokens.{Tokens, Is, next, behind, is_on_line, is_async, has_arrow, arrow_by, arrow_start, has_operand}
use Rattle.actx_grammar.specs.Places.{is_logical}
use Rattle.actx_grammar.specs.Reader.{Read, Inner, and_then, count}
use Rattle.actx_grammar.specs.Lines as r
use Rattle.actx_grammar.specs.Grammar.{params, SpUnread, unread, SpExpr, expr-one, expr-comma, SpCommas, commas-none, commas-more, SpAssign, assign-cond, assign-place, assign-yield, assign-yield_of, assign-arrow, assign-arrow_block, SpArrowHead, arrow_head-plain, arrow_head-async, SpArrowParams, arrow_params-name, arrow_params-list, SpCond, cond-one, cond-test, SpShort, short-or, short-coalesce, SpLevel, level-unary, level-one, level-chain, SpOperands, operands-none, operands-more, SpUnary, unary-op, unary-before, unary-after, unary-left, SpLeft, left-made, left-suffixes, SpMade, made-primary, made-new, made-new_bare, SpPrimary, primary-name, primary-number, primary-text, primary-true, primary-false, primary-null, primary-this, primary-template, primary-template_of, primary-brackets, primary-array, primary-object, primary-super_call, primary-super_member, primary-function, primary-class}
use Rattle.actx_grammar.proofs.Past.{shorter}
use Rattle.actx_grammar.proofs.PastLines.{past-assign, past-level}
use Rattle.actx_grammar.proofs.Following.{after, after_is, after_operator, after_step, after_assign, no_step, no_operator, no_question, no_assign, no_comma}
use Rattle.actx_grammar.proofs.Firsts.{first-left, first-cond, no_unary, no_step_before, step_no_unary, not_yield, first-async}
use Rattle.actx_grammar.proofs.Gets.{Gets, got, along, yes, no, take, seq, node, done, fitting, next_of, skipped, expected, Run, run-none, run-more, many_gets}
use Rattle.actx_grammar.proofs.Parts.{name_is, is_name_of, unread_is}
use Rattle.actx_grammar.proofs.Completes.{Completes}
use Rattle.actx_grammar.proofs.GetPatterns.{get-params}
use Rattle.actx_grammar.proofs.GetLefts.{get-left}

-- ---- no tree of a tighter level is a chain of `||` or `&&`

primary_not_logical : {x : Expr} {h : ℕ} {a b : Tokens} → SpPrimary x h a b → is_logical x ≡ false
primary_not_logical (primary-name e q) = simp the_lemmas
primary_not_logical (primary-number e) = simp the_lemmas
primary_not_logical (primary-text e) = simp the_lemmas
primary_not_logical (primary-true e) = simp the_lemmas
primary_not_logical (primary-false e) = simp the_lemmas
primary_not_logical (primary-null e) = simp the_lemmas
primary_not_logical (primary-this e) = simp the_lemmas
primary_not_logical (primary-template e) = simp the_lemmas
primary_not_logical (primary-template_of e d) = simp the_lemmas
primary_not_logical (primary-brackets e d c) = simp the_lemmas
primary_not_logical (primary-array e d c) = simp the_lemmas
primary_not_logical (primary-object e d c) = simp the_lemmas
primary_not_logical (primary-super_call e d) = simp the_lemmas
primary_not_logical (primary-super_member e o d) = simp the_lemmas
primary_not_logical (primary-function d) = simp the_lemmas
primary_not_logical (primary-class d) = simp the_lemmas

made_not_logical : {x : Expr} {h : ℕ} {a b : Tokens} → SpMade x h a b → is_logical x ≡ false
made_not_logical (made-primary d) = primary_not_logical d
made_not_logical (made-new e d s z) = simp the_lemmas
made_not_logical (made-new_bare e d s z) = simp the_lemmas

left_not_logical : {x : Expr} {h : ℕ} {a b : Tokens} → SpLeft x h a b → is_logical x ≡ false
left_not_logical (left-made d) = made_not_logical d
left_not_logical (left-suffixes d q) = simp the_lemmas

unary_not_logical : {x : Expr} {h : ℕ} {a b : Tokens} → SpUnary x h a b → is_logical x ≡ false
unary_not_logical (unary-op e d) = simp the_lemmas
unary_not_logical (unary-before e d q) = simp the_lemmas
unary_not_logical (unary-after d q e f) = simp the_lemmas
unary_not_logical (unary-left d) = left_not_logical d

pub chain_logical : (x y : Expr) (op : BinaryOp) (ys : List Operand) → is_logical (e.Chain x (operand_of op y ∷ ys)) ≡ nat_lt 4 (level_of op)
chain_logical x y op ys = simp the_lemmas

pub not_logical : {l : ℕ} {x : Expr} {h : ℕ} {a b : Tokens} → SpLevel l x h a b → l ≤ 4 → is_logical x ≡ false
not_logical (level-unary d) l = unary_not_logical d
not_logical (level-one d) l = not_logical d (omega arith)
not_logical (level-chain {l = n} {x = x} d (operands-more {op = op} {x = y} {xs = ys} e le c q)) l =
    chain_logical x y op ys ∙ (let s : level_of op ≤ 4 = omega arith in grind (arith, nat_tests))

-- ---- operators

operator_is : (own : ℕ) (t : Token) (ts : Tokens) (op : BinaryOp) → binary_op (kind_of t.kind) ≡ Some op → level_of op ≡ own → r.operator_at own (t ∷ ts) ≡ Some op
unfolding r.operator_at next
operator_is own t ts op e l = ap (r.of_level own) e ∙ (let q : (level_of op == own) ≡ true = eq-eqb (level_of op) own l in rw q refl)

operands_follow : {own l : ℕ} {xs : List Operand} {h : ℕ} {a b : Tokens} → SpOperands own l xs h a b → l < own → 2 + own < after b → 2 + l < after a
operands_follow operands-none o s = omega arith
operands_follow (operands-more {t = t} {a = a} e le d q) o s = let z = after_operator t a e in omega arith

chain_follow : {own l : ℕ} {x : Operand} {xs : List Operand} {h : ℕ} {a b : Tokens} → SpOperands own l (x ∷ xs) h a b → after a ≡ 2 + own
chain_follow (operands-more {t = t} {a = a} e le d q) = let z = after_operator t a e in omega arith

chain_operator : {own l : ℕ} {x : Operand} {xs : List Operand} {h : ℕ} {a b : Tokens} → SpOperands own l (x ∷ xs) h a b → r.has_operator own a ≡ true
chain_operator {own = own} (operands-more {t = t} {op = op} {a = a} e le d q) = ap is_some (operator_is own t a op e le)

-- ---- arrows

sign_is : (t : Token) (ts : Tokens) → Is (kind.Sign p.Arrow) t → t.first ≡ false → r.arrow_sign (t ∷ ts) ≡ Ok (tt, ts)
unfolding r.arrow_sign next is_on_line behind
sign_is t ts e f = rw (e, f) refl

no_async : (a : Tokens) (sort : Kind) → next a ≡ sort → is_name sort ≡ false → is_async a ≡ false
no_async a sort e n = go (is_async a) refl
  where
    go : (c : Bool) → is_async a ≡ c → c ≡ false
    go true q = let z = first-async a q in let y : is_name sort ≡ true = ap is_name (sym e ∙ z) in Prim.absurd (cc)
    go false q = refl

pub yield_no_arrow : (t : Token) (ts : Tokens) → Is (kind.Word word.Yield) t → arrow_start (t ∷ ts) ≡ None
unfolding arrow_start has_arrow
yield_no_arrow t ts e = rw (ap (λ s. arrow_by s ts) e, no_async (t ∷ ts) _ (next_of t ts e) refl) refl

commas_follow : {xs : List Expr} {h : ℕ} {a b : Tokens} → SpCommas xs h a b → 12 < after b → 11 < after a
commas_follow commas-none s = omega arith
commas_follow (commas-more {t = t} {a = a} e d q) s = rw (after_is t a e) (omega arith)

commas_next : {x : Expr} {xs : List Expr} {h : ℕ} {a b : Tokens} → SpCommas (x ∷ xs) h a b → is_comma (next a) ≡ true
commas_next (commas-more {t = t} {a = a} e d q) = ap is_comma (next_of t a e)

comma_stops : (b : Tokens) → 12 < after b → is_comma (next b) ≡ false
unfolding r.goes_on_comma
comma_stops b s = no_comma b s

module _ (inner : Inner) (sub : Completes inner) where
  by_unary : {u : Option UnaryOp} {s : Option StepOp} (a : Tokens) → unary_op (next a) ≡ u → step_op (next a) ≡ s → r.unary inner a ≡ r.unary_from inner u s a
  unfolding r.unary
  by_unary a e f = rw (e, f) refl

  by_step : {s : Option StepOp} (x : Read Expr) (a : Tokens) → r.step_at a ≡ s → r.unary_after inner x a ≡ r.step_after inner s x a
  unfolding r.unary_after
  by_step x a e = ap (λ s. r.step_after inner s x a) e

  step_is : (t : Token) (ts : Tokens) (op : StepOp) → step_op (kind_of t.kind) ≡ Some op → t.first ≡ false → r.step_at (t ∷ ts) ≡ Some op
  unfolding r.step_at next is_on_line
  step_is t ts op e f = rw (f, e) refl

  pub get-unary : {x : Expr} {h : ℕ} {a b : Tokens} → SpUnary x h a b → 2 < after b → Gets (suc inner.room) h (r.unary inner a) (x, h) b
  get-unary (unary-op {t = t} {a = a} e d) l =
      along (by_unary (t ∷ a) (ap unary_op (next_of t a refl) ∙ e) refl) (node (take _ _ (skipped t a) (seq _ _ (sub.unary d l) (λ _. done _ _) (omega arith))))
  get-unary (unary-before {t = t} {op = op} {a = a} e d q) l =
      along (by_unary (t ∷ a) (ap unary_op (next_of t a refl) ∙ step_no_unary (kind_of t.kind) op e) (ap step_op (next_of t a refl) ∙ e))
      (node (take _ _ (skipped t a) (seq _ _ (sub.left d (omega arith)) (λ _. yes _ _ q (done _ _)) (omega arith))))
  get-unary (unary-after {t = t} {op = op} {h = h} {a = a} {b = b} d q e f) l =
      along (by_unary a (no_unary (next a) (first-left d)) (no_step_before (next a) (first-left d)))
      (seq {i = suc h} _ _ (get-left inner sub d (let z = after_step t b e f in omega arith))
      (λ _. along (by_step _ (t ∷ b) (step_is t b op e f)) (yes _ _ q (fitting inner h (t ∷ b) _ (λ m. take _ _ (skipped t b) (got m refl)) (omega arith)))) (omega arith))
  get-unary (unary-left {a = a} {b = b} d) l =
      along (by_unary a (no_unary (next a) (first-left d)) (no_step_before (next a) (first-left d)))
      (seq _ _ (get-left inner sub d (omega arith)) (λ _. along (by_step _ b (no_step b l)) (done _ _)) (omega arith))

  by_operand : (own l : ℕ) {o : Option BinaryOp} (a : Tokens) → r.operator_at own a ≡ o → r.operand inner own l a ≡ r.operand_from inner l o a
  unfolding r.operand
  by_operand own l a e = ap (λ o. r.operand_from inner l o a) e

  run-operands : {own l : ℕ} {xs : List Operand} {h : ℕ} {a b : Tokens} → SpOperands own l xs h a b → l < own → 2 + own < after b
      → Run (r.has_operator own) (r.operand inner own l) inner.room xs h a b
  run-operands operands-none o s = run-none
  run-operands {own = own} {l = l} (operands-more {t = t} {op = op} {a = a} e le d q) o s =
      run-more (ap is_some (operator_is own t a op e le)) (along (by_operand own l (t ∷ a) (operator_is own t a op e le))
      (take _ _ (skipped t a) (seq _ _ (sub.level l d (operands_follow q o s)) (λ _. done _ _) (omega arith)))) (let z = shorter (past-level d) in omega arith) (run-operands q o s)

  get-operands : (f H : ℕ) {own l : ℕ} {xs : List Operand} {h : ℕ} {a b : Tokens} → SpOperands own l xs h a b → l < own → 2 + own < after b → f ≤ inner.room → H ≡ max f h
      → Gets inner.room H (r.operands inner own l f a) (xs, H) b
  unfolding r.operands count
  get-operands f H {own = own} {xs = xs} {a = a} {b = b} d o s l e =
      many_gets (length a) f H [] xs (run-operands d o s) (ap is_some (no_operator own b s)) (omega arith) l refl e

  chain_stop : (own l : ℕ) (x : Expr) (h : ℕ) (b : Tokens) → 2 + own < after b → Gets (suc inner.room) 0 (r.chain_after inner own l (x, h) b) (x, h) b
  unfolding r.chain_after
  chain_stop own l x h b s = no (r.has_operator own b) _ (ap is_some (no_operator own b s)) (done _ _)

  chain_go : (own l : ℕ) (x : Expr) (h : ℕ) {y : Operand} {ys : List Operand} {i : ℕ} {m b : Tokens} → SpOperands own l (y ∷ ys) i m b → l < own → 2 + own < after b
      → Gets (suc inner.room) (suc (max h i)) (r.chain_after inner own l (x, h) m) (e.Chain x (y ∷ ys), suc (max h i)) b
  unfolding r.chain_after
  chain_go own l x h {i = i} {m = m} d o s = yes (r.has_operator own m) _ (chain_operator d)
      (fitting inner h m _ (λ f. seq _ _ (get-operands h (max h i) d o s f refl) (λ _. done _ _) (omega arith)) (omega arith))

  pub get-level : {l : ℕ} {x : Expr} {h : ℕ} {a b : Tokens} → SpLevel l x h a b → 2 + l < after b → Gets (suc inner.room) h (r.level inner l a) (x, h) b
  unfolding r.level
  get-level (level-unary d) s = get-unary d s
  get-level (level-one {l = l} {x = x} {h = h} {b = b} d) s = seq _ _ (get-level d (omega arith)) (λ _. chain_stop (suc l) l x h b s) (omega arith)
  get-level (level-chain {l = l} {x = x} {h = h} d q) s =
      seq _ _ (get-level d (let z = chain_follow q in omega arith)) (λ _. chain_go (suc l) l x h q (omega arith) s) (omega arith)

  get-short : {x : Expr} {h : ℕ} {a b : Tokens} → SpShort x h a b → 9 < after b → Gets (suc inner.room) h (r.short inner a) (x, h) b
  unfolding r.short r.short_after
  get-short (short-or {x = x} {h = h} {b = b} d) s =
      seq _ _ (get-level d (omega arith)) (λ _. no (r.has_operator 7 b && is_logical x) _ (ap (λ o. is_some o && is_logical x) (no_operator 7 b s)) (chain_stop 7 4 x h b s)) (omega arith)
  get-short (short-coalesce {x = x} {h = h} {m = m} d q) s =
      seq _ _ (get-level (level-one (level-one d)) (let z = chain_follow q in omega arith))
      (λ _. no (r.has_operator 7 m && is_logical x) _ (rw (chain_operator q) (not_logical d (omega arith))) (chain_go 7 4 x h q (omega arith) s)) (omega arith)

  get-cond_one : {x : Expr} {h : ℕ} {a b : Tokens} → SpShort x h a b → 10 < after b → Gets (suc inner.room) h (r.cond inner a) (x, h) b
  unfolding r.cond r.cond_after
  get-cond_one {b = b} d s = seq _ _ (get-short d (omega arith)) (λ _. no (is_question (next b)) _ (no_question b s) (done _ _)) (omega arith)

  pub get-cond : {x : Expr} {h : ℕ} {a b : Tokens} → SpCond x h a b → 11 < after b → Gets (suc inner.room) h (r.cond inner a) (x, h) b
  unfolding r.cond r.cond_after
  get-cond (cond-one d) s = get-cond_one d (omega arith)
  get-cond (cond-test {t = t} {u = u} {h = h} {i = i} {j = j} {m = m} {n = n} d q y c z) s =
      seq {i = suc (max h (max i j))} _ _ (get-short d (rw (after_is t m q) (omega arith))) (λ _. yes (is_question (next (t ∷ m))) _ (ap is_question (next_of t m q))
      (fitting inner h (t ∷ m) _ (λ f. take _ _ (skipped t m) (seq {i = max h j} _ _ (sub.assign y (rw (after_is u n c) (omega arith))) (λ _. take _ _ (expected is_colon u n c refl)
      (seq {i = h} _ _ (sub.assign z (omega arith)) (λ _. got f refl) (omega arith))) (omega arith))) (omega arith))) (omega arith)

  -- ---- assignments and arrows

  get-arrow_params : {x : Params} {h : ℕ} {a b : Tokens} → SpArrowParams x h a b → Gets inner.room h (r.arrow_params inner a) (x, h) b
  unfolding r.arrow_params
  get-arrow_params (arrow_params-name {t = t} {b = b} e) = yes _ _ (is_name_of t b e) (take _ _ (name_is t b e) (done _ _))
  get-arrow_params (arrow_params-list (params {t = t} {a = a} e d q)) = no _ _ (ap is_name (next_of t a e)) (get-params inner sub (params e d q))

  -- what stands behind the parameters
  arrow_rest : (s : Bool) {x : Params} {y : Expr} {h H : ℕ} {a m b : Tokens} → SpArrowParams x h a m → h ≤ H
      → (h ≤ inner.room → Gets inner.room H (and_then (r.arrow_sign m) (λ _. r.arrow_body inner s (x, h))) (y, suc H) b) → Gets inner.room H (r.arrow_tail inner s a) (y, suc H) b
  unfolding r.arrow_tail
  arrow_rest s d l g = seq _ _ (get-arrow_params d) g (omega arith)

  arrow_by_head : {s : Bool} {x : Params} {y : Expr} {h H : ℕ} {a m b : Tokens} → SpArrowHead s x h a m → h ≤ H
      → (h ≤ inner.room → Gets inner.room H (and_then (r.arrow_sign m) (λ _. r.arrow_body inner s (x, h))) (y, suc H) b) → Gets inner.room H (r.arrow inner s a) (y, suc H) b
  arrow_by_head (arrow_head-plain d) l g = arrow_rest false d l g
  arrow_by_head (arrow_head-async {t = t} {a = a} e o d) l g = take _ _ (skipped t a) (arrow_rest true d l g)

  by_start : {s : Option Bool} (a : Tokens) → arrow_start a ≡ s → r.assign inner a ≡ r.assign_from inner s a
  unfolding r.assign
  by_start a e = ap (λ s. r.assign_from inner s a) e

  by_assign : {o : Option AssignOp} (x : Read Expr) (a : Tokens) → assign_op (next a) ≡ o → r.assign_after inner x a ≡ r.assign_to inner o x a
  unfolding r.assign_after
  by_assign x a e = ap (λ o. r.assign_to inner o x a) e

  unread_next : {u : _} {a b : Tokens} → SpUnread u a b → is_open_brace (next a) ≡ true
  unread_next (unread {t = t} {a = a} e q f g) = ap is_open_brace (next_of t a e)

  -- a place is read as a Cond
  place_short : {x : Expr} {h : ℕ} {a b : Tokens} → SpLeft x h a b → SpShort x h a b
  place_short d = (short-or (level-one (level-one (level-one (level-one (level-one (level-one (level-unary (unary-left d)))))))))

  pub get-assign : {x : Expr} {h : ℕ} {a b : Tokens} → SpAssign x h a b → 11 < after b → Gets (suc inner.room) h (r.assign inner a) (x, h) b
  unfolding r.yield_form r.arrow_body behind
  get-assign (assign-cond {a = a} {b = b} n d) l = along (by_start a n) (no (is_yield_word (next a)) _ (not_yield (next a) (first-cond d))
      (seq _ _ (get-cond d (omega arith)) (λ _. along (by_assign _ b (no_assign b l)) (done _ _)) (omega arith)))
  get-assign (assign-place {t = t} {h = h} {i = i} {a = a} {m = m} n d q e y) l = along (by_start a n) (no (is_yield_word (next a)) _ (not_yield (next a) (first-cond (cond-one (place_short d))))
      (seq {i = suc (max h i)} _ _ (get-cond_one (place_short d) (let z = after_assign t m e in omega arith)) (λ _. along (by_assign _ (t ∷ m) (ap assign_op (next_of t m refl) ∙ e))
      (yes _ _ q (fitting inner h (t ∷ m) _ (λ f. take _ _ (skipped t m) (seq {i = h} _ _ (sub.assign y l) (λ _. got f refl) (omega arith))) (omega arith)))) (omega arith)))
  get-assign (assign-yield {t = t} {b = b} e q) l =
      along (by_start (t ∷ b) (yield_no_arrow t b e)) (yes (is_yield_word (next (t ∷ b))) _ (ap is_yield_word (next_of t b e)) (no (has_operand b) _ q (node (done _ _))))
  get-assign (assign-yield_of {t = t} {a = a} e q d) l =
      along (by_start (t ∷ a) (yield_no_arrow t a e)) (yes (is_yield_word (next (t ∷ a))) _ (ap is_yield_word (next_of t a e)) (yes (has_operand a) _ q
      (node (seq _ _ (sub.assign d l) (λ _. done _ _) (omega arith)))))
  get-assign (assign-arrow {t = t} {h = h} {i = i} {a = a} {m = m} n d e f o y) l =
      along (by_start a n) (node (arrow_by_head d (omega arith) (λ w. take _ _ (sign_is t m e f) (no (is_open_brace (next m)) _ o (seq {i = h} _ _ (sub.assign y l) (λ _. got w refl) (omega arith))))))
  get-assign (assign-arrow_block {t = t} {a = a} {m = m} n d e f u) l =
      along (by_start a n) (node (arrow_by_head d (omega arith) (λ w. take _ _ (sign_is t m e f) (yes (is_open_brace (next m)) _ (unread_next u) (take _ _ (unread_is u) (got w refl))))))

  -- ---- an Expr

  run-commas : {xs : List Expr} {h : ℕ} {a b : Tokens} → SpCommas xs h a b → 12 < after b → Run r.goes_on_comma (r.next_assign inner) inner.room xs h a b
  unfolding r.goes_on_comma r.next_assign
  run-commas commas-none s = run-none
  run-commas (commas-more {t = t} {a = a} e d q) s =
      run-more (ap is_comma (next_of t a e)) (take _ _ (skipped t a) (sub.assign d (commas_follow q s))) (let z = shorter (past-assign d) in omega arith) (run-commas q s)

  get-commas : (f H : ℕ) {xs : List Expr} {h : ℕ} {a b : Tokens} → SpCommas xs h a b → 12 < after b → f ≤ inner.room → H ≡ max f h
      → Gets inner.room H (r.commas inner f a) (xs, H) b
  unfolding r.commas count
  get-commas f H {xs = xs} {a = a} {b = b} d s l e = many_gets (length a) f H [] xs (run-commas d s) (no_comma b s) (omega arith) l refl e

  pub get-expr : {x : Expr} {h : ℕ} {a b : Tokens} → SpExpr x h a b → 12 < after b → Gets (suc inner.room) h (r.expr inner a) (x, h) b
  unfolding r.expr r.expr_after r.goes_on_comma
  get-expr (expr-one {b = b} d) s = seq _ _ (get-assign d (omega arith)) (λ _. no (is_comma (next b)) _ (comma_stops b s) (done _ _)) (omega arith)
  get-expr (expr-comma {h = h} {i = i} {m = m} d q) s =
      seq {i = suc (max h i)} _ _ (get-assign d (commas_follow q s)) (λ _. yes (is_comma (next m)) _ (commas_next q)
      (fitting inner h m _ (λ f. seq _ _ (get-commas h (max h i) q s f refl) (λ _. done _ _) (omega arith)) (omega arith))) (omega arith)
