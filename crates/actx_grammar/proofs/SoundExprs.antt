-- Operators, assignments, arrows and Expr that are read are spelled.
use Rattle.std.proofs.Common.{◌≡◌, ◌∙◌, ℕ, zero, suc, ◌≤◌, ◌==◌, nat_lt, max, Bool, true, false, not, ◌&&◌, if◌then◌else◌, List, [], ◌∷◌, Option, Some, None, refl, sym, ap, subst, arith}
use Rattle.actx_text.specs.declared.units.Units.{Units}
use Rattle.actx_lex.specs.declared.token.Token.{Token}
use Rattle.actx_lex.specs.declared.token.TokenKind.TheVariants as k
use Rattle.actx_lex.specs.declared.token.Punct.TheVariants as p
use Rattle.actx_tree.specs.declared.operator.BinaryOp.{BinaryOp}
use Rattle.actx_tree.specs.declared.operator.UnaryOp.{UnaryOp}
use Rattle.actx_tree.specs.declared.operator.StepOp.{StepOp}
use Rattle.actx_tree.specs.declared.operator.AssignOp.{AssignOp}
use Rattle.actx_tree.specs.declared.expr.Expr.{Expr, the_lemmas}
use Rattle.actx_tree.specs.declared.expr.Expr.TheVariants as e
use Rattle.actx_tree.specs.declared.expr.Operand.{Operand}
use Rattle.actx_tree.specs.declared.pattern.Params.{Params}
use Rattle.actx_tree.specs.Parts.{operand_of, elem_of, params_of}
use Rattle.actx_grammar.specs.declared.error.Cause.TheVariants.{NoTree, TooNested}
use Rattle.actx_grammar.specs.declared.kind.Kind.{Kind}
use Rattle.actx_grammar.specs.declared.kind.Kind.TheVariants as kind
use Rattle.actx_tree.specs.declared.pattern.Target.TheVariants as a_target
use Rattle.std.proofs.lemmas.Bool.{cases_lt}
use Rattle.std.proofs.Common.{inl, inr}
use Rattle.std.proofs.lemmas.Bool.Decides.{nat_tests}
use Rattle.actx_tree.specs.declared.function.Unread.{Unread}
use Rattle.actx_grammar.specs.Kinds.{kind_of, is_comma, is_colon, is_question, is_name, is_open_brace, is_arrow_sign, is_yield_word, binary_op, level_of, unary_op, step_op, assign_op}
use Rattle.actx_grammar.specs.Tokens.{Tokens, Is, next, behind, is_on_line, is_async, is_async_word, has_arrow, arrow_start, has_operand}
use Rattle.actx_grammar.specs.Places.{is_place, is_logical}
use Rattle.actx_grammar.specs.Reader.{Read, Inner, and_then, count}
use Rattle.actx_grammar.specs.Patterns.{target_by, begins_pattern}
use Rattle.actx_grammar.specs.Lines as r
use Rattle.actx_grammar.specs.Lines.{below, line_of, sunk}
use Rattle.actx_grammar.specs.Grammar.{SpTarget, target-name, SpUnread, SpExpr, expr-one, expr-comma, SpCommas, commas-none, commas-more, SpAssign, assign-cond, assign-place, assign-yield, assign-yield_of, assign-arrow, assign-arrow_block, SpArrowHead, arrow_head-plain, arrow_head-async, SpArrowParams, arrow_params-name, arrow_params-list, SpCond, cond-one, cond-test, SpShort, short-or, short-coalesce, SpLevel, level-unary, level-one, level-chain, SpOperands, operands-none, operands-more, SpUnary, unary-op, unary-before, unary-after, unary-left, SpLeft}
use Rattle.actx_grammar.proofs.Firsts.{both_first, both_second}
use Rattle.actx_grammar.proofs.Tests as is
use Rattle.actx_grammar.proofs.GetExprs.{chain_logical}
use Rattle.actx_grammar.proofs.Holds.{Holds, done, fails, step, bind, branch, map, fit, Low, Taken, taken, taken_if, sound-expect, Star, star-none, star-more, ListedSome, sound-some}
use Rattle.actx_grammar.proofs.SoundParts.{Token_of, token_of, sound-name, sound-unread}
use Rattle.actx_grammar.proofs.Sounds.{Sounds}
use Rattle.actx_grammar.proofs.SoundPatterns.{sound-target, sound-params}
use Rattle.actx_grammar.proofs.SoundLefts.{sound-left, sound-made}

-- ---- what may be assigned to is a Left

place_unary : {x : Expr} {h : ℕ} {a b : Tokens} → SpUnary x h a b → is_place x ≡ true → SpLeft x h a b
place_unary (unary-op g d) p = let q = simp the_lemmas at p in Prim.absurd (cc)
place_unary (unary-before g d o) p = let q = simp the_lemmas at p in Prim.absurd (cc)
place_unary (unary-after d o g f) p = let q = simp the_lemmas at p in Prim.absurd (cc)
place_unary (unary-left d) p = d

place_level : {l : ℕ} {x : Expr} {h : ℕ} {a b : Tokens} → SpLevel l x h a b → is_place x ≡ true → SpLeft x h a b
place_level (level-unary d) p = place_unary d p
place_level (level-one d) p = place_level d p
place_level (level-chain d q) p = let z = simp the_lemmas at p in Prim.absurd (cc)

place_short : {x : Expr} {h : ℕ} {a b : Tokens} → SpShort x h a b → is_place x ≡ true → SpLeft x h a b
place_short (short-or d) p = place_level d p
place_short (short-coalesce d q) p = let z = simp the_lemmas at p in Prim.absurd (cc)

place_cond : {x : Expr} {h : ℕ} {a b : Tokens} → SpCond x h a b → is_place x ≡ true → SpLeft x h a b
place_cond (cond-one d) p = place_short d p
place_cond (cond-test d q y c z) p = let w = simp the_lemmas at p in Prim.absurd (cc)

-- ---- what is no chain of `||` or `&&` is of the level of `==`

still_logical : (n : ℕ) (x y : Expr) (op : BinaryOp) (ys : List Operand) → level_of op ≡ suc n → 4 ≤ n → is_logical (e.Chain x (operand_of op y ∷ ys)) ≡ false → ⊥
still_logical n x y op ys le g q = let c = chain_logical x y op ys in let t : nat_lt 4 (level_of op) ≡ true = grind (arith, nat_tests) in Prim.absurd (cc)

to_equality : {l : ℕ} {x : Expr} {h : ℕ} {a b : Tokens} → SpLevel l x h a b → 4 ≤ l → is_logical x ≡ false → SpLevel 4 x h a b
to_equality (level-unary d) g q = Prim.absurd (omega arith)
to_equality (level-one {l = n} {x = x} {h = h} {a = a} {b = b} d) g q =
    elim (cases_lt n 4) [ inl lt ↦ subst (λ l. SpLevel l x h a b) (let z : suc n ≡ 4 = omega arith in z) (level-one d) | inr ge ↦ to_equality d ge q ]
to_equality (level-chain {l = n} {x = x} {h = h} {a = a} {b = b} d (operands-more {op = op} {x = y} {xs = ys} {h = i} {i = j} g' le c r)) g q =
    elim (cases_lt n 4) [
      | inl lt ↦ subst (λ l. SpLevel l (e.Chain x (operand_of op y ∷ ys)) (suc (max h (max i j))) a b) (let z : suc n ≡ 4 = omega arith in z) (level-chain d (operands-more g' le c r))
      | inr ge ↦ Prim.absurd (still_logical n x y op ys le ge q)
    ]

-- ---- operators with their operands

data OperandOf (own l : ℕ) : Operand → ℕ → Tokens → Tokens → Type 0 where
  operand_at : {t : Token} {op : BinaryOp} {x : Expr} {h : ℕ} {a b : Tokens} → binary_op (kind_of t.kind) ≡ Some op → level_of op ≡ own → SpLevel l x h a b
      → OperandOf own l (operand_of op x) h (t ∷ a) b

operands_of : {own l : ℕ} {xs : List Operand} {h : ℕ} {a b : Tokens} → Star (OperandOf own l) xs h a b → SpOperands own l xs h a b
operands_of star-none = operands-none
operands_of (star-more (operand_at g le d) q) = operands-more g le d (operands_of q)

equal_levels : (op : BinaryOp) (own : ℕ) (c : Bool) → (level_of op == own) ≡ c → (op' : BinaryOp) → (if c then Some op else None) ≡ Some op' → (op ≡ op') × (level_of op ≡ own)
equal_levels op own true g op' q = (cc, grind (arith, nat_tests))
equal_levels op own false g op' q = Prim.absurd (cc)

of_level_some : (own : ℕ) (o : Option BinaryOp) (op : BinaryOp) → r.of_level own o ≡ Some op → (o ≡ Some op) × (level_of op ≡ own)
of_level_some own None op q = Prim.absurd (cc)
of_level_some own (Some o) op q = let z = equal_levels o own (level_of o == own) refl op q in (ap (λ s. Some s) z.0, ap level_of (sym z.0) ∙ z.1)

-- ---- commas with their Assign

data CommaOf : Expr → ℕ → Tokens → Tokens → Type 0 where
  comma_at : {t : Token} {x : Expr} {h : ℕ} {a b : Tokens} → Is (kind.Sign p.Comma) t → SpAssign x h a b → CommaOf x h (t ∷ a) b

commas_of : {xs : List Expr} {h : ℕ} {a b : Tokens} → Star CommaOf xs h a b → SpCommas xs h a b
commas_of star-none = commas-none
commas_of (star-more (comma_at g d) q) = commas-more g d (commas_of q)

after_comma : {x : Expr} {h : ℕ} {a m b : Tokens} → Taken is_comma a m → SpAssign x h m b → CommaOf x h a b
after_comma (taken {t = t} g) d = comma_at (is.comma (kind_of t.kind) g) d

-- ---- arrows

data Tight : Tokens → Tokens → Type 0 where
  tight : {t : Token} {b : Tokens} → Is (kind.Sign p.Arrow) t → t.first ≡ false → Tight (t ∷ b) b

not_first : (f : Bool) → not f ≡ true → f ≡ false
not_first true q = Prim.absurd (cc)
not_first false q = refl

tight_if : (a : Tokens) → (is_arrow_sign (next a) && is_on_line a) ≡ true → Tight a (behind a)
unfolding next is_on_line behind
tight_if [] q = Prim.absurd (cc)
tight_if (t ∷ ts) q = tight (is.arrow_sign (kind_of t.kind) (both_first _ _ q)) (not_first t.first (both_second _ _ q))

sound-arrow_sign : (a : Tokens) → Holds (λ _ b. Tight a b) (r.arrow_sign a)
unfolding r.arrow_sign
sound-arrow_sign a = branch (is_arrow_sign (next a) && is_on_line a) (λ q. done _ _ (tight_if a q)) (λ _. fails NoTree)

async_by : (c d : Bool) → (if c then Some false else (if d then Some true else None)) ≡ Some true → d ≡ true
async_by true d q = let z : false ≡ true = cc in Prim.absurd (cc)
async_by false true q = refl
async_by false false q = Prim.absurd (cc)

data AsyncTaken : Tokens → Tokens → Type 0 where
  async_taken : {t : Token} {b : Tokens} → is_async_word t.kind ≡ true → is_on_line b ≡ true → AsyncTaken (t ∷ b) b

async_here : (a : Tokens) → is_async a ≡ true → AsyncTaken a (behind a)
unfolding is_async behind
async_here [] q = Prim.absurd (cc)
async_here (t ∷ ts) q = async_taken (both_first _ _ q) (both_second _ _ q)

async_start : (a : Tokens) → arrow_start a ≡ Some true → AsyncTaken a (behind a)
unfolding arrow_start
async_start a q = async_here a (both_first _ _ (async_by (has_arrow a) (is_async a && has_arrow (behind a)) q))

async_head : {ps : Params} {h : ℕ} {a m b : Tokens} → AsyncTaken a m → SpArrowParams ps h m b → SpArrowHead true ps h a b
async_head (async_taken g l) d = arrow_head-async g l d

arrow_of : {s : Bool} {ps : Params} {y : Expr} {h i : ℕ} {a m q b : Tokens} → arrow_start a ≡ Some s → SpArrowHead s ps h a m → Tight m q → is_open_brace (next q) ≡ false → SpAssign y i q b
    → SpAssign (e.Arrow s ps y) (suc (max h i)) a b
arrow_of n d (tight g f) o y = assign-arrow n d g f o y

arrow_block_of : {s : Bool} {ps : Params} {u : Unread} {h : ℕ} {a m q b : Tokens} → arrow_start a ≡ Some s → SpArrowHead s ps h a m → Tight m q → SpUnread u q b
    → SpAssign (e.ArrowBlock s ps u) (suc h) a b
arrow_block_of n d (tight g f) u = assign-arrow_block n d g f u

named_params : {n : Units} {a b : Tokens} → Token_of (k.Name n) a b → SpArrowParams (params_of (elem_of (a_target.Name n) None ∷ []) None) 0 a b
named_params (token_of g) = arrow_params-name g

-- ---- yield, conditions, places

yield_one : {x : Expr} {h : ℕ} {a m b : Tokens} → Taken is_yield_word a m → has_operand m ≡ true → SpAssign x h m b → SpAssign (e.Yield (Some x)) (suc h) a b
yield_one (taken {t = t} g) o d = assign-yield_of (is.yield_word (kind_of t.kind) g) o d

yield_none : {a b : Tokens} → Taken is_yield_word a b → has_operand b ≡ false → SpAssign (e.Yield None) 1 a b
yield_none (taken {t = t} g) o = assign-yield (is.yield_word (kind_of t.kind) g) o

conditional : {x y z : Expr} {h i j : ℕ} {a m n q s b : Tokens} → SpShort x h a m → Taken is_question m n → SpAssign y i n q → Taken is_colon q s → SpAssign z j s b
    → SpCond (e.Conditional x y z) (suc (max h (max i j))) a b
conditional d (taken {t = t} g) y (taken {t = u} f) z = cond-test d (is.question (kind_of t.kind) g) y (is.colon (kind_of u.kind) f) z

-- the next token, whatever is asked of it
data Head (P : Kind → Type 0) : Tokens → Tokens → Type 0 where
  head : {t : Token} {b : Tokens} → P (kind_of t.kind) → Head P (t ∷ b) b

head_of : (P : Kind → Type 0) (a : Tokens) → (P kind.End → ⊥) → P (next a) → Head P a (behind a)
unfolding next behind
head_of P [] n q = Prim.absurd (n q)
head_of P (t ∷ ts) n q = head q

assigned : {x y : Expr} {op : AssignOp} {h i : ℕ} {a m n b : Tokens} → arrow_start a ≡ None → SpLeft x h a m → is_place x ≡ true → Head (λ s. assign_op s ≡ Some op) m n → SpAssign y i n b
    → SpAssign (e.Assign x op y) (suc (max h i)) a b
assigned n d q (head g) y = assign-place n d q g y

operated : {x : Expr} {op : UnaryOp} {h : ℕ} {a m b : Tokens} → Head (λ s. unary_op s ≡ Some op) a m → SpUnary x h m b → SpUnary (e.Unary op x) (suc h) a b
operated (head g) d = unary-op g d

stepped : {x : Expr} {op : StepOp} {h : ℕ} {a m b : Tokens} → Head (λ s. step_op s ≡ Some op) a m → SpLeft x h m b → is_place x ≡ true → SpUnary (e.StepBefore op x) (suc h) a b
stepped (head g) d q = unary-before g d q

data StepTaken (op : StepOp) : Tokens → Tokens → Type 0 where
  step_taken : {t : Token} {b : Tokens} → step_op (kind_of t.kind) ≡ Some op → t.first ≡ false → StepTaken op (t ∷ b) b

step_by : (t : Token) (b : Tokens) (op : StepOp) (f : Bool) → t.first ≡ f → (if not f then step_op (kind_of t.kind) else None) ≡ Some op → StepTaken op (t ∷ b) b
step_by t b op true g q = Prim.absurd (cc)
step_by t b op false g q = step_taken q g

step_at_is : (a : Tokens) (op : StepOp) → r.step_at a ≡ Some op → StepTaken op a (behind a)
unfolding r.step_at is_on_line next behind
step_at_is [] op q = Prim.absurd (cc)
step_at_is (t ∷ ts) op q = step_by t ts op t.first refl q

after_step : {x : Expr} {op : StepOp} {h : ℕ} {a m b : Tokens} → SpLeft x h a m → is_place x ≡ true → StepTaken op m b → SpUnary (e.StepAfter x op) (suc h) a b
after_step d q (step_taken g f) = unary-after d q g f

module _ (inner : Inner) (sub : Sounds inner) where
  -- ---- unary operators

  step_after_kind : (a : Tokens) (x : Read Expr) (m : Tokens) → Low (suc inner.room) SpLeft a x m → (o : Option StepOp) → r.step_at m ≡ o → Holds (Low (suc inner.room) SpUnary a) (r.step_after inner o x m)
  step_after_kind a x m d None q = done _ _ (record { low = d.low; is = unary-left d.is })
  step_after_kind a x m d (Some op) q = branch (is_place x.0)
      (λ g. fit inner x.1 m _ (λ l. step _ _ _ (done _ _ (record { low = omega arith; is = after_step d.is g (step_at_is m op q) }))))
      (λ _. fails NoTree)

  sound-plain : (a : Tokens) → Holds (Low (suc inner.room) SpUnary a) (and_then (r.left inner a) (r.unary_after inner))
  unfolding r.unary_after
  sound-plain a = bind _ _ (sound-left inner sub a) (λ x m d. step_after_kind a x m d (r.step_at m) refl)

  step_before_kind : (a : Tokens) (o : Option StepOp) → step_op (next a) ≡ o → Holds (Low (suc inner.room) SpUnary a) (r.step_before inner o a)
  step_before_kind a None q = sound-plain a
  step_before_kind a (Some op) q = step _ _ _ (bind _ _ (sub.left (behind a)) (λ x b d. branch (is_place x.0)
      (λ g. done _ _ (record { low = omega (arith, d.low); is = stepped (head_of (λ s. step_op s ≡ Some op) a (λ z. cc) q) d.is g }))
      (λ _. fails NoTree)))

  unary_kind : (a : Tokens) (o : Option UnaryOp) → unary_op (next a) ≡ o → Holds (Low (suc inner.room) SpUnary a) (r.unary_from inner o (step_op (next a)) a)
  unary_kind a None q = step_before_kind a (step_op (next a)) refl
  unary_kind a (Some op) q = step _ _ _ (bind _ _ (sub.unary (behind a)) (λ x b d. done _ _ (record { low = omega (arith, d.low); is = operated (head_of (λ s. unary_op s ≡ Some op) a (λ z. cc) q) d.is })))

  pub sound-unary : (a : Tokens) → Holds (Low (suc inner.room) SpUnary a) (r.unary inner a)
  unfolding r.unary
  sound-unary a = unary_kind a (unary_op (next a)) refl

  -- ---- chains

  operand_kind : (own l : ℕ) (t : Token) (ts : Tokens) (o : Option BinaryOp) → r.of_level own (binary_op (kind_of t.kind)) ≡ o → Holds (Low inner.room (OperandOf own l) (t ∷ ts)) (r.operand_from inner l o (t ∷ ts))
  unfolding behind
  operand_kind own l t ts None q = fails NoTree
  operand_kind own l t ts (Some op) q = let z = of_level_some own (binary_op (kind_of t.kind)) op q in
      step _ _ _ (bind _ _ (sub.level l ts) (λ x b d. done _ _ (record { low = d.low; is = operand_at z.0 z.1 d.is })))

  sound-operand : (own l : ℕ) (a : Tokens) → Holds (Low inner.room (OperandOf own l) a) (r.operand inner own l a)
  unfolding r.operand r.operator_at next
  sound-operand own l [] = fails NoTree
  sound-operand own l (t ∷ ts) = operand_kind own l t ts (r.of_level own (binary_op (kind_of t.kind))) refl

  sound-operands : (own l f : ℕ) (a : Tokens) → f ≤ inner.room → r.has_operator own a ≡ true → Holds (ListedSome inner.room (OperandOf own l) f a) (r.operands inner own l f a)
  unfolding r.operands r.operator_at next count
  sound-operands own l f a b g = sound-some (λ m _. sound-operand own l m) refl f a b g

  chained : {x : Expr} {h i j l : ℕ} {xs ys : List Operand} {y : Operand} {a m b : Tokens} → SpLevel l x h a m → Star (OperandOf (suc l) l) (y ∷ ys) i m b → xs ≡ y ∷ ys → j ≡ max h i
      → SpLevel (suc l) (e.Chain x xs) (suc j) a b
  chained {x = x} {h = h} {i = i} {l = l} {xs = xs} {a = a} {b = b} d s g q =
      subst (λ z. SpLevel (suc l) (e.Chain x xs) (suc z) a b) (sym q) (subst (λ ys. SpLevel (suc l) (e.Chain x ys) (suc (max h i)) a b) (sym g) (level-chain d (operands_of s)))

  coalesced : {x : Expr} {h i j : ℕ} {xs ys : List Operand} {y : Operand} {a m b : Tokens} → SpLevel 4 x h a m → Star (OperandOf 7 4) (y ∷ ys) i m b → xs ≡ y ∷ ys → j ≡ max h i
      → SpShort (e.Chain x xs) (suc j) a b
  coalesced {x = x} {h = h} {i = i} {xs = xs} {a = a} {b = b} d s g q =
      subst (λ z. SpShort (e.Chain x xs) (suc z) a b) (sym q) (subst (λ ys. SpShort (e.Chain x ys) (suc (max h i)) a b) (sym g) (short-coalesce d (operands_of s)))

  pub sound-level : (l : ℕ) (a : Tokens) → Holds (Low (suc inner.room) (SpLevel l) a) (r.level inner l a)
  unfolding r.level r.chain_after
  sound-level zero a = map (λ v b d. record { low = d.low; is = level-unary d.is }) (sound-unary a)
  sound-level (suc l) a = bind _ _ (sound-level l a) (λ x m d. branch (r.has_operator (suc l) m)
      (λ g. fit inner x.1 m _ (λ f. bind _ _ (sound-operands (suc l) l x.1 m f g) (λ xs b z. done _ _ (record { low = omega (arith, z.low); is = chained d.is z.is z.list z.high }))))
      (λ _. done _ _ (record { low = d.low; is = level-one d.is })))

  not_both : (c d : Bool) → c ≡ true → (c && d) ≡ false → d ≡ false
  not_both true d g q = q
  not_both false d g q = Prim.absurd (cc)

  sound-short : (a : Tokens) → Holds (Low (suc inner.room) SpShort a) (r.short inner a)
  unfolding r.short r.short_after r.chain_after
  sound-short a = bind _ _ (sound-level 6 a) (λ x m d. branch (r.has_operator 7 m && is_logical x.0) (λ _. fails NoTree)
      (λ n. branch (r.has_operator 7 m)
      (λ g. fit inner x.1 m _ (λ f. bind _ _ (sound-operands 7 4 x.1 m f g) (λ xs b z. done _ _ (record {
        low = omega (arith, z.low);
        is = coalesced (to_equality d.is (omega arith) (not_both (r.has_operator 7 m) (is_logical x.0) g n)) z.is z.list z.high;
      }))))
      (λ _. done _ _ (record { low = d.low; is = short-or d.is }))))

  sound-cond : (a : Tokens) → Holds (Low (suc inner.room) SpCond a) (r.cond inner a)
  unfolding r.cond r.cond_after
  sound-cond a = bind _ _ (sound-short a) (λ x m d. branch (is_question (next m))
      (λ q. fit inner x.1 m _ (λ l. step _ _ _ (bind _ _ (sub.assign (behind m)) (λ y n c. bind _ _ (sound-expect is_colon n refl) (λ _ s f. bind _ _ (sub.assign s)
      (λ z b g. done _ _ (record { low = omega (arith, c.low, g.low); is = conditional d.is (taken_if is_question m refl q) c.is f g.is })))))))
      (λ _. done _ _ (record { low = d.low; is = cond-one d.is })))

  -- ---- assignments and arrows

  sound-arrow_params : (a : Tokens) → Holds (Low inner.room SpArrowParams a) (r.arrow_params inner a)
  unfolding r.arrow_params
  sound-arrow_params a = branch (is_name (next a)) (λ _. bind _ _ (sound-name a) (λ n b d. done _ _ (record { low = omega arith; is = named_params d })))
      (λ _. map (λ v b d. record { low = d.low; is = arrow_params-list d.is }) (sound-params inner sub a))

  sound-arrow_tail : (s : Bool) (a c : Tokens) → arrow_start c ≡ Some s → ((ps : Params) (h : ℕ) (m : Tokens) → SpArrowParams ps h a m → SpArrowHead s ps h c m)
      → Holds (Low (suc inner.room) SpAssign c) (r.arrow_tail inner s a)
  unfolding r.arrow_tail r.arrow_body
  sound-arrow_tail s a c n top = bind _ _ (sound-arrow_params a) (λ ps m d. bind _ _ (sound-arrow_sign m) (λ _ q g. branch (is_open_brace (next q))
      (λ _. bind _ _ (sound-unread q) (λ u b f. done _ _ (record { low = omega (arith, d.low); is = arrow_block_of n (top _ _ _ d.is) g f })))
      (λ o. bind _ _ (sub.assign q) (λ y b f. done _ _ (record { low = omega (arith, d.low, f.low); is = arrow_of n (top _ _ _ d.is) g o f.is })))))

  sound-arrow : (s : Bool) (a : Tokens) → arrow_start a ≡ Some s → Holds (Low (suc inner.room) SpAssign a) (r.arrow inner s a)
  sound-arrow true a n = step _ _ _ (sound-arrow_tail true (behind a) a n (λ ps h m d. async_head (async_start a n) d))
  sound-arrow false a n = sound-arrow_tail false a a n (λ ps h m d. arrow_head-plain d)

  sound-yield : (a : Tokens) → is_yield_word (next a) ≡ true → Holds (Low (suc inner.room) SpAssign a) (r.yield_form inner (behind a))
  unfolding r.yield_form
  sound-yield a g = branch (has_operand (behind a))
      (λ o. bind _ _ (sub.assign (behind a)) (λ x b d. done _ _ (record { low = omega (arith, d.low); is = yield_one (taken_if is_yield_word a refl g) o d.is })))
      (λ o. done _ _ (record { low = omega arith; is = yield_none (taken_if is_yield_word a refl g) o }))

  assign_kind : (a : Tokens) → arrow_start a ≡ None → (x : Read Expr) (m : Tokens) → Low (suc inner.room) SpCond a x m → (o : Option AssignOp) → assign_op (next m) ≡ o
      → Holds (Low (suc inner.room) SpAssign a) (r.assign_to inner o x m)
  assign_kind a n x m d None q = done _ _ (record { low = d.low; is = assign-cond n d.is })
  assign_kind a n x m d (Some op) q = branch (is_place x.0)
      (λ g. fit inner x.1 m _ (λ l. step _ _ _ (bind _ _ (sub.assign (behind m)) (λ y b c. done _ _ (record {
        low = omega (arith, c.low);
        is = assigned n (place_cond d.is g) g (head_of (λ s. assign_op s ≡ Some op) m (λ z. cc) q) c.is;
      })))))
      (λ _. fails NoTree)

  start_kind : (a : Tokens) (o : Option Bool) → arrow_start a ≡ o → Holds (Low (suc inner.room) SpAssign a) (r.assign_from inner o a)
  unfolding r.assign_after
  start_kind a (Some s) n = sound-arrow s a n
  start_kind a None n = branch (is_yield_word (next a)) (λ g. sound-yield a g) (λ _. bind _ _ (sound-cond a) (λ x m d. assign_kind a n x m d (assign_op (next m)) refl))

  pub sound-assign : (a : Tokens) → Holds (Low (suc inner.room) SpAssign a) (r.assign inner a)
  unfolding r.assign
  sound-assign a = start_kind a (arrow_start a) refl

  -- ---- an Expr

  sound-next_assign : (a : Tokens) → r.goes_on_comma a ≡ true → Holds (Low inner.room CommaOf a) (r.next_assign inner a)
  unfolding r.next_assign r.goes_on_comma
  sound-next_assign a g = step _ _ _ (map (λ v b d. record { low = d.low; is = after_comma (taken_if is_comma a refl g) d.is }) (sub.assign (behind a)))

  sound-commas : (f : ℕ) (a : Tokens) → f ≤ inner.room → r.goes_on_comma a ≡ true → Holds (ListedSome inner.room CommaOf f a) (r.commas inner f a)
  unfolding r.commas r.goes_on_comma next count
  sound-commas f a l g = sound-some sound-next_assign refl f a l g

  listed : {x : Expr} {h i j : ℕ} {xs ys : List Expr} {y : Expr} {a m b : Tokens} → SpAssign x h a m → Star CommaOf (y ∷ ys) i m b → xs ≡ y ∷ ys → j ≡ max h i → SpExpr (e.Comma x xs) (suc j) a b
  listed {x = x} {h = h} {i = i} {xs = xs} {a = a} {b = b} d s g q =
      subst (λ z. SpExpr (e.Comma x xs) (suc z) a b) (sym q) (subst (λ ys. SpExpr (e.Comma x ys) (suc (max h i)) a b) (sym g) (expr-comma d (commas_of s)))

  pub sound-expr : (a : Tokens) → Holds (Low (suc inner.room) SpExpr a) (r.expr inner a)
  unfolding r.expr r.expr_after
  sound-expr a = bind _ _ (sound-assign a) (λ x m d. branch (r.goes_on_comma m)
      (λ g. fit inner x.1 m _ (λ l. bind _ _ (sound-commas x.1 m l g) (λ xs b z. done _ _ (record { low = omega (arith, z.low); is = listed d.is z.is z.list z.high }))))
      (λ _. done _ _ (record { low = d.low; is = expr-one d.is })))

-- ---- the knot

flat_target : (a : Tokens) → Holds (Low 0 SpTarget a) (target_by sunk a)
unfolding target_by
flat_target a = branch (is_name (next a)) (λ _. bind _ _ (sound-name a) (λ n b d. done _ _ (record { low = omega arith; is = named d })))
    (λ _. branch (begins_pattern (next a)) (λ _. fails TooNested) (λ _. fails NoTree))
  where
    named : {n : Units} {a b : Tokens} → Token_of (k.Name n) a b → SpTarget (a_target.Name n) 0 a b
    named (token_of g) = target-name g

pub sounds : (n : ℕ) → Sounds (below n)
unfolding below line_of
sounds zero = record {
  expr = λ a. fails TooNested;
  assign = λ a. fails TooNested;
  unary = λ a. fails TooNested;
  level = λ l a. fails TooNested;
  left = λ a. fails TooNested;
  made = λ a. fails TooNested;
  target = flat_target;
}
sounds (suc n) = record {
  expr = sound-expr (below n) (sounds n);
  assign = sound-assign (below n) (sounds n);
  unary = sound-unary (below n) (sounds n);
  level = sound-level (below n) (sounds n);
  left = sound-left (below n) (sounds n);
  made = sound-made (below n) (sounds n);
  target = sound-target (below n) (sounds n);
}
