-- Patterns, parameters, functions, methods and classes: what is spelled is read, or has too many levels.
use Rattle.std.proofs.Common.{◌≡◌, ◌∙◌, ℕ, zero, suc, ◌<◌, ◌≤◌, max, Bool, true, false, List, [], ◌∷◌, ◌++◌, length, Option, None, refl, sym, ap, arith, append_assoc, append-nil}
use Rattle.actx_text.specs.declared.units.Units.{Units}
use Rattle.actx_lex.specs.declared.token.Token.{Token}
use Rattle.actx_lex.specs.declared.token.Punct.TheVariants as p
use Rattle.actx_tree.specs.declared.expr.Expr.{Expr}
use Rattle.actx_tree.specs.declared.expr.Expr.{the_lemmas}
use Rattle.actx_tree.specs.declared.expr.Key.{Key}
use Rattle.actx_tree.specs.declared.function.Flow.{Flow}
use Rattle.actx_tree.specs.declared.function.Unread.{Unread}
use Rattle.actx_tree.specs.declared.function.Function.{Function}
use Rattle.actx_tree.specs.declared.function.Method.{Method}
use Rattle.actx_tree.specs.declared.function.Class.{Class}
use Rattle.actx_tree.specs.declared.function.Member.{Member}
use Rattle.actx_tree.specs.declared.pattern.Target.{Target}
use Rattle.actx_tree.specs.declared.pattern.Prop.{Prop}
use Rattle.actx_tree.specs.declared.pattern.Elem.{Elem}
use Rattle.actx_tree.specs.declared.pattern.Params.{Params}
use Rattle.actx_grammar.specs.declared.kind.Kind.{Kind}
use Rattle.actx_grammar.specs.declared.kind.Kind.TheVariants as kind
use Rattle.actx_grammar.specs.declared.bracket.Bracket.{Bracket}
use Rattle.actx_grammar.specs.declared.bracket.Bracket.TheVariants as bracket
use Rattle.actx_grammar.specs.Kinds.{closes, closing, assign_op, is_comma, is_colon, is_equals, is_dots, is_name, is_open_parenthesis, is_open_bracket, is_open_brace, is_class_word, is_extends_word, is_semicolon}
use Rattle.actx_grammar.specs.Tokens.{Tokens, Is, next, behind}
use Rattle.actx_grammar.specs.Places.{is_plain_key, has_plain_key}
use Rattle.actx_grammar.specs.Reader.{Inner, count}
use Rattle.actx_grammar.specs.Patterns as r
use Rattle.actx_grammar.specs.Patterns.{ends_elems, begins_pattern}
use Rattle.actx_tree.specs.Parts.{method_of, member_of}
use Rattle.actx_grammar.specs.Grammar.{SpUnread, SpRestName, rest_name-none, rest_name-some, SpTarget, target-name, target-object, target-object_rest, target-array, target-array_rest, SpProps, props-none, props-last, props-more, SpProp, prop-name, prop-pair, SpElems, elems-none, elems-last, elems-more, SpElem, elem, SpDefault, default-none, default-some, SpParams, params, SpRestTarget, rest-none, rest-some, SpFunction, function, SpMethod, method, SpClass, class-base, class-derived, SpMembers, members-none, members-semicolon, members-more, SpMember, member-static, member-plain, SpKey, key-literal, key-computed}
use Rattle.actx_grammar.proofs.Past.{shorter}
use Rattle.actx_grammar.proofs.PastLines.{past-elem, past-prop, past-member}
use Rattle.actx_grammar.proofs.Following.{after, following, after_is, behind_is, no_assign}
use Rattle.actx_grammar.proofs.Firsts.{first-elem, first-prop, behind-literal, literal_no_bracket, member_not_end, member_not_semicolon}
use Rattle.actx_grammar.proofs.Gets.{Gets, got, along, yes, no, take, seq, node, done, fitted, next_of, skipped, expected, closes_closing, closed, tested_left, Row, row-none, row-last, row-more, row_gets}
use Rattle.actx_grammar.proofs.Parts.{name_is, is_name_of, optional_is, rest_is, literal_is, unread_is, function_head_is, method_head_is}
use Rattle.actx_grammar.proofs.Completes.{Completes}

-- ---- what comes next

no_equals : (sort : Kind) → assign_op sort ≡ None → is_equals sort ≡ false
no_equals (kind.Sign p.Assign) e = Prim.absurd (cc)
no_equals _ e = refl

following_closing : (c : Bracket) (line : Bool) → following (closing c) line ≡ 13
following_closing bracket.Round line = refl
following_closing bracket.Square line = refl
following_closing bracket.Curly line = refl

pub after_closing : (c : Bracket) (b : Tokens) → next b ≡ closing c → 12 < after b
unfolding after
after_closing c b e = rw (e, following_closing c) (omega arith)

pub closes_next : (c : Bracket) (b : Tokens) → next b ≡ closing c → closes c (next b) ≡ true
closes_next c b e = ap (closes c) e ∙ closes_closing c

pub after_comma : (t : Token) (ts : Tokens) → Is (kind.Sign p.Comma) t → 11 < after (t ∷ ts)
after_comma t ts e = rw (after_is t ts e) (omega arith)

dots_end : (c : Bracket) → ends_elems c (kind.Sign p.Ellipsis) ≡ true
dots_end bracket.Round = refl
dots_end bracket.Square = refl
dots_end bracket.Curly = refl

closing_end : (c : Bracket) → ends_elems c (closing c) ≡ true
closing_end bracket.Round = refl
closing_end bracket.Square = refl
closing_end bracket.Curly = refl

rest_name_end : {c : Bracket} {n : Option Units} {a b : Tokens} → SpRestName c n a b → ends_elems c (next a) ≡ true
unfolding next
rest_name_end {c = c} (rest_name-none e) = ap (ends_elems c) e ∙ closing_end c
rest_name_end {c = c} (rest_name-some e n f) = ap (ends_elems c) e ∙ dots_end c

rest_target_end : {x : Option Target} {h : ℕ} {a b : Tokens} → SpRestTarget x h a b → ends_elems bracket.Round (next a) ≡ true
unfolding next
rest_target_end (rest-none e) = ap (ends_elems bracket.Round) e
rest_target_end (rest-some e d f) = ap (ends_elems bracket.Round) e

end_left : (c : Bracket) (b : Tokens) → ends_elems c (next b) ≡ true → 0 < length b
end_left bracket.Round b e = tested_left (ends_elems bracket.Round) b e refl
end_left bracket.Square b e = tested_left (ends_elems bracket.Square) b e refl
end_left bracket.Curly b e = tested_left (ends_elems bracket.Curly) b e refl

default_no_colon : {d : Option Expr} {h : ℕ} {a b : Tokens} → SpDefault d h a b → is_colon (next b) ≡ false → is_colon (next a) ≡ false
default_no_colon default-none q = q
default_no_colon (default-some {t = t} {a = a} e d) q = ap is_colon (next_of t a e)

-- the key that a method is read with is the method's
plain_key : (f : Flow) (w : Key) (ps : Params) (u : Unread) → has_plain_key (method_of f w ps u) ≡ true → is_plain_key w ≡ true
plain_key f w ps u e = simp the_lemmas at e

module _ (inner : Inner) (sub : Completes inner) where
  -- ---- patterns

  get-default : {d : Option Expr} {h : ℕ} {a b : Tokens} → SpDefault d h a b → 11 < after b → Gets inner.room h (r.default_value inner a) (d, h) b
  unfolding r.default_value
  get-default (default-none {b = b}) l = no _ _ (no_equals (next b) (no_assign b l)) (done _ _)
  get-default (default-some {t = t} {a = a} e d) l = yes _ _ (ap is_equals (next_of t a e)) (take _ _ (skipped t a) (seq _ _ (sub.assign d l) (λ _. done _ _) (omega arith)))

  pub get-elem : {x : Elem} {h : ℕ} {a b : Tokens} → SpElem x h a b → 11 < after b → Gets inner.room h (r.elem inner a) (x, h) b
  unfolding r.elem
  get-elem (elem d e) l = seq _ _ (sub.target d) (λ _. seq _ _ (get-default e l) (λ _. done _ _) refl) (omega arith)

  row-elems : {c : Bracket} {xs : List Elem} {h : ℕ} {a b : Tokens} → SpElems c xs h a b → ends_elems c (next b) ≡ true → Row c (ends_elems c) (r.elem inner) inner.room xs h a b
  row-elems {c = c} (elems-none {b = b}) s = row-none s (end_left c b s)
  row-elems {c = c} (elems-last {b = b} d e) s = row-last (first-elem c d) (get-elem d (let z = after_closing c b e in omega arith)) (shorter (past-elem d)) e
  row-elems {c = c} (elems-more {t = t} {m = m} d e q) s = row-more (first-elem c d) (get-elem d (after_comma t m e)) (let z = shorter (past-elem d) in omega arith) (ap is_comma e) (row-elems q s)

  get-elems : (c : Bracket) {xs : List Elem} {h : ℕ} {a b : Tokens} → SpElems c xs h a b → ends_elems c (next b) ≡ true → Gets inner.room h (r.elems inner c a) (xs, h) b
  unfolding r.elems count
  get-elems c {xs = xs} {h = h} {a = a} d s = row_gets (length a) 0 h [] xs (row-elems d s) (omega arith) (omega arith) refl (omega arith)

  get-prop : {x : Prop} {h : ℕ} {a b : Tokens} → SpProp x h a b → 11 < after b → is_colon (next b) ≡ false → Gets inner.room h (r.prop inner a) (x, h) b
  unfolding r.prop
  get-prop (prop-name {t = t} {a = a} e d) l q =
      no (is_colon (next (behind (t ∷ a)))) _ (ap (λ z. is_colon (next z)) (behind_is t a) ∙ default_no_colon d q)
      (take _ _ (name_is t a e) (seq _ _ (get-default d l) (λ _. done _ _) (omega arith)))
  get-prop (prop-pair {t = t} {a = a} {m = m} w e d) l q =
      yes (is_colon (next (behind a))) _ (ap (λ z. is_colon (next z)) (behind-literal w) ∙ ap is_colon (next_of t m e))
      (take _ _ (literal_is w) (take _ _ (skipped t m) (seq _ _ (get-elem d l) (λ _. done _ _) (omega arith))))

  row-props : {xs : List Prop} {h : ℕ} {a b : Tokens} → SpProps xs h a b → ends_elems bracket.Curly (next b) ≡ true
      → Row bracket.Curly (ends_elems bracket.Curly) (r.prop inner) inner.room xs h a b
  row-props (props-none {b = b}) s = row-none s (end_left bracket.Curly b s)
  row-props (props-last {b = b} d e) s = row-last (first-prop d) (get-prop d (let z = after_closing bracket.Curly b e in omega arith) (ap is_colon e)) (shorter (past-prop d)) e
  row-props (props-more {t = t} {m = m} d e q) s =
      row-more (first-prop d) (get-prop d (after_comma t m e) (ap is_colon (next_of t m e))) (let z = shorter (past-prop d) in omega arith) (ap is_comma e) (row-props q s)

  get-props : {xs : List Prop} {h : ℕ} {a b : Tokens} → SpProps xs h a b → ends_elems bracket.Curly (next b) ≡ true → Gets inner.room h (r.props inner a) (xs, h) b
  unfolding r.props count
  get-props {xs = xs} {h = h} {a = a} d s = row_gets (length a) 0 h [] xs (row-props d s) (omega arith) (omega arith) refl (omega arith)

  by_kind : {sort : Kind} (a : Tokens) → next a ≡ sort → r.pattern inner a ≡ r.pattern_from inner sort a
  unfolding r.pattern
  by_kind a e = ap (λ s. r.pattern_from inner s a) e

  pub get-target : {x : Target} {h : ℕ} {a b : Tokens} → SpTarget x h a b → Gets (suc inner.room) h (r.target_by (r.pattern inner) a) (x, h) b
  unfolding r.target_by
  get-target (target-name {t = t} {b = b} e) = yes _ _ (is_name_of t b e) (take _ _ (name_is t b e) (done _ _))
  get-target (target-object {t = t} {a = a} e d q) =
      no _ _ (ap is_name (next_of t a e)) (yes _ _ (ap begins_pattern (next_of t a e)) (along (by_kind (t ∷ a) (next_of t a e))
      (node (take _ _ (skipped t a) (seq _ _ (get-props d (rest_name_end q)) (λ _. take _ _ (rest_is q) (done _ _)) (omega arith))))))
  get-target (target-object_rest {t = t} {a = a} e q) =
      no _ _ (ap is_name (next_of t a e)) (yes _ _ (ap begins_pattern (next_of t a e)) (along (by_kind (t ∷ a) (next_of t a e))
      (node (take _ _ (skipped t a) (seq _ _ (get-props props-none (rest_name_end q)) (λ _. take _ _ (rest_is q) (done _ _)) (omega arith))))))
  get-target (target-array {t = t} {a = a} e d q) =
      no _ _ (ap is_name (next_of t a e)) (yes _ _ (ap begins_pattern (next_of t a e)) (along (by_kind (t ∷ a) (next_of t a e))
      (node (take _ _ (skipped t a) (seq _ _ (get-elems bracket.Square d (rest_name_end q)) (λ _. take _ _ (rest_is q) (done _ _)) (omega arith))))))
  get-target (target-array_rest {t = t} {a = a} e q) =
      no _ _ (ap is_name (next_of t a e)) (yes _ _ (ap begins_pattern (next_of t a e)) (along (by_kind (t ∷ a) (next_of t a e))
      (node (take _ _ (skipped t a) (seq _ _ (get-elems bracket.Square elems-none (rest_name_end q)) (λ _. take _ _ (rest_is q) (done _ _)) (omega arith))))))

  get-rest_target : {x : Option Target} {h : ℕ} {a b : Tokens} → SpRestTarget x h a b → Gets inner.room h (r.rest_target inner a) (x, h) b
  unfolding r.rest_target behind
  get-rest_target (rest-none {t = t} {b = b} e) = yes _ _ (ap (closes bracket.Round) (next_of t b e)) (done _ _)
  get-rest_target (rest-some {t = t} {u = u} {a = a} {b = b} e d f) =
      no _ _ (ap (closes bracket.Round) (next_of t a e)) (take _ _ (expected is_dots t a e refl) (seq _ _ (sub.target d) (λ _. take _ _ (closed bracket.Round u b f) (done _ _)) (omega arith)))

  pub get-params : {x : Params} {h : ℕ} {a b : Tokens} → SpParams x h a b → Gets inner.room h (r.params inner a) (x, h) b
  unfolding r.params
  get-params (params {t = t} {a = a} e d q) =
      take _ _ (expected is_open_parenthesis t a e refl) (seq _ _ (get-elems bracket.Round d (rest_target_end q)) (λ _. seq _ _ (get-rest_target q) (λ _. done _ _) refl) (omega arith))

  -- ---- functions and methods

  pub get-function : {x : Function} {h : ℕ} {a b : Tokens} → SpFunction x h a b → Gets (suc inner.room) h (r.function inner a) (x, h) b
  unfolding r.function
  get-function (function f n q u) = node (take _ _ (function_head_is f) (take _ _ (optional_is n) (seq _ _ (get-params q) (λ _. take _ _ (unread_is u) (done _ _)) (omega arith))))

  pub get-key : {w : Key} {h : ℕ} {a b : Tokens} → SpKey w h a b → Gets inner.room h (r.key inner a) (w, h) b
  unfolding r.key r.computed_key
  get-key (key-literal w) = no _ _ (literal_no_bracket w) (take _ _ (literal_is w) (done _ _))
  get-key (key-computed {t = t} {u = u} {a = a} {b = b} e d f) =
      yes _ _ (ap is_open_bracket (next_of t a e)) (take _ _ (skipped t a) (seq _ _ (sub.assign d (rw (after_is u b f) (omega arith))) (λ _. take _ _ (closed bracket.Square u b f) (done _ _)) (omega arith)))

  pub get-method_tail : (f : Flow) (w : Key) (h : ℕ) {ps : Params} {u : Unread} {i : ℕ} {q s b : Tokens} → SpParams ps i q s → SpUnread u s b
      → Gets inner.room (suc (max h i)) (r.method_tail inner f (w, h) q) (method_of f w ps u, suc (max h i)) b
  unfolding r.method_tail
  get-method_tail f w h q u = seq _ _ (get-params q) (λ _. take _ _ (unread_is u) (fitted inner _ _ _ (done _ _))) (omega arith)

  -- ---- classes

  get-plain_method : (static : Bool) {x : Method} {h : ℕ} {a b : Tokens} → SpMethod x h a b → has_plain_key x ≡ true
      → Gets inner.room h (r.plain_method inner static a) (member_of static x, h) b
  unfolding r.plain_method
  get-plain_method static (method {f = f} {w = w} {h = h} {i = i} d c q u) e =
      take _ _ (method_head_is d) (seq {i = suc (max h i)} _ _ (get-key c) (λ _. yes (is_plain_key w) _ (plain_key f w _ _ e) (seq _ _ (get-method_tail f w _ q u) (λ _. done _ _) (omega arith))) (omega arith))

  get-member : {x : Member} {h : ℕ} {a b : Tokens} → SpMember x h a b → Gets inner.room h (r.member inner a) (x, h) b
  unfolding r.member behind
  get-member (member-static e d c) = yes _ _ e (get-plain_method true d c)
  get-member (member-plain e d c) = no _ _ e (get-plain_method false d c)

  get-members : (turns f H : ℕ) (found L : List Member) {xs : List Member} {h : ℕ} {a b : Tokens} → SpMembers xs h a b → next b ≡ kind.Sign p.CloseBrace
      → length a ≤ turns → f ≤ inner.room → L ≡ found ++ xs → H ≡ max f h → Gets inner.room H (r.members_from inner turns found f a) (L, H) b
  unfolding r.members_from behind
  get-members zero f H found L (members-none {b = b}) s t l e g = let z = tested_left (closes bracket.Curly) b (ap (closes bracket.Curly) s) refl in Prim.absurd (omega arith)
  get-members (suc n) f H found L (members-none {b = b}) s t l e g =
      yes (closes bracket.Curly (next b)) _ (ap (closes bracket.Curly) s) (got (omega arith) (let e' : found ≡ L = sym (e ∙ append-nil found) in let g' : f ≡ H = omega arith in cc))
  get-members zero f H found L (members-semicolon q d) s t l e g = Prim.absurd (omega arith)
  get-members (suc n) f H found L (members-semicolon {t = u} {a = a} q d) s t l e g =
      no (closes bracket.Curly (next (u ∷ a))) _ (ap (closes bracket.Curly) (next_of u a q)) (yes (is_semicolon (next (u ∷ a))) _ (ap is_semicolon (next_of u a q))
      (get-members n f H found L d s (omega arith) l e g))
  get-members zero f H found L (members-more d r) s t l e g = let z = shorter (past-member d) in Prim.absurd (omega arith)
  get-members (suc n) f H found L (members-more {x = x} {xs = xs} {h = h} d r) s t l e g =
      no _ _ (member_not_end d) (no _ _ (member_not_semicolon d)
      (seq _ _ (get-member d) (λ l'. get-members n (max f h) H (found ++ x ∷ []) L r s (let z = shorter (past-member d) in omega arith) (omega arith) (e ∙ sym (append_assoc found (x ∷ []) xs)) (omega arith)) (omega arith)))

  pub get-class : {x : Class} {h : ℕ} {a b : Tokens} → SpClass x h a b → Gets (suc inner.room) h (r.class inner a) (x, h) b
  unfolding r.class r.heritage count
  get-class (class-base {t = t} {u = u} {v = v} {xs = xs} {h = h} {a = a} {m = m} {b = b} e n o d c) =
      node (take _ _ (expected is_class_word t a e refl) (take _ _ (optional_is n)
      (seq {h = 0} _ _ (no (is_extends_word (next (u ∷ m))) _ (ap is_extends_word (next_of u m o)) (done _ _)) (λ _. take _ _ (expected is_open_brace u m o refl)
      (seq _ _ (get-members (length m) 0 h [] xs d (next_of v b c) (omega arith) (omega arith) refl (omega arith)) (λ _. take _ _ (closed bracket.Curly v b c) (done _ _)) refl)) (omega arith))))
  get-class (class-derived {t = t} {s = s} {u = u} {v = v} {xs = xs} {h = h} {i = i} {a = a} {m = m} {q = q} {b = b} e n w x o d c) =
      node (take _ _ (expected is_class_word t a e refl) (take _ _ (optional_is n)
      (seq _ _ (yes (is_extends_word (next (s ∷ m))) _ (ap is_extends_word (next_of s m w)) (take _ _ (skipped s m) (seq _ _ (sub.left x (rw (after_is u q o) (omega arith))) (λ _. done _ _) refl)))
      (λ l. take _ _ (expected is_open_brace u q o refl)
      (seq _ _ (get-members (length q) h (max h i) [] xs d (next_of v b c) (omega arith) (omega arith) refl refl) (λ _. take _ _ (closed bracket.Curly v b c) (done _ _)) refl)) (omega arith))))
