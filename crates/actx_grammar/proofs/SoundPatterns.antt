-- Patterns, parameters, functions, methods and classes that are read are spelled.
use Rattle.std.proofs.Common.{◌≡◌, ◌∙◌, ℕ, zero, suc, ◌≤◌, max, Bool, true, false, List, [], ◌∷◌, ◌++◌, Option, Some, None, refl, sym, subst, arith, append_assoc, append-nil}
use Rattle.actx_text.specs.declared.units.Units.{Units}
use Rattle.actx_lex.specs.declared.token.Token.{Token}
use Rattle.actx_lex.specs.declared.token.TokenKind.TheVariants as k
use Rattle.actx_lex.specs.declared.token.Punct.TheVariants as p
use Rattle.actx_tree.specs.declared.expr.Expr.{Expr, the_lemmas}
use Rattle.actx_tree.specs.declared.expr.Key.{Key}
use Rattle.actx_tree.specs.declared.expr.Key.TheVariants as a_key
use Rattle.actx_tree.specs.declared.function.Flow.{Flow}
use Rattle.actx_tree.specs.declared.function.Unread.{Unread}
use Rattle.actx_tree.specs.declared.function.Method.{Method}
use Rattle.actx_tree.specs.declared.function.Member.{Member}
use Rattle.actx_tree.specs.declared.pattern.Target.{Target}
use Rattle.actx_tree.specs.declared.pattern.Target.TheVariants as a_target
use Rattle.actx_tree.specs.declared.pattern.Prop.{Prop}
use Rattle.actx_tree.specs.declared.pattern.Prop.TheVariants as a_prop
use Rattle.actx_tree.specs.declared.pattern.Elem.{Elem}
use Rattle.actx_tree.specs.declared.pattern.Params.{Params}
use Rattle.actx_tree.specs.Parts.{method_of, class_of, member_of, params_of}
use Rattle.actx_grammar.specs.declared.error.Cause.TheVariants.{NoTree}
use Rattle.actx_grammar.specs.declared.kind.Kind.{Kind}
use Rattle.actx_grammar.specs.declared.kind.Kind.TheVariants as kind
use Rattle.actx_grammar.specs.declared.bracket.Bracket.{Bracket}
use Rattle.actx_grammar.specs.declared.bracket.Bracket.TheVariants as bracket
use Rattle.actx_grammar.specs.Kinds.{kind_of, closes, closing, is_colon, is_equals, is_dots, is_name, is_open_parenthesis, is_open_bracket, is_open_brace, is_class_word, is_extends_word, is_semicolon}
use Rattle.actx_grammar.specs.Tokens.{Tokens, Is, next, behind, is_static}
use Rattle.actx_grammar.specs.Places.{is_plain_key, has_plain_key}
use Rattle.actx_grammar.specs.Reader.{Read, Inner, count}
use Rattle.actx_grammar.specs.Patterns as r
use Rattle.actx_grammar.specs.Patterns.{ends_elems, begins_pattern}
use Rattle.actx_grammar.specs.Grammar.{SpLiteral, SpRestName, SpName, SpMethodHead, SpAssign, SpLeft, SpTarget, target-name, target-object, target-object_rest, target-array, target-array_rest, SpProps, props-none, props-last, props-more, SpProp, prop-name, prop-pair, SpElems, elems-none, elems-last, elems-more, SpElem, elem, SpDefault, default-none, default-some, SpParams, params, SpRestTarget, rest-none, rest-some, SpFunction, function, SpMethod, method, SpClass, class-base, class-derived, SpMembers, members-none, members-semicolon, members-more, SpMember, member-static, member-plain, SpKey, key-literal, key-computed}
use Rattle.actx_grammar.proofs.Firsts.{behind-literal}
use Rattle.actx_grammar.proofs.Tests as is
use Rattle.actx_grammar.proofs.Holds.{Holds, done, fails, step, bind, branch, map, fit, Low, Taken, taken, taken_if, sound-expect, RowOf, row_of-none, row_of-last, row_of-more, sound-rows}
use Rattle.actx_grammar.proofs.SoundParts.{Token_of, token_of, sound-name, sound-literal, sound-optional_name, sound-rest_name, sound-unread, sound-function_head, sound-method_head}
use Rattle.actx_grammar.proofs.Sounds.{Sounds}

-- ---- the lines of the grammar from their parts

closing_next : (c : Bracket) (a : Tokens) → closes c (next a) ≡ true → next a ≡ closing c
closing_next c a e = is.closer c (next a) e

a_default : {x : Expr} {h : ℕ} {a m b : Tokens} → Taken is_equals a m → SpAssign x h m b → SpDefault (Some x) h a b
a_default (taken {t = t} e) d = default-some (is.equals (kind_of t.kind) e) d

elems_of : {c : Bracket} {xs : List Elem} {h : ℕ} {a b : Tokens} → RowOf c SpElem xs h a b → SpElems c xs h a b
elems_of row_of-none = elems-none
elems_of {c = c} (row_of-last {b = b} d e) = elems-last d (closing_next c b e)
elems_of (row_of-more d (taken {t = t} e) q) = elems-more d (is.comma (kind_of t.kind) e) (elems_of q)

props_of : {xs : List Prop} {h : ℕ} {a b : Tokens} → RowOf bracket.Curly SpProp xs h a b → SpProps xs h a b
props_of row_of-none = props-none
props_of (row_of-last {b = b} d e) = props-last d (closing_next bracket.Curly b e)
props_of (row_of-more d (taken {t = t} e) q) = props-more d (is.comma (kind_of t.kind) e) (props_of q)

named_prop : {n : Units} {d : Option Expr} {h : ℕ} {a m b : Tokens} → Token_of (k.Name n) a m → SpDefault d h m b → SpProp (a_prop.Shorthand n d) h a b
named_prop (token_of e) d = prop-name e d

paired : {w : Key} {x : Elem} {h : ℕ} {a m q b : Tokens} → SpLiteral w a m → Taken is_colon m q → SpElem x h q b → SpProp (a_prop.Pair w x) h a b
paired w (taken {t = t} e) d = prop-pair w (is.colon (kind_of t.kind) e) d

named_target : {n : Units} {a b : Tokens} → Token_of (k.Name n) a b → SpTarget (a_target.Name n) 0 a b
named_target (token_of e) = target-name e

rest_of : {x : Target} {h : ℕ} {a m q b : Tokens} → Taken is_dots a m → SpTarget x h m q → Taken (closes bracket.Round) q b → SpRestTarget (Some x) h a b
rest_of (taken {t = t} e) d (taken {t = u} f) = rest-some (is.dots (kind_of t.kind) e) d (is.closer bracket.Round (kind_of u.kind) f)

no_rest : {a b : Tokens} → Taken (closes bracket.Round) a b → SpRestTarget None 0 a b
no_rest (taken {t = t} e) = rest-none (is.closer bracket.Round (kind_of t.kind) e)

params_from : {xs : List Elem} {r : Option Target} {h i : ℕ} {a m q b : Tokens} → Taken is_open_parenthesis a m → SpElems bracket.Round xs h m q → SpRestTarget r i q b
    → SpParams (params_of xs r) (max h i) a b
params_from (taken {t = t} e) d q = params (is.open_parenthesis (kind_of t.kind) e) d q

computed : {x : Expr} {h : ℕ} {a m q b : Tokens} → Taken is_open_bracket a m → SpAssign x h m q → Taken (closes bracket.Square) q b → SpKey (a_key.Computed x) h a b
computed (taken {t = t} e) d (taken {t = u} f) = key-computed (is.open_bracket (kind_of t.kind) e) d (is.closer bracket.Square (kind_of u.kind) f)

plain_key : (f : Flow) (w : Key) (ps : Params) (u : Unread) → is_plain_key w ≡ true → has_plain_key (method_of f w ps u) ≡ true
plain_key f w ps u e = simp the_lemmas e

static_member : (a : Tokens) {x : Method} {h : ℕ} {b : Tokens} → is_static a ≡ true → SpMethod x h (behind a) b → has_plain_key x ≡ true → SpMember (member_of true x) h a b
unfolding behind is_static next
static_member [] e d q = Prim.absurd (cc)
static_member (t ∷ ts) e d q = member-static e d q

base_class : {n : Option Units} {xs : List Member} {h : ℕ} {a m q s b : Tokens} → Taken is_class_word a m → SpName n m q → Taken is_open_brace q s → SpMembers xs h s b
    → (c : Tokens) → Taken (closes bracket.Curly) b c → SpClass (class_of n None xs) (suc h) a c
base_class (taken {t = t} e) n (taken {t = u} o) d c (taken {t = v} f) = class-base (is.class_word (kind_of t.kind) e) n (is.open_brace (kind_of u.kind) o) d (is.closer bracket.Curly (kind_of v.kind) f)

-- `extends` and a Left, or nothing
data Heritage : Option Expr → ℕ → Tokens → Tokens → Type 0 where
  no_parent : {b : Tokens} → Heritage None 0 b b
  parent : {x : Expr} {h : ℕ} {a m b : Tokens} → Taken is_extends_word a m → SpLeft x h m b → Heritage (Some x) h a b

class_from : {n : Option Units} {x : Option Expr} {xs : List Member} {h i j : ℕ} {a m p q s v b : Tokens} → Taken is_class_word a m → SpName n m p → Heritage x h p q
    → Taken is_open_brace q s → SpMembers xs i s v → Taken (closes bracket.Curly) v b → j ≡ max h i → SpClass (class_of n x xs) (suc j) a b
class_from {n = n} {xs = xs} {i = i} {a = a} {b = b} t n' no_parent o d c e = subst (λ z. SpClass (class_of n None xs) (suc z) a b) (let f : i ≡ max 0 i = omega arith in f ∙ sym e) (base_class t n' o d b c)
class_from {n = n} {xs = xs} {b = b} (taken {t = t} {b = m} e) n' (parent {x = x} (taken {t = w} g) d) (taken {t = u} o) ms (taken {t = v} f) q =
    subst (λ z. SpClass (class_of n (Some x) xs) (suc z) (t ∷ m) b) (sym q)
    (class-derived (is.class_word (kind_of t.kind) e) n' (is.extends_word (kind_of w.kind) g) d (is.open_brace (kind_of u.kind) o) ms (is.closer bracket.Curly (kind_of v.kind) f))

skip_semicolon : {xs : List Member} {h : ℕ} {a m b : Tokens} → Taken is_semicolon a m → SpMembers xs h m b → SpMembers xs h a b
skip_semicolon (taken {t = t} e) d = members-semicolon (is.semicolon (kind_of t.kind) e) d

module _ (inner : Inner) (sub : Sounds inner) where
  -- ---- patterns

  sound-default : (a : Tokens) → Holds (Low inner.room SpDefault a) (r.default_value inner a)
  unfolding r.default_value
  sound-default a = branch (is_equals (next a))
      (λ e. step _ _ _ (bind _ _ (sub.assign (behind a)) (λ x b d. done _ _ (record { low = d.low; is = a_default (taken_if is_equals a refl e) d.is }))))
      (λ _. done _ _ (record { low = omega arith; is = default-none }))

  sound-elem : (a : Tokens) → Holds (Low inner.room SpElem a) (r.elem inner a)
  unfolding r.elem
  sound-elem a = bind _ _ (sub.target a) (λ x m d. bind _ _ (sound-default m) (λ y b e. done _ _ (record { low = omega (arith, d.low, e.low); is = elem d.is e.is })))

  sound-elems : (c : Bracket) (a : Tokens) → Holds (Low inner.room (SpElems c) a) (r.elems inner c a)
  unfolding r.elems
  sound-elems c a = map (λ v b z. record { low = z.low; is = elems_of z.is }) (sound-rows (ends_elems c) sound-elem a)

  sound-prop : (a : Tokens) → Holds (Low inner.room SpProp a) (r.prop inner a)
  unfolding r.prop
  sound-prop a = branch (is_colon (next (behind a)))
      (λ e. bind _ _ (sound-literal a) (λ w m d. step _ _ _ (bind _ _ (sound-elem (behind m))
      (λ x b c. done _ _ (record { low = c.low; is = paired d (taken_if is_colon m refl (subst (λ z. is_colon (next z) ≡ true) (behind-literal d) e)) c.is })))))
      (λ _. bind _ _ (sound-name a) (λ n m d. bind _ _ (sound-default m) (λ x b c. done _ _ (record { low = c.low; is = named_prop d c.is }))))

  sound-props : (a : Tokens) → Holds (Low inner.room SpProps a) (r.props inner a)
  unfolding r.props
  sound-props a = map (λ v b z. record { low = z.low; is = props_of z.is }) (sound-rows (ends_elems bracket.Curly) sound-prop a)

  bare_object : {n : Units} {t : Token} {h : ℕ} {a m b : Tokens} → Is (kind.Sign p.OpenBrace) t → SpProps [] h a m → SpRestName bracket.Curly (Some n) m b
      → SpTarget (a_target.Object [] (Some n)) (suc h) (t ∷ a) b
  bare_object e props-none q = target-object_rest e q

  bare_array : {n : Units} {t : Token} {h : ℕ} {a m b : Tokens} → Is (kind.Sign p.OpenBracket) t → SpElems bracket.Square [] h a m → SpRestName bracket.Square (Some n) m b
      → SpTarget (a_target.Array [] (Some n)) (suc h) (t ∷ a) b
  bare_array e elems-none q = target-array_rest e q

  object_from : (t : Token) (ts : Tokens) → Is (kind.Sign p.OpenBrace) t → (xs : List Prop) (h : ℕ) (m : Tokens) → h ≤ inner.room → SpProps xs h ts m → (n : Option Units) (b : Tokens)
      → SpRestName bracket.Curly n m b → Holds (Low (suc inner.room) SpTarget (t ∷ ts)) (r.object_pattern (xs, h) n b)
  object_from t ts e [] h m l d None b q = fails NoTree
  object_from t ts e [] h m l d (Some n) b q = done _ _ (record { low = omega arith; is = bare_object e d q })
  object_from t ts e (x ∷ xs) h m l d n b q = done _ _ (record { low = omega arith; is = target-object e d q })

  array_from : (t : Token) (ts : Tokens) → Is (kind.Sign p.OpenBracket) t → (xs : List Elem) (h : ℕ) (m : Tokens) → h ≤ inner.room → SpElems bracket.Square xs h ts m → (n : Option Units) (b : Tokens)
      → SpRestName bracket.Square n m b → Holds (Low (suc inner.room) SpTarget (t ∷ ts)) (r.array_pattern (xs, h) n b)
  array_from t ts e [] h m l d None b q = fails NoTree
  array_from t ts e [] h m l d (Some n) b q = done _ _ (record { low = omega arith; is = bare_array e d q })
  array_from t ts e (x ∷ xs) h m l d n b q = done _ _ (record { low = omega arith; is = target-array e d q })

  pattern_kind : (t : Token) (ts : Tokens) (sort : Kind) → kind_of t.kind ≡ sort → Holds (Low (suc inner.room) SpTarget (t ∷ ts)) (r.pattern_from inner sort (t ∷ ts))
  unfolding behind
  pattern_kind t ts (kind.Sign p.OpenBrace) e = step _ _ _ (bind _ _ (sound-props ts) (λ xs m d. bind _ _ (sound-rest_name bracket.Curly m) (λ n b q. object_from t ts e xs.0 xs.1 m d.low d.is n b q)))
  pattern_kind t ts (kind.Sign p.OpenBracket) e = step _ _ _ (bind _ _ (sound-elems bracket.Square ts) (λ xs m d. bind _ _ (sound-rest_name bracket.Square m) (λ n b q. array_from t ts e xs.0 xs.1 m d.low d.is n b q)))
  pattern_kind t ts _ e = fails NoTree

  sound-pattern : (a : Tokens) → Holds (Low (suc inner.room) SpTarget a) (r.pattern inner a)
  unfolding r.pattern next
  sound-pattern [] = fails NoTree
  sound-pattern (t ∷ ts) = pattern_kind t ts (kind_of t.kind) refl

  pub sound-target : (a : Tokens) → Holds (Low (suc inner.room) SpTarget a) (r.target_by (r.pattern inner) a)
  unfolding r.target_by
  sound-target a = branch (is_name (next a)) (λ _. bind _ _ (sound-name a) (λ n b d. done _ _ (record { low = omega arith; is = named_target d })))
      (λ _. branch (begins_pattern (next a)) (λ _. sound-pattern a) (λ _. fails NoTree))

  sound-rest_target : (a : Tokens) → Holds (Low inner.room SpRestTarget a) (r.rest_target inner a)
  unfolding r.rest_target
  sound-rest_target a = branch (closes bracket.Round (next a)) (λ e. done _ _ (record { low = omega arith; is = no_rest (taken_if (closes bracket.Round) a refl e) }))
      (λ _. bind _ _ (sound-expect is_dots a refl) (λ _ m e. bind _ _ (sub.target m) (λ x q d. bind _ _ (sound-expect (closes bracket.Round) q refl)
      (λ _ b f. done _ _ (record { low = d.low; is = rest_of e d.is f })))))

  pub sound-params : (a : Tokens) → Holds (Low inner.room SpParams a) (r.params inner a)
  unfolding r.params
  sound-params a = bind _ _ (sound-expect is_open_parenthesis a refl) (λ _ m e. bind _ _ (sound-elems bracket.Round m) (λ xs q d. bind _ _ (sound-rest_target q)
      (λ x b c. done _ _ (record { low = omega (arith, d.low, c.low); is = params_from e d.is c.is }))))

  -- ---- functions and methods

  pub sound-function : (a : Tokens) → Holds (Low (suc inner.room) SpFunction a) (r.function inner a)
  unfolding r.function
  sound-function a = bind _ _ (sound-function_head a) (λ f m d. bind _ _ (sound-optional_name m) (λ n q e. bind _ _ (sound-params q) (λ ps s c. bind _ _ (sound-unread s)
      (λ u b g. done _ _ (record { low = omega (arith, c.low); is = function d e c.is g })))))

  pub sound-key : (a : Tokens) → Holds (Low inner.room SpKey a) (r.key inner a)
  unfolding r.key r.computed_key
  sound-key a = branch (is_open_bracket (next a))
      (λ e. step _ _ _ (bind _ _ (sub.assign (behind a)) (λ x m d. bind _ _ (sound-expect (closes bracket.Square) m refl)
      (λ _ b f. done _ _ (record { low = d.low; is = computed (taken_if is_open_bracket a refl e) d.is f })))))
      (λ _. bind _ _ (sound-literal a) (λ w b d. done _ _ (record { low = omega arith; is = key-literal d })))

  -- what stands behind a key is the rest of a method
  pub record Tail (f : Flow) (w : Read Key) (a : Tokens) (v : Read Method) (b : Tokens) : Type 0 where
    pub low : v.1 ≤ inner.room
    pub ps : Params
    pub u : Unread
    pub made : v.0 ≡ method_of f w.0 ps u
    pub is : {s m : Tokens} → SpMethodHead f s m → SpKey w.0 w.1 m a → SpMethod v.0 v.1 s b

  pub sound-method_tail : (f : Flow) (w : Read Key) (a : Tokens) → Holds (Tail f w a) (r.method_tail inner f w a)
  unfolding r.method_tail
  sound-method_tail f w a = bind _ _ (sound-params a) (λ ps m d. bind _ _ (sound-unread m) (λ u b g. fit inner _ _ _
      (λ l. done _ _ (record { low = l; ps = ps.0; u = u; made = refl; is = λ h c. method h c d.is g }))))

  -- ---- classes

  tail_plain : {f : Flow} {w : Read Key} {a : Tokens} {v : Read Method} {b : Tokens} → Tail f w a v b → is_plain_key w.0 ≡ true → has_plain_key v.0 ≡ true
  tail_plain {f = f} {w = w} z e = subst (λ x. has_plain_key x ≡ true) (sym z.made) (plain_key f w.0 z.ps z.u e)

  -- a method with the key of a member of a class
  record Plain (static : Bool) (a : Tokens) (v : Read Member) (b : Tokens) : Type 0 where
    low : v.1 ≤ inner.room
    x : Method
    is : SpMethod x v.1 a b
    plain : has_plain_key x ≡ true
    made : v.0 ≡ member_of static x

  sound-plain_method : (static : Bool) (a : Tokens) → Holds (Plain static a) (r.plain_method inner static a)
  unfolding r.plain_method
  sound-plain_method static a = bind _ _ (sound-method_head a) (λ f m d. bind _ _ (sound-key m) (λ w q c. branch (is_plain_key w.0)
      (λ e. bind _ _ (sound-method_tail f w q) (λ x b z. done _ _ (record { low = z.low; x = x.0; is = z.is d c.is; plain = tail_plain z e; made = refl })))
      (λ _. fails NoTree)))

  sound-member : (a : Tokens) → Holds (Low inner.room SpMember a) (r.member inner a)
  unfolding r.member
  sound-member a = branch (is_static a)
      (λ e. map (λ v b z. record { low = z.low; is = subst (λ x. SpMember x v.1 a b) (sym z.made) (static_member a e z.is z.plain) }) (sound-plain_method true (behind a)))
      (λ e. map (λ v b z. record { low = z.low; is = subst (λ x. SpMember x v.1 a b) (sym z.made) (member-plain e z.is z.plain) }) (sound-plain_method false a))

  -- what the loop reads: members behind those found, of the levels i
  record Members (f : ℕ) (found : List Member) (a : Tokens) (v : Read (List Member)) (b : Tokens) : Type 0 where
    low : v.1 ≤ inner.room
    xs : List Member
    i : ℕ
    is : SpMembers xs i a b
    list : v.0 ≡ found ++ xs
    high : v.1 ≡ max f i

  sound-members : (n f : ℕ) (found : List Member) (a : Tokens) → f ≤ inner.room → Holds (Members f found a) (r.members_from inner n found f a)
  unfolding r.members_from
  sound-members zero f found a l = fails NoTree
  sound-members (suc n) f found a l = branch (closes bracket.Curly (next a))
      (λ _. done _ _ (record { low = l; xs = []; i = 0; is = members-none; list = sym (append-nil found); high = omega arith }))
      (λ _. branch (is_semicolon (next a))
      (λ e. map (λ v b z. record { low = z.low; xs = z.xs; i = z.i; is = skip_semicolon (taken_if is_semicolon a refl e) z.is; list = z.list; high = z.high }) (sound-members n f found (behind a) l))
      (λ _. bind _ _ (sound-member a) (λ x m d.
      map (λ v b z. record { low = z.low; xs = x.0 ∷ z.xs; i = max x.1 z.i; is = members-more d.is z.is; list = z.list ∙ append_assoc found (x.0 ∷ []) z.xs; high = omega (arith, z.high) })
      (sound-members n (max f x.1) (found ++ x.0 ∷ []) m (omega (arith, d.low))))))

  sound-heritage : (a : Tokens) → Holds (Low inner.room Heritage a) (r.heritage inner a)
  unfolding r.heritage
  sound-heritage a = branch (is_extends_word (next a))
      (λ e. step _ _ _ (bind _ _ (sub.left (behind a)) (λ x b d. done _ _ (record { low = d.low; is = parent (taken_if is_extends_word a refl e) d.is }))))
      (λ _. done _ _ (record { low = omega arith; is = no_parent }))

  pub sound-class : (a : Tokens) → Holds (Low (suc inner.room) SpClass a) (r.class inner a)
  unfolding r.class
  sound-class a = bind _ _ (sound-expect is_class_word a refl) (λ _ m e. bind _ _ (sound-optional_name m) (λ n q d. bind _ _ (sound-heritage q) (λ x s c.
      bind _ _ (sound-expect is_open_brace s refl) (λ _ u o. bind _ _ (sound-members (count u) x.1 [] u c.low) (λ xs v z. bind _ _ (sound-expect (closes bracket.Curly) v refl)
      (λ _ b f. done _ _ (record { low = omega (arith, z.low); is = class_from e d c.is o (subst (λ l. SpMembers l z.i u v) (sym z.list) z.is) f z.high })))))))
