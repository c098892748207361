-- Primaries, new and what follows them that are read are spelled.
use Rattle.std.proofs.Common.{◌≡◌, ◌∙◌, ℕ, ℤ, zero, suc, ◌≤◌, max, Bool, true, false, ◌&&◌, List, [], ◌∷◌, ◌++◌, Some, None, Ok, refl, sym, ap, subst, arith, append_assoc}
use Rattle.actx_text.specs.declared.units.Units.{Units}
use Rattle.actx_lex.specs.declared.token.Token.{Token}
use Rattle.actx_lex.specs.declared.token.TokenKind.TheVariants as k
use Rattle.actx_lex.specs.declared.token.Punct.TheVariants as p
use Rattle.actx_tree.specs.declared.expr.Expr.{Expr}
use Rattle.actx_tree.specs.declared.expr.Expr.TheVariants as e
use Rattle.actx_tree.specs.declared.expr.Piece.{Piece}
use Rattle.actx_tree.specs.declared.expr.Argument.{Argument}
use Rattle.actx_tree.specs.declared.expr.Argument.TheVariants as an_argument
use Rattle.actx_tree.specs.declared.expr.Entry.{Entry}
use Rattle.actx_tree.specs.declared.expr.Entry.TheVariants as an_entry
use Rattle.actx_tree.specs.declared.expr.Key.{Key}
use Rattle.actx_tree.specs.declared.expr.Suffix.{Suffix}
use Rattle.actx_tree.specs.declared.expr.Suffix.TheVariants as a_suffix
use Rattle.actx_tree.specs.declared.function.Flow.{Flow}
use Rattle.actx_tree.specs.declared.function.Flow.TheVariants as flow
use Rattle.actx_tree.specs.Parts.{piece_of}
use Rattle.actx_grammar.specs.declared.error.Cause.TheVariants.{NoTree}
use Rattle.actx_grammar.specs.declared.kind.Kind.{Kind}
use Rattle.actx_grammar.specs.declared.kind.Kind.TheVariants as kind
use Rattle.actx_grammar.specs.declared.word.Word.TheVariants as word
use Rattle.actx_grammar.specs.declared.bracket.Bracket.{Bracket}
use Rattle.actx_grammar.specs.declared.bracket.Bracket.TheVariants as bracket
use Rattle.actx_grammar.specs.Kinds.{kind_of, closes, is_colon, is_dots, is_open_parenthesis, is_open_bracket, is_new_word, begins_suffix}
use Rattle.actx_grammar.specs.Tokens.{Tokens, Is, next, behind, is_async_function, is_shorthand}
use Rattle.actx_grammar.specs.Reader.{Outcome, Parser, Read, Inner, and_then, count, method_head, after_flow}
use Rattle.actx_grammar.specs.Lines as r
use Rattle.actx_grammar.specs.Grammar.{SpMethodHead, method_head-plain, method_head-generator, method_head-async, SpExpr, SpAssign, SpLeft, left-made, left-suffixes, SpMade, made-primary, made-new, made-new_bare, SpSuffixes, suffixes-none, suffixes-more, SpMemberSuffixes, member_suffixes-none, member_suffixes-more, SpSuffix, suffix-member, suffix-call, suffix-optional_name, suffix-optional_index, suffix-optional_call, SpMemberSuffix, member_suffix-name, member_suffix-index, SpIndex, index, SpArgs, args, SpArguments, arguments-none, arguments-last, arguments-more, SpArgument, argument-one, argument-spread, SpPrimary, primary-name, primary-number, primary-text, primary-true, primary-false, primary-null, primary-this, primary-template, primary-template_of, primary-brackets, primary-array, primary-object, primary-super_call, primary-super_member, primary-function, primary-class, SpPieces, pieces-last, pieces-more, SpEntries, entries-none, entries-last, entries-more, SpEntry, entry-spread, entry-name, entry-pair, entry-method, SpKey}
use Rattle.actx_grammar.proofs.Firsts.{both_first, both_second}
use Rattle.actx_grammar.proofs.Tests as is
use Rattle.actx_grammar.proofs.Holds.{Holds, done, fails, step, bind, branch, map, fit, Low, Taken, taken, taken_if, sound-expect, Star, star-none, star-more, Listed, ListedSome, sound-many, sound-some, RowOf, row_of-none, row_of-last, row_of-more, sound-rows}
use Rattle.actx_grammar.proofs.SoundParts.{Token_of, token_of, sound-name, sound-number, sound-text, sound-piece, sound-word, sound-method_head}
use Rattle.actx_grammar.proofs.Sounds.{Sounds}
use Rattle.actx_grammar.proofs.SoundPatterns.{sound-function, sound-class, sound-key, sound-method_tail}

-- ---- the lines of the grammar from their parts

spread : {x : Expr} {h : ℕ} {a m b : Tokens} → Taken is_dots a m → SpAssign x h m b → SpArgument (an_argument.Spread x) h a b
spread (taken {t = t} e) d = argument-spread (is.dots (kind_of t.kind) e) d

arguments_of : {c : Bracket} {xs : List Argument} {h : ℕ} {a b : Tokens} → RowOf c SpArgument xs h a b → SpArguments c xs h a b
arguments_of row_of-none = arguments-none
arguments_of {c = c} (row_of-last {b = b} d e) = arguments-last d (is.closer c (next b) e)
arguments_of (row_of-more d (taken {t = t} e) q) = arguments-more d (is.comma (kind_of t.kind) e) (arguments_of q)

args_of : {xs : List Argument} {h : ℕ} {a m q b : Tokens} → Taken is_open_parenthesis a m → SpArguments bracket.Round xs h m q → Taken (closes bracket.Round) q b → SpArgs xs h a b
args_of (taken {t = t} e) d (taken {t = u} f) = args (is.open_parenthesis (kind_of t.kind) e) d (is.closer bracket.Round (kind_of u.kind) f)

spread_entry : {x : Expr} {h : ℕ} {a m b : Tokens} → Taken is_dots a m → SpAssign x h m b → SpEntry (an_entry.Spread x) h a b
spread_entry (taken {t = t} e) d = entry-spread (is.dots (kind_of t.kind) e) d

named_entry : {n : Units} {a b : Tokens} → Token_of (k.Name n) a b → is_shorthand a ≡ true → SpEntry (an_entry.Shorthand n) 1 a b
named_entry (token_of e) q = entry-name e q

plain_flow : (f : Flow) → r.is_plain f ≡ true → f ≡ flow.Plain
plain_flow flow.Plain e = refl
plain_flow flow.Async e = Prim.absurd (cc)
plain_flow flow.Generator e = Prim.absurd (cc)

-- a plain head takes no token
pair_entry : {f : Flow} {w : Key} {x : Expr} {h i : ℕ} {a m q s b : Tokens} → is_shorthand a ≡ false → SpMethodHead f a m → f ≡ flow.Plain → SpKey w h m q → Taken is_colon q s
    → SpAssign x i s b → SpEntry (an_entry.Pair w x) (max h i) a b
pair_entry n (method_head-plain e) p w (taken {t = t} c) d = entry-pair n e w (is.colon (kind_of t.kind) c) d
pair_entry n (method_head-generator e) p w c d = Prim.absurd (cc)
pair_entry n (method_head-async e) p w c d = Prim.absurd (cc)

entries_of : {xs : List Entry} {h : ℕ} {a b : Tokens} → RowOf bracket.Curly SpEntry xs h a b → SpEntries xs h a b
entries_of row_of-none = entries-none
entries_of (row_of-last {b = b} d e) = entries-last d (is.closer bracket.Curly (next b) e)
entries_of (row_of-more d (taken {t = t} e) q) = entries-more d (is.comma (kind_of t.kind) e) (entries_of q)

index_of : {x : Expr} {h : ℕ} {a m q b : Tokens} → Taken is_open_bracket a m → SpExpr x h m q → Taken (closes bracket.Square) q b → SpIndex x h a b
index_of (taken {t = t} e) d (taken {t = u} f) = index (is.open_bracket (kind_of t.kind) e) d (is.closer bracket.Square (kind_of u.kind) f)

suffixes_of : {xs : List Suffix} {h : ℕ} {a b : Tokens} → Star SpSuffix xs h a b → SpSuffixes xs h a b
suffixes_of star-none = suffixes-none
suffixes_of (star-more d q) = suffixes-more d (suffixes_of q)

member_suffixes_of : {xs : List Suffix} {h : ℕ} {a b : Tokens} → Star SpMemberSuffix xs h a b → SpMemberSuffixes xs h a b
member_suffixes_of star-none = member_suffixes-none
member_suffixes_of (star-more d q) = member_suffixes-more d (member_suffixes_of q)

brackets_of : {x : Expr} {h : ℕ} {t : Token} {a m b : Tokens} → Is (kind.Sign p.OpenParenthesis) t → SpExpr x h a m → Taken (closes bracket.Round) m b → SpPrimary (e.Brackets x) (suc h) (t ∷ a) b
brackets_of e d (taken {t = u} f) = primary-brackets e d (is.closer bracket.Round (kind_of u.kind) f)

array_of : {xs : List Argument} {h : ℕ} {t : Token} {a m b : Tokens} → Is (kind.Sign p.OpenBracket) t → SpArguments bracket.Square xs h a m → Taken (closes bracket.Square) m b → SpPrimary (e.Array xs) (suc h) (t ∷ a) b
array_of e d (taken {t = u} f) = primary-array e d (is.closer bracket.Square (kind_of u.kind) f)

object_of : {xs : List Entry} {h : ℕ} {t : Token} {a m b : Tokens} → Is (kind.Sign p.OpenBrace) t → SpEntries xs h a m → Taken (closes bracket.Curly) m b → SpPrimary (e.Object xs) (suc h) (t ∷ a) b
object_of e d (taken {t = u} f) = primary-object e d (is.closer bracket.Curly (kind_of u.kind) f)

named_primary : {n : Units} {a b : Tokens} → Token_of (k.Name n) a b → is_async_function a ≡ false → SpPrimary (e.Name n) 1 a b
named_primary (token_of e) q = primary-name e q

numbered : {n : ℤ} {a b : Tokens} → Token_of (k.Number n) a b → SpPrimary (e.Number n) 1 a b
numbered (token_of e) = primary-number e

quoted : {u : Units} {a b : Tokens} → Token_of (k.Text u) a b → SpPrimary (e.Text u) 1 a b
quoted (token_of e) = primary-text e

whole_template : {u : Units} {c : Bool} {a b : Tokens} → Token_of (k.Template u true c) a b → c ≡ true → SpPrimary (e.Template u []) 1 a b
whole_template {u = u} (token_of {t = t} e) q = primary-template (e ∙ ap (λ c. k.Template u true c) q)

a_template : {u : Units} {c : Bool} {x : Piece} {xs : List Piece} {h : ℕ} {a m b : Tokens} → Token_of (k.Template u true c) a m → c ≡ false → SpPieces (x ∷ xs) h m b → SpPrimary (e.Template u (x ∷ xs)) (suc h) a b
a_template {u = u} (token_of {t = t} e) q d = primary-template_of (e ∙ ap (λ c. k.Template u true c) q) d

last_piece : {u : Units} {c : Bool} {x : Expr} {h : ℕ} {a m b : Tokens} → SpExpr x h a m → Token_of (k.Template u false c) m b → c ≡ true → SpPieces (piece_of x u ∷ []) h a b
last_piece {u = u} d (token_of {t = t} e) q = pieces-last d (e ∙ ap (λ c. k.Template u false c) q)

more_pieces : {u : Units} {c : Bool} {x : Expr} {xs : List Piece} {h i : ℕ} {a m q b : Tokens} → SpExpr x h a m → Token_of (k.Template u false c) m q → c ≡ false → SpPieces xs i q b → SpPieces (piece_of x u ∷ xs) (max h i) a b
more_pieces {u = u} d (token_of {t = t} e) z r = pieces-more d (e ∙ ap (λ c. k.Template u false c) z) r

module _ (inner : Inner) (sub : Sounds inner) where
  -- ---- arguments and entries

  sound-argument : (a : Tokens) → Holds (Low inner.room SpArgument a) (r.argument inner a)
  unfolding r.argument
  sound-argument a = branch (is_dots (next a))
      (λ e. step _ _ _ (bind _ _ (sub.assign (behind a)) (λ x b d. done _ _ (record { low = d.low; is = spread (taken_if is_dots a refl e) d.is }))))
      (λ _. bind _ _ (sub.assign a) (λ x b d. done _ _ (record { low = d.low; is = argument-one d.is })))

  sound-arguments : (c : Bracket) (a : Tokens) → Holds (Low inner.room (SpArguments c) a) (r.arguments inner c a)
  unfolding r.arguments
  sound-arguments c a = map (λ v b z. record { low = z.low; is = arguments_of z.is }) (sound-rows (closes c) sound-argument a)

  sound-args : (a : Tokens) → Holds (Low inner.room SpArgs a) (r.args inner a)
  unfolding r.args
  sound-args a = bind _ _ (sound-expect is_open_parenthesis a refl) (λ _ m e. bind _ _ (sound-arguments bracket.Round m) (λ xs q d. bind _ _ (sound-expect (closes bracket.Round) q refl)
      (λ _ b f. done _ _ (record { low = d.low; is = args_of e d.is f }))))

  sound-keyed : (a : Tokens) → is_shorthand a ≡ false → Holds (Low inner.room SpEntry a) (r.keyed inner a)
  unfolding r.keyed r.pair_or_method
  sound-keyed a n = bind _ _ (sound-method_head a) (λ f m d. bind _ _ (sound-key inner sub m) (λ w q c. branch (is_colon (next q) && r.is_plain f)
      (λ e. step _ _ _ (bind _ _ (sub.assign (behind q)) (λ x b y. done _ _ (record { low = omega (arith, c.low, y.low); is = pair_entry n d (plain_flow f (both_second _ _ e)) c.is (taken_if is_colon q refl (both_first _ _ e)) y.is }))))
      (λ _. bind _ _ (sound-method_tail inner sub f w q) (λ x b z. done _ _ (record { low = z.low; is = entry-method n (z.is d c.is) })))))

  sound-entry : (a : Tokens) → Holds (Low inner.room SpEntry a) (r.entry inner a)
  unfolding r.entry r.spread_entry r.named_entry
  sound-entry a = branch (is_dots (next a))
      (λ e. step _ _ _ (bind _ _ (sub.assign (behind a)) (λ x b d. done _ _ (record { low = d.low; is = spread_entry (taken_if is_dots a refl e) d.is }))))
      (λ _. branch (is_shorthand a) (λ q. fit inner 1 a _ (λ l. bind _ _ (sound-name a) (λ n b d. done _ _ (record { low = l; is = named_entry d q })))) (λ q. sound-keyed a q))

  sound-entries : (a : Tokens) → Holds (Low inner.room SpEntries a) (r.entries inner a)
  unfolding r.entries
  sound-entries a = map (λ v b z. record { low = z.low; is = entries_of z.is }) (sound-rows (closes bracket.Curly) sound-entry a)

  -- ---- suffixes

  sound-index : (a : Tokens) → Holds (Low inner.room SpIndex a) (r.index inner a)
  unfolding r.index
  sound-index a = bind _ _ (sound-expect is_open_bracket a refl) (λ _ m e. bind _ _ (sub.expr m) (λ x q d. bind _ _ (sound-expect (closes bracket.Square) q refl)
      (λ _ b f. done _ _ (record { low = d.low; is = index_of e d.is f }))))

  member_kind : (t : Token) (ts : Tokens) (sort : Kind) → kind_of t.kind ≡ sort → Holds (Low inner.room SpMemberSuffix (t ∷ ts)) (r.member_suffix_from inner sort (t ∷ ts))
  unfolding behind
  member_kind t ts (kind.Sign p.Dot) e = step _ _ _ (bind _ _ (sound-word ts) (λ u b d. done _ _ (record { low = omega arith; is = member_suffix-name e d })))
  member_kind t ts (kind.Sign p.OpenBracket) e = bind _ _ (sound-index (t ∷ ts)) (λ x b d. done _ _ (record { low = d.low; is = member_suffix-index d.is }))
  member_kind t ts _ e = fails NoTree

  sound-member_suffix : (a : Tokens) → Holds (Low inner.room SpMemberSuffix a) (r.member_suffix inner a)
  unfolding r.member_suffix next
  sound-member_suffix [] = fails NoTree
  sound-member_suffix (t ∷ ts) = member_kind t ts (kind_of t.kind) refl

  optional_word : (t : Token) (a : Tokens) → Is (kind.Sign p.OptionalDot) t → Holds (Low inner.room SpSuffix (t ∷ a)) (and_then (Rattle.actx_grammar.specs.Reader.word a) (λ u. λ i. Ok ((a_suffix.Member true u, 0), i)))
  optional_word t a e = bind _ _ (sound-word a) (λ u b d. done _ _ (record { low = omega arith; is = suffix-optional_name e d }))

  optional_kind : (t : Token) (a : Tokens) → Is (kind.Sign p.OptionalDot) t → (sort : Kind) → Holds (Low inner.room SpSuffix (t ∷ a)) (r.optional_from inner sort a)
  optional_kind t a e (kind.Sign p.OpenBracket) = bind _ _ (sound-index a) (λ x b d. done _ _ (record { low = d.low; is = suffix-optional_index e d.is }))
  optional_kind t a e (kind.Sign p.OpenParenthesis) = bind _ _ (sound-args a) (λ x b d. done _ _ (record { low = d.low; is = suffix-optional_call e d.is }))
  optional_kind t a e _ = optional_word t a e

  suffix_kind : (t : Token) (ts : Tokens) (sort : Kind) → kind_of t.kind ≡ sort → Holds (Low inner.room SpSuffix (t ∷ ts)) (r.suffix_from inner sort (t ∷ ts))
  unfolding behind r.optional_suffix
  suffix_kind t ts (kind.Sign p.OpenParenthesis) e = bind _ _ (sound-args (t ∷ ts)) (λ x b d. done _ _ (record { low = d.low; is = suffix-call d.is }))
  suffix_kind t ts (kind.Sign p.OptionalDot) e = step _ _ _ (optional_kind t ts e (next ts))
  suffix_kind t ts _ e = map (λ v b d. record { low = d.low; is = suffix-member d.is }) (sound-member_suffix (t ∷ ts))

  sound-suffix : (a : Tokens) → Holds (Low inner.room SpSuffix a) (r.suffix inner a)
  unfolding r.suffix next
  sound-suffix [] = map (λ v b d. record { low = d.low; is = suffix-member d.is }) (sound-member_suffix [])
  sound-suffix (t ∷ ts) = suffix_kind t ts (kind_of t.kind) refl

  -- ---- primaries

  record Pieces (f : ℕ) (found : List Piece) (a : Tokens) (v : Read (List Piece)) (b : Tokens) : Type 0 where
    low : v.1 ≤ inner.room
    x : Piece
    xs : List Piece
    i : ℕ
    is : SpPieces (x ∷ xs) i a b
    list : v.0 ≡ found ++ x ∷ xs
    high : v.1 ≡ max f i

  sound-pieces_from : (n f : ℕ) (found : List Piece) (a : Tokens) → f ≤ inner.room → Holds (Pieces f found a) (r.pieces_from inner n found f a)
  unfolding r.pieces_from
  sound-pieces_from zero f found a l = fails NoTree
  sound-pieces_from (suc n) f found a l = bind _ _ (sub.expr a) (λ x m d. bind _ _ (sound-piece false m) (λ u q e. branch u.1
      (λ y. done _ _ (record { low = omega (arith, d.low); x = piece_of x.0 u.0; xs = []; i = x.1; is = last_piece d.is e y; list = refl; high = refl }))
      (λ y. map (λ v b z. record { low = z.low; x = piece_of x.0 u.0; xs = z.x ∷ z.xs; i = max x.1 z.i; is = more_pieces d.is e y z.is; list = z.list ∙ append_assoc found (piece_of x.0 u.0 ∷ []) (z.x ∷ z.xs); high = omega (arith, z.high) })
      (sound-pieces_from n (max f x.1) (found ++ piece_of x.0 u.0 ∷ []) q (omega (arith, d.low))))))

  sound-template : (a : Tokens) → Holds (Low (suc inner.room) SpPrimary a) (r.template inner a)
  unfolding r.template r.pieces
  sound-template a = bind _ _ (sound-piece true a) (λ u m g. branch u.1
      (λ y. done _ _ (record { low = omega arith; is = whole_template g y }))
      (λ y. bind _ _ (sound-pieces_from (count m) 0 [] m (omega arith)) (λ xs b z. done _ _ (record {
        low = omega (arith, z.low);
        is = subst (λ h. SpPrimary (e.Template u.0 xs.0) (suc h) a b) (let q = z.high in omega arith) (subst (λ l. SpPrimary (e.Template u.0 l) (suc z.i) a b) (sym z.list) (a_template g y z.is));
      }))))

  super_kind : (t : Token) → Is (kind.Word word.Super) t → (u : Token) (ts : Tokens) (sort : Kind) → kind_of u.kind ≡ sort → Holds (Low (suc inner.room) SpPrimary (t ∷ u ∷ ts)) (r.super_from inner sort (u ∷ ts))
  unfolding behind
  super_kind t q u ts (kind.Sign p.OpenParenthesis) e = bind _ _ (sound-args (u ∷ ts)) (λ xs b d. done _ _ (record { low = omega (arith, d.low); is = primary-super_call q d.is }))
  super_kind t q u ts (kind.Sign p.Dot) e = step _ _ _ (bind _ _ (sound-word ts) (λ n b d. done _ _ (record { low = omega arith; is = primary-super_member q e d })))
  super_kind t q u ts _ e = fails NoTree

  sound-super : (t : Token) (a : Tokens) → Is (kind.Word word.Super) t → Holds (Low (suc inner.room) SpPrimary (t ∷ a)) (r.super_form inner a)
  unfolding r.super_form next
  sound-super t [] q = fails NoTree
  sound-super t (u ∷ ts) q = super_kind t q u ts (kind_of u.kind) refl

  sound-function_expression : (a : Tokens) → Holds (Low (suc inner.room) SpPrimary a) (r.function_expression inner a)
  unfolding r.function_expression
  sound-function_expression a = bind _ _ (sound-function inner sub a) (λ x b d. done _ _ (record { low = d.low; is = primary-function d.is }))

  sound-named : (a : Tokens) → Holds (Low (suc inner.room) SpPrimary a) (r.named inner a)
  unfolding r.named
  sound-named a = branch (is_async_function a) (λ _. sound-function_expression a) (λ q. bind _ _ (sound-name a) (λ n b d. done _ _ (record { low = omega arith; is = named_primary d q })))

  primary_kind : (t : Token) (ts : Tokens) (sort : Kind) → kind_of t.kind ≡ sort → Holds (Low (suc inner.room) SpPrimary (t ∷ ts)) (r.primary_from inner sort (t ∷ ts))
  unfolding behind r.brackets r.array r.object
  primary_kind t ts kind.Name e = sound-named (t ∷ ts)
  primary_kind t ts kind.Number e = bind _ _ (sound-number (t ∷ ts)) (λ n b d. done _ _ (record { low = omega arith; is = numbered d }))
  primary_kind t ts kind.Text e = bind _ _ (sound-text (t ∷ ts)) (λ n b d. done _ _ (record { low = omega arith; is = quoted d }))
  primary_kind t ts (kind.Word word.True) e = step _ _ _ (done _ _ (record { low = omega arith; is = primary-true e }))
  primary_kind t ts (kind.Word word.False) e = step _ _ _ (done _ _ (record { low = omega arith; is = primary-false e }))
  primary_kind t ts (kind.Word word.Null) e = step _ _ _ (done _ _ (record { low = omega arith; is = primary-null e }))
  primary_kind t ts (kind.Word word.This) e = step _ _ _ (done _ _ (record { low = omega arith; is = primary-this e }))
  primary_kind t ts (kind.Piece o c) e = sound-template (t ∷ ts)
  primary_kind t ts (kind.Sign p.OpenParenthesis) e = step _ _ _ (bind _ _ (sub.expr ts) (λ x m d. bind _ _ (sound-expect (closes bracket.Round) m refl)
      (λ _ b f. done _ _ (record { low = omega (arith, d.low); is = brackets_of e d.is f }))))
  primary_kind t ts (kind.Sign p.OpenBracket) e = step _ _ _ (bind _ _ (sound-arguments bracket.Square ts) (λ x m d. bind _ _ (sound-expect (closes bracket.Square) m refl)
      (λ _ b f. done _ _ (record { low = omega (arith, d.low); is = array_of e d.is f }))))
  primary_kind t ts (kind.Sign p.OpenBrace) e = step _ _ _ (bind _ _ (sound-entries ts) (λ x m d. bind _ _ (sound-expect (closes bracket.Curly) m refl)
      (λ _ b f. done _ _ (record { low = omega (arith, d.low); is = object_of e d.is f }))))
  primary_kind t ts (kind.Word word.Super) e = step _ _ _ (sound-super t ts e)
  primary_kind t ts (kind.Word word.Function) e = sound-function_expression (t ∷ ts)
  primary_kind t ts (kind.Word word.Class) e = bind _ _ (sound-class inner sub (t ∷ ts)) (λ x b d. done _ _ (record { low = d.low; is = primary-class d.is }))
  primary_kind t ts _ e = fails NoTree

  sound-primary : (a : Tokens) → Holds (Low (suc inner.room) SpPrimary a) (r.primary inner a)
  unfolding r.primary next
  sound-primary [] = fails NoTree
  sound-primary (t ∷ ts) = primary_kind t ts (kind_of t.kind) refl

  -- ---- new, and what follows a Primary

  sound-member_suffixes : (f : ℕ) (a : Tokens) → f ≤ inner.room → Holds (Listed inner.room SpMemberSuffix f [] a) (r.member_suffixes inner f a)
  unfolding r.member_suffixes
  sound-member_suffixes f a l = sound-many (λ m _. sound-member_suffix m) (count a) f [] a l

  new_bare : {x : Expr} {h i : ℕ} {xs ys : List Suffix} {a m q b : Tokens} → Taken is_new_word a m → SpMade x h m q → Star SpMemberSuffix ys i q b → xs ≡ ys → begins_suffix (next b) ≡ false
      → (j : ℕ) → j ≡ max h i → SpMade (e.New x xs None) (suc j) a b
  new_bare {x = x} {h = h} {i = i} {xs = xs} {ys = ys} {b = b} (taken {t = t} {b = m} w) d s l n j q =
      subst (λ z. SpMade (e.New x xs None) (suc z) (t ∷ m) b) (sym q) (subst (λ zs. SpMade (e.New x zs None) (suc (max h i)) (t ∷ m) b) (sym l) (made-new_bare (is.new_word (kind_of t.kind) w) d (member_suffixes_of s) n))

  new_args : {x : Expr} {h i o : ℕ} {xs ys : List Suffix} {zs : List Argument} {a m q s b : Tokens} → Taken is_new_word a m → SpMade x h m q → Star SpMemberSuffix ys i q s → xs ≡ ys → SpArgs zs o s b
      → (j : ℕ) → j ≡ max h i → SpMade (e.New x xs (Some zs)) (suc (max j o)) a b
  new_args {x = x} {h = h} {i = i} {o = o} {xs = xs} {zs = zs} {b = b} (taken {t = t} {b = m} w) d s l c j q =
      subst (λ z. SpMade (e.New x xs (Some zs)) (suc (max z o)) (t ∷ m) b) (sym q)
      (subst (λ ys. SpMade (e.New x ys (Some zs)) (suc (max (max h i) o)) (t ∷ m) b) (sym l) (made-new (is.new_word (kind_of t.kind) w) d (member_suffixes_of s) c))

  sound-new : (a : Tokens) → is_new_word (next a) ≡ true → Holds (Low (suc inner.room) SpMade a) (r.new_form inner a)
  unfolding r.new_form r.new_after
  sound-new a n = step _ _ _ (bind _ _ (sub.made (behind a)) (λ x m d. bind _ _ (sound-member_suffixes x.1 m d.low) (λ xs q z. branch (is_open_parenthesis (next q))
      (λ _. bind _ _ (sound-args q) (λ zs b c. done _ _ (record { low = omega (arith, z.low, c.low); is = new_args (taken_if is_new_word a refl n) d.is z.is z.list c.is xs.1 z.high })))
      (λ _. branch (begins_suffix (next q)) (λ _. fails NoTree) (λ f. done _ _ (record { low = omega (arith, z.low); is = new_bare (taken_if is_new_word a refl n) d.is z.is z.list f xs.1 z.high }))))))

  pub sound-made : (a : Tokens) → Holds (Low (suc inner.room) SpMade a) (r.made inner a)
  unfolding r.made
  sound-made a = branch (is_new_word (next a)) (λ e. sound-new a e) (λ _. map (λ v b d. record { low = d.low; is = made-primary d.is }) (sound-primary a))

  sound-suffixes : (f : ℕ) (a : Tokens) → f ≤ inner.room → r.goes_on_suffix a ≡ true → Holds (ListedSome inner.room SpSuffix f a) (r.suffixes inner f a)
  unfolding r.suffixes r.goes_on_suffix next count
  sound-suffixes f a l g = sound-some (λ m _. sound-suffix m) refl f a l g

  suffixed : {x : Expr} {h i j : ℕ} {xs ys : List Suffix} {y : Suffix} {a m b : Tokens} → SpMade x h a m → Star SpSuffix (y ∷ ys) i m b → xs ≡ y ∷ ys → j ≡ max h i → SpLeft (e.Left x xs) (suc j) a b
  suffixed {x = x} {h = h} {i = i} {xs = xs} {a = a} {b = b} d s l q =
      subst (λ z. SpLeft (e.Left x xs) (suc z) a b) (sym q) (subst (λ ys. SpLeft (e.Left x ys) (suc (max h i)) a b) (sym l) (left-suffixes d (suffixes_of s)))

  pub sound-left : (a : Tokens) → Holds (Low (suc inner.room) SpLeft a) (r.left inner a)
  unfolding r.left r.left_after
  sound-left a = bind _ _ (sound-made a) (λ x m d. branch (r.goes_on_suffix m)
      (λ g. fit inner x.1 m _ (λ l. bind _ _ (sound-suffixes x.1 m l g) (λ xs b z. done _ _ (record { low = omega (arith, z.low); is = suffixed d.is z.is z.list z.high }))))
      (λ _. done _ _ (record { low = d.low; is = left-made d.is })))
