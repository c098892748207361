-- Primaries, new and what follows them: what is spelled is read, or has too many levels.
use Rattle.std.proofs.Common.{◌≡◌, ◌∙◌, ℕ, zero, suc, ◌<◌, ◌≤◌, max, true, false, ◌&&◌, List, [], ◌∷◌, ◌++◌, length, refl, sym, ap, arith, append_assoc}
use Rattle.actx_text.specs.declared.units.Units.{Units}
use Rattle.actx_lex.specs.declared.token.Token.{Token}
use Rattle.actx_lex.specs.declared.token.Punct.TheVariants as p
use Rattle.actx_tree.specs.declared.expr.Expr.{Expr}
use Rattle.actx_tree.specs.declared.expr.Expr.TheVariants as e
use Rattle.actx_tree.specs.declared.expr.Piece.{Piece}
use Rattle.actx_tree.specs.declared.expr.Argument.{Argument}
use Rattle.actx_tree.specs.declared.expr.Entry.{Entry}
use Rattle.actx_tree.specs.declared.expr.Entry.TheVariants as an_entry
use Rattle.actx_tree.specs.declared.expr.Suffix.{Suffix}
use Rattle.actx_tree.specs.declared.expr.Suffix.TheVariants as a_suffix
use Rattle.actx_tree.specs.declared.function.Function.{Function}
use Rattle.actx_tree.specs.declared.function.Method.{Method}
use Rattle.actx_tree.specs.declared.function.Class.{Class}
use Rattle.actx_tree.specs.declared.pattern.Params.{Params}
use Rattle.actx_tree.specs.Parts.{piece_of}
use Rattle.actx_grammar.specs.declared.kind.Kind.{Kind}
use Rattle.actx_grammar.specs.declared.kind.Kind.TheVariants as kind
use Rattle.actx_grammar.specs.declared.word.Word.TheVariants as word
use Rattle.actx_grammar.specs.declared.bracket.Bracket.{Bracket}
use Rattle.actx_grammar.specs.declared.bracket.Bracket.TheVariants as bracket
use Rattle.actx_grammar.specs.Kinds.{kind_of, closes, closing, is_comma, is_colon, is_dots, is_open_parenthesis, is_open_bracket, is_new_word, begins_suffix, begins_member}
use Rattle.actx_grammar.specs.Tokens.{Tokens, Is, next}
use Rattle.actx_grammar.specs.Reader.{Inner, count}
use Rattle.actx_grammar.specs.Lines as r
use Rattle.actx_grammar.specs.Grammar.{SpWord, word-name, word-reserved, method_head-plain, SpParams, params, SpMethod, method, SpFunction, SpClass, SpLeft, left-made, left-suffixes, SpMade, made-primary, made-new, made-new_bare, SpSuffixes, suffixes-none, suffixes-more, SpMemberSuffixes, member_suffixes-none, member_suffixes-more, SpSuffix, suffix-member, suffix-call, suffix-optional_name, suffix-optional_index, suffix-optional_call, SpMemberSuffix, member_suffix-name, member_suffix-index, SpIndex, index, SpArgs, args, SpArguments, arguments-none, arguments-last, arguments-more, SpArgument, argument-one, argument-spread, SpPrimary, primary-name, primary-number, primary-text, primary-true, primary-false, primary-null, primary-this, primary-template, primary-template_of, primary-brackets, primary-array, primary-object, primary-super_call, primary-super_member, primary-function, primary-class, SpPieces, pieces-last, pieces-more, SpEntries, entries-none, entries-last, entries-more, SpEntry, entry-spread, entry-name, entry-pair, entry-method, head-plain, head-generator, head-async, function, class-base, class-derived}
use Rattle.actx_grammar.proofs.Past.{shorter}
use Rattle.actx_grammar.proofs.PastLines.{past-argument, past-entry, past-suffix, past-member_suffix, past-expr}
use Rattle.actx_grammar.proofs.Following.{after, after_is, no_suffix}
use Rattle.actx_grammar.proofs.Firsts.{first-argument, first-entry, first-assign, first-primary, first-async_function, not_dots, not_new, method_not_dots, key_no_dots}
use Rattle.actx_grammar.proofs.Gets.{Gets, got, along, yes, no, take, seq, node, done, fitting, fitted, next_of, skipped, expected, closed, tested_left, Run, run-none, run-more, many_gets, Row, row-none, row-last, row-more, row_gets}
use Rattle.actx_grammar.proofs.Parts.{name_is, number_is, text_is, opening_is, piece_is, word_is, method_head_is}
use Rattle.actx_grammar.proofs.Completes.{Completes}
use Rattle.actx_grammar.proofs.GetPatterns.{after_closing, closes_next, after_comma, get-function, get-class, get-key, get-method_tail}

closes_left : (c : Bracket) (b : Tokens) → closes c (next b) ≡ true → 0 < length b
closes_left bracket.Round b e = tested_left (closes bracket.Round) b e refl
closes_left bracket.Square b e = tested_left (closes bracket.Square) b e refl
closes_left bracket.Curly b e = tested_left (closes bracket.Curly) b e refl

closed_next : (c : Bracket) (t : Token) (b : Tokens) → Is (closing c) t → closes c (next (t ∷ b)) ≡ true
closed_next c t b e = closes_next c (t ∷ b) (next_of t b e)

colon_not_paren : (t : Token) (b : Tokens) → Is (kind.Sign p.Colon) t → is_colon (next (t ∷ b)) ≡ true
colon_not_paren t b e = ap is_colon (next_of t b e)

-- the parameters of a method begin with `(`
params_no_colon : {ps : Params} {h : ℕ} {a b : Tokens} → SpParams ps h a b → is_colon (next a) ≡ false
params_no_colon (params {t = t} {a = a} e d q) = ap is_colon (next_of t a e)

index_next : {x : Expr} {h : ℕ} {a b : Tokens} → SpIndex x h a b → next a ≡ kind.Sign p.OpenBracket
index_next (index {t = t} {a = a} e d c) = next_of t a e

args_next : {xs : List Argument} {h : ℕ} {a b : Tokens} → SpArgs xs h a b → next a ≡ kind.Sign p.OpenParenthesis
args_next (args {t = t} {a = a} e d c) = next_of t a e

member_next : {x : Suffix} {h : ℕ} {a b : Tokens} → SpMemberSuffix x h a b → begins_member (next a) ≡ true
member_next (member_suffix-name {t = t} {a = a} e d) = ap begins_member (next_of t a e)
member_next (member_suffix-index d) = ap begins_member (index_next d)

pub suffix_next : {x : Suffix} {h : ℕ} {a b : Tokens} → SpSuffix x h a b → begins_suffix (next a) ≡ true
suffix_next (suffix-member (member_suffix-name {t = t} {a = a} e d)) = ap begins_suffix (next_of t a e)
suffix_next (suffix-member (member_suffix-index d)) = ap begins_suffix (index_next d)
suffix_next (suffix-call d) = ap begins_suffix (args_next d)
suffix_next (suffix-optional_name {t = t} {a = a} e d) = ap begins_suffix (next_of t a e)
suffix_next (suffix-optional_index {t = t} {a = a} e d) = ap begins_suffix (next_of t a e)
suffix_next (suffix-optional_call {t = t} {a = a} e d) = ap begins_suffix (next_of t a e)

-- no member where no suffix begins
fewer_members : (sort : Kind) → begins_suffix sort ≡ false → begins_member sort ≡ false
fewer_members (kind.Sign p.Dot) e = Prim.absurd (cc)
fewer_members (kind.Sign p.OpenBracket) e = Prim.absurd (cc)
fewer_members _ e = refl

fewer_calls : (sort : Kind) → begins_suffix sort ≡ false → is_open_parenthesis sort ≡ false
fewer_calls (kind.Sign p.OpenParenthesis) e = Prim.absurd (cc)
fewer_calls _ e = refl

module _ (inner : Inner) (sub : Completes inner) where
  -- ---- arguments and entries

  get-argument : {x : Argument} {h : ℕ} {a b : Tokens} → SpArgument x h a b → 11 < after b → Gets inner.room h (r.argument inner a) (x, h) b
  unfolding r.argument
  get-argument (argument-one {a = a} d) l = no _ _ (not_dots (next a) (first-assign d)) (seq _ _ (sub.assign d l) (λ _. done _ _) (omega arith))
  get-argument (argument-spread {t = t} {a = a} e d) l = yes _ _ (ap is_dots (next_of t a e)) (take _ _ (skipped t a) (seq _ _ (sub.assign d l) (λ _. done _ _) (omega arith)))

  row-arguments : {c : Bracket} {xs : List Argument} {h : ℕ} {a b : Tokens} → SpArguments c xs h a b → closes c (next b) ≡ true
      → Row c (closes c) (r.argument inner) inner.room xs h a b
  row-arguments {c = c} (arguments-none {b = b}) s = row-none s (closes_left c b s)
  row-arguments {c = c} (arguments-last {b = b} d e) s = row-last (first-argument c d) (get-argument d (let z = after_closing c b e in omega arith)) (shorter (past-argument d)) e
  row-arguments {c = c} (arguments-more {t = t} {m = m} d e q) s =
      row-more (first-argument c d) (get-argument d (after_comma t m e)) (let z = shorter (past-argument d) in omega arith) (ap is_comma e) (row-arguments q s)

  get-arguments : (c : Bracket) {xs : List Argument} {h : ℕ} {a b : Tokens} → SpArguments c xs h a b → closes c (next b) ≡ true
      → Gets inner.room h (r.arguments inner c a) (xs, h) b
  unfolding r.arguments count
  get-arguments c {xs = xs} {h = h} {a = a} d s = row_gets (length a) 0 h [] xs (row-arguments d s) (omega arith) (omega arith) refl (omega arith)

  get-args : {xs : List Argument} {h : ℕ} {a b : Tokens} → SpArgs xs h a b → Gets inner.room h (r.args inner a) (xs, h) b
  unfolding r.args
  get-args (args {t = t} {u = u} {a = a} {b = b} e d c) =
      take _ _ (expected is_open_parenthesis t a e refl) (seq _ _ (get-arguments bracket.Round d (closed_next bracket.Round u b c)) (λ _. take _ _ (closed bracket.Round u b c) (done _ _)) (omega arith))

  get-entry : {x : Entry} {h : ℕ} {a b : Tokens} → SpEntry x h a b → 11 < after b → Gets inner.room h (r.entry inner a) (x, h) b
  unfolding r.entry r.spread_entry r.named_entry r.keyed r.pair_or_method
  get-entry (entry-spread {t = t} {a = a} e d) l = yes _ _ (ap is_dots (next_of t a e)) (take _ _ (skipped t a) (seq _ _ (sub.assign d l) (λ _. done _ _) (omega arith)))
  get-entry (entry-name {t = t} {b = b} e q) l = no _ _ (ap is_dots (next_of t b (ap kind_of e))) (yes _ _ q (fitted inner 1 _ _ (take _ _ (name_is t b e) (done _ _))))
  get-entry (entry-pair {t = t} {h = h} {i = i} {m = m} s f w e d) l = no _ _ (key_no_dots w) (no _ _ s (take _ _ (method_head_is (method_head-plain f)) (seq {i = i} _ _ (get-key inner sub w)
      (λ _. yes (is_colon (next (t ∷ m)) && true) _ (ap (λ z. is_colon z && true) (next_of t m e)) (take _ _ (skipped t m) (seq _ _ (sub.assign d l) (λ _. done _ _) (omega arith)))) refl)))
  get-entry (entry-method {a = a} s d) l = no _ _ (method_not_dots d) (no _ _ s (method_entry d))
    where
      method_entry : {x : Method} {h : ℕ} {a b : Tokens} → SpMethod x h a b → Gets inner.room h (r.keyed inner a) (an_entry.Method x, h) b
      method_entry (method {f = f} {w = w} {h = h} {i = i} {q = q} c k ps u) =
          take _ _ (method_head_is c) (seq {i = suc (max h i)} _ _ (get-key inner sub k) (λ _. no (is_colon (next q) && r.is_plain f) _ (ap (λ z. z && r.is_plain f) (params_no_colon ps))
          (seq _ _ (get-method_tail inner sub f w h ps u) (λ _. done _ _) (omega arith))) (omega arith))

  row-entries : {xs : List Entry} {h : ℕ} {a b : Tokens} → SpEntries xs h a b → closes bracket.Curly (next b) ≡ true
      → Row bracket.Curly (closes bracket.Curly) (r.entry inner) inner.room xs h a b
  row-entries (entries-none {b = b}) s = row-none s (closes_left bracket.Curly b s)
  row-entries (entries-last {b = b} d e) s = row-last (first-entry d) (get-entry d (let z = after_closing bracket.Curly b e in omega arith)) (shorter (past-entry d)) e
  row-entries (entries-more {t = t} {m = m} d e q) s =
      row-more (first-entry d) (get-entry d (after_comma t m e)) (let z = shorter (past-entry d) in omega arith) (ap is_comma e) (row-entries q s)

  get-entries : {xs : List Entry} {h : ℕ} {a b : Tokens} → SpEntries xs h a b → closes bracket.Curly (next b) ≡ true → Gets inner.room h (r.entries inner a) (xs, h) b
  unfolding r.entries count
  get-entries {xs = xs} {h = h} {a = a} d s = row_gets (length a) 0 h [] xs (row-entries d s) (omega arith) (omega arith) refl (omega arith)

  -- ---- suffixes

  get-index : {x : Expr} {h : ℕ} {a b : Tokens} → SpIndex x h a b → Gets inner.room h (r.index inner a) (x, h) b
  unfolding r.index
  get-index (index {t = t} {u = u} {a = a} {b = b} e d c) =
      take _ _ (expected is_open_bracket t a e refl) (seq _ _ (sub.expr d (rw (after_is u b c) (omega arith))) (λ _. take _ _ (closed bracket.Square u b c) (done _ _)) (omega arith))

  by_member : {sort : Kind} (a : Tokens) → next a ≡ sort → r.member_suffix inner a ≡ r.member_suffix_from inner sort a
  unfolding r.member_suffix
  by_member a e = ap (λ s. r.member_suffix_from inner s a) e

  get-member_suffix : {x : Suffix} {h : ℕ} {a b : Tokens} → SpMemberSuffix x h a b → Gets inner.room h (r.member_suffix inner a) (x, h) b
  get-member_suffix (member_suffix-name {t = t} {a = a} e d) = along (by_member (t ∷ a) (next_of t a e)) (take _ _ (skipped t a) (take _ _ (word_is d) (done _ _)))
  get-member_suffix (member_suffix-index {a = a} d) = along (by_member a (index_next d)) (seq _ _ (get-index d) (λ _. done _ _) (omega arith))

  by_optional : {sort : Kind} (a : Tokens) → next a ≡ sort → r.optional_suffix inner a ≡ r.optional_from inner sort a
  unfolding r.optional_suffix
  by_optional a e = ap (λ s. r.optional_from inner s a) e

  optional_word : {u : Units} {a b : Tokens} → SpWord u a b → Gets inner.room 0 (r.optional_suffix inner a) (a_suffix.Member true u, 0) b
  optional_word (word-name {t = t} {b = b} e) = along (by_optional (t ∷ b) (next_of t b (ap kind_of e))) (take _ _ (word_is (word-name e)) (done _ _))
  optional_word (word-reserved {t = t} {b = b} e) = along (by_optional (t ∷ b) (next_of t b (ap kind_of e))) (take _ _ (word_is (word-reserved e)) (done _ _))

  by_suffix : {sort : Kind} (a : Tokens) → next a ≡ sort → r.suffix inner a ≡ r.suffix_from inner sort a
  unfolding r.suffix
  by_suffix a e = ap (λ s. r.suffix_from inner s a) e

  get-suffix : {x : Suffix} {h : ℕ} {a b : Tokens} → SpSuffix x h a b → Gets inner.room h (r.suffix inner a) (x, h) b
  get-suffix (suffix-member (member_suffix-name {t = t} {a = a} e d)) = along (by_suffix (t ∷ a) (next_of t a e)) (get-member_suffix (member_suffix-name e d))
  get-suffix (suffix-member (member_suffix-index {a = a} d)) = along (by_suffix a (index_next d)) (get-member_suffix (member_suffix-index d))
  get-suffix (suffix-call {a = a} d) = along (by_suffix a (args_next d)) (seq _ _ (get-args d) (λ _. done _ _) (omega arith))
  get-suffix (suffix-optional_name {t = t} {a = a} e d) = along (by_suffix (t ∷ a) (next_of t a e)) (take _ _ (skipped t a) (optional_word d))
  get-suffix (suffix-optional_index {t = t} {a = a} e d) =
      along (by_suffix (t ∷ a) (next_of t a e)) (take _ _ (skipped t a) (along (by_optional a (index_next d)) (seq _ _ (get-index d) (λ _. done _ _) (omega arith))))
  get-suffix (suffix-optional_call {t = t} {a = a} e d) =
      along (by_suffix (t ∷ a) (next_of t a e)) (take _ _ (skipped t a) (along (by_optional a (args_next d)) (seq _ _ (get-args d) (λ _. done _ _) (omega arith))))

  run-suffixes : {xs : List Suffix} {h : ℕ} {a b : Tokens} → SpSuffixes xs h a b → Run r.goes_on_suffix (r.suffix inner) inner.room xs h a b
  unfolding r.goes_on_suffix
  run-suffixes suffixes-none = run-none
  run-suffixes (suffixes-more d q) = run-more (suffix_next d) (get-suffix d) (shorter (past-suffix d)) (run-suffixes q)

  get-suffixes : (f H : ℕ) {xs : List Suffix} {h : ℕ} {a b : Tokens} → SpSuffixes xs h a b → 1 < after b → f ≤ inner.room → H ≡ max f h
      → Gets inner.room H (r.suffixes inner f a) (xs, H) b
  unfolding r.suffixes r.goes_on_suffix count
  get-suffixes f H {xs = xs} {a = a} {b = b} d s l e = many_gets (length a) f H [] xs (run-suffixes d) (no_suffix b s) (omega arith) l refl e

  run-member_suffixes : {xs : List Suffix} {h : ℕ} {a b : Tokens} → SpMemberSuffixes xs h a b → Run r.goes_on_member (r.member_suffix inner) inner.room xs h a b
  unfolding r.goes_on_member
  run-member_suffixes member_suffixes-none = run-none
  run-member_suffixes (member_suffixes-more d q) = run-more (member_next d) (get-member_suffix d) (shorter (past-member_suffix d)) (run-member_suffixes q)

  get-member_suffixes : (f H : ℕ) {xs : List Suffix} {h : ℕ} {a b : Tokens} → SpMemberSuffixes xs h a b → begins_member (next b) ≡ false → f ≤ inner.room → H ≡ max f h
      → Gets inner.room H (r.member_suffixes inner f a) (xs, H) b
  unfolding r.member_suffixes r.goes_on_member count
  get-member_suffixes f H {xs = xs} {a = a} d s l e = many_gets (length a) f H [] xs (run-member_suffixes d) s (omega arith) l refl e

  -- ---- primaries

  get-pieces : (turns f H : ℕ) (found L : List Piece) {xs : List Piece} {h : ℕ} {a b : Tokens} → SpPieces xs h a b → length a ≤ turns → f ≤ inner.room
      → L ≡ found ++ xs → H ≡ max f h → Gets inner.room H (r.pieces_from inner turns found f a) (L, H) b
  unfolding r.pieces_from
  get-pieces zero f H found L (pieces-last d q) t l e g = let z = shorter (past-expr d) in Prim.absurd (omega arith)
  get-pieces (suc n) f H found L (pieces-last {t = u} {h = h} {b = b} d q) t l e g =
      seq {i = H} _ _ (sub.expr d (rw (after_is u b (ap kind_of q)) (omega arith))) (λ l'. take _ _ (piece_is u b q) (got (omega arith) (cc))) (omega arith)
  get-pieces zero f H found L (pieces-more d q r) t l e g = let z = shorter (past-expr d) in Prim.absurd (omega arith)
  get-pieces (suc n) f H found L (pieces-more {t = u} {x = x} {u = text} {xs = xs} {h = h} {m = m} d q r) t l e g =
      seq {i = H} _ _ (sub.expr d (rw (after_is u m (ap kind_of q)) (omega arith))) (λ l'. take _ _ (piece_is u m q)
      (get-pieces n (max f h) H (found ++ piece_of x text ∷ []) L r (let z = shorter (past-expr d) in omega arith) (omega arith) (e ∙ sym (append_assoc found (piece_of x text ∷ []) xs)) (omega arith))) (omega arith)

  by_primary : {sort : Kind} (a : Tokens) → next a ≡ sort → r.primary inner a ≡ r.primary_from inner sort a
  unfolding r.primary
  by_primary a e = ap (λ s. r.primary_from inner s a) e

  by_super : {sort : Kind} (a : Tokens) → next a ≡ sort → r.super_form inner a ≡ r.super_from inner sort a
  unfolding r.super_form
  by_super a e = ap (λ s. r.super_from inner s a) e

  function_next : {x : Function} {h : ℕ} {a b : Tokens} → SpFunction x h a b → Gets (suc inner.room) h (r.primary inner a) (e.Function x, h) b
  unfolding r.function_expression r.named
  function_next (function {a = a} (head-plain {t = t} {b = m} q s) n ps u) =
      along (by_primary (t ∷ m) (next_of t m q)) (seq _ _ (get-function inner sub (function (head-plain q s) n ps u)) (λ _. done _ _) (omega arith))
  function_next (function {a = a} (head-generator {t = t} {u = v} {b = m} q s) n ps u) =
      along (by_primary (t ∷ v ∷ m) (next_of t (v ∷ m) q)) (seq _ _ (get-function inner sub (function (head-generator q s) n ps u)) (λ _. done _ _) (omega arith))
  function_next (function {a = a} (head-async {t = t} {u = v} {b = m} q) n ps u) =
      along (by_primary (t ∷ v ∷ m) (first-async_function (t ∷ v ∷ m) q)) (yes _ _ q (seq _ _ (get-function inner sub (function (head-async q) n ps u)) (λ _. done _ _) (omega arith)))

  class_next : {x : Class} {h : ℕ} {a b : Tokens} → SpClass x h a b → next a ≡ kind.Word word.Class
  class_next (class-base {t = t} {a = a} e n o d c) = next_of t a e
  class_next (class-derived {t = t} {a = a} e n s d o f c) = next_of t a e

  get-primary : {x : Expr} {h : ℕ} {a b : Tokens} → SpPrimary x h a b → Gets (suc inner.room) h (r.primary inner a) (x, h) b
  unfolding r.named r.template r.brackets r.array r.object r.pieces count
  get-primary (primary-name {t = t} {b = b} e q) = along (by_primary (t ∷ b) (next_of t b (ap kind_of e))) (no _ _ q (take _ _ (name_is t b e) (node (done _ _))))
  get-primary (primary-number {t = t} {b = b} e) = along (by_primary (t ∷ b) (next_of t b (ap kind_of e))) (take _ _ (number_is t b e) (node (done _ _)))
  get-primary (primary-text {t = t} {b = b} e) = along (by_primary (t ∷ b) (next_of t b (ap kind_of e))) (take _ _ (text_is t b e) (node (done _ _)))
  get-primary (primary-true {t = t} {b = b} e) = along (by_primary (t ∷ b) (next_of t b e)) (take _ _ (skipped t b) (node (done _ _)))
  get-primary (primary-false {t = t} {b = b} e) = along (by_primary (t ∷ b) (next_of t b e)) (take _ _ (skipped t b) (node (done _ _)))
  get-primary (primary-null {t = t} {b = b} e) = along (by_primary (t ∷ b) (next_of t b e)) (take _ _ (skipped t b) (node (done _ _)))
  get-primary (primary-this {t = t} {b = b} e) = along (by_primary (t ∷ b) (next_of t b e)) (take _ _ (skipped t b) (node (done _ _)))
  get-primary (primary-template {t = t} {b = b} e) = along (by_primary (t ∷ b) (next_of t b (ap kind_of e))) (take _ _ (opening_is t b e) (node (done _ _)))
  get-primary (primary-template_of {t = t} {x = x} {xs = xs} {h = h} {a = a} e d) = along (by_primary (t ∷ a) (next_of t a (ap kind_of e))) (take _ _ (opening_is t a e)
      (node (seq _ _ (get-pieces (length a) 0 h [] (x ∷ xs) d (omega arith) (omega arith) refl (omega arith)) (λ _. done _ _) (omega arith))))
  get-primary (primary-brackets {t = t} {u = u} {a = a} {b = b} e d c) = along (by_primary (t ∷ a) (next_of t a e)) (node (take _ _ (skipped t a)
      (seq _ _ (sub.expr d (rw (after_is u b c) (omega arith))) (λ _. take _ _ (closed bracket.Round u b c) (done _ _)) (omega arith))))
  get-primary (primary-array {t = t} {u = u} {a = a} {b = b} e d c) = along (by_primary (t ∷ a) (next_of t a e)) (node (take _ _ (skipped t a)
      (seq _ _ (get-arguments bracket.Square d (closed_next bracket.Square u b c)) (λ _. take _ _ (closed bracket.Square u b c) (done _ _)) (omega arith))))
  get-primary (primary-object {t = t} {u = u} {a = a} {b = b} e d c) = along (by_primary (t ∷ a) (next_of t a e)) (node (take _ _ (skipped t a)
      (seq _ _ (get-entries d (closed_next bracket.Curly u b c)) (λ _. take _ _ (closed bracket.Curly u b c) (done _ _)) (omega arith))))
  get-primary (primary-super_call {t = t} {a = a} e d) = along (by_primary (t ∷ a) (next_of t a e)) (node (take _ _ (skipped t a)
      (along (by_super a (args_next d)) (seq _ _ (get-args d) (λ _. done _ _) (omega arith)))))
  get-primary (primary-super_member {t = t} {u = u} {a = a} e o d) = along (by_primary (t ∷ u ∷ a) (next_of t (u ∷ a) e)) (node (take _ _ (skipped t (u ∷ a))
      (along (by_super (u ∷ a) (next_of u a o)) (take _ _ (skipped u a) (take _ _ (word_is d) (done _ _))))))
  get-primary (primary-function d) = function_next d
  get-primary (primary-class {a = a} d) = along (by_primary a (class_next d)) (seq _ _ (get-class inner sub d) (λ _. done _ _) (omega arith))

  -- ---- new, and what follows a Primary

  pub get-made : {x : Expr} {h : ℕ} {a b : Tokens} → SpMade x h a b → Gets (suc inner.room) h (r.made inner a) (x, h) b
  unfolding r.made r.new_form r.new_after
  get-made (made-primary {a = a} d) = no _ _ (not_new (next a) (first-primary d)) (get-primary d)
  get-made (made-new {t = t} {h = h} {i = i} {j = j} {a = a} {n = n} e d s z) =
      yes _ _ (ap is_new_word (next_of t a e)) (node (take _ _ (skipped t a) (seq {i = max (max h i) j} _ _ (sub.made d) (λ l. seq {i = j} _ _ (get-member_suffixes h (max h i) s (ap begins_member (args_next z)) l refl)
      (λ _. yes (is_open_parenthesis (next n)) _ (ap is_open_parenthesis (args_next z)) (seq _ _ (get-args z) (λ _. done _ _) (omega arith))) refl) (omega arith))))
  get-made (made-new_bare {t = t} {h = h} {i = i} {a = a} {b = b} e d s z) =
      yes _ _ (ap is_new_word (next_of t a e)) (node (take _ _ (skipped t a) (seq {i = max h i} _ _ (sub.made d) (λ l. seq {i = 0} _ _ (get-member_suffixes h (max h i) s (fewer_members (next b) z) l refl)
      (λ _. no (is_open_parenthesis (next b)) _ (fewer_calls (next b) z) (no (begins_suffix (next b)) _ z (done _ _))) (omega arith)) (omega arith))))

  pub get-left : {x : Expr} {h : ℕ} {a b : Tokens} → SpLeft x h a b → 1 < after b → Gets (suc inner.room) h (r.left inner a) (x, h) b
  unfolding r.left r.left_after r.goes_on_suffix
  get-left (left-made {b = b} d) l = seq _ _ (get-made d) (λ _. no (begins_suffix (next b)) _ (no_suffix b l) (done _ _)) (omega arith)
  get-left (left-suffixes {h = h} {i = i} {m = m} d (suffixes-more c q)) l =
      seq {i = suc (max h i)} _ _ (get-made d) (λ _. yes (begins_suffix (next m)) _ (suffix_next c) (fitting inner h m _ (λ f. seq _ _ (get-suffixes h (max h i) (suffixes-more c q) l f refl) (λ _. done _ _) (omega arith)) (omega arith))) (omega arith)
