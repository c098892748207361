-- What reading a spelling gives: its value, or TooNested where it has too many levels.
use Rattle.std.proofs.Common.{◌≡◌, ◌∙◌, ℕ, zero, suc, ◌<◌, ◌≤◌, max, Bool, true, false, if◌then◌else◌, List, [], ◌∷◌, ◌++◌, length, Ok, Err, refl, sym, ap, subst, nat_le, arith, append_assoc, append-nil}
use Rattle.std.proofs.lemmas.Bool.Decides.{nat_tests}
use Rattle.actx_lex.specs.declared.token.Token.{Token}
use Rattle.actx_grammar.specs.declared.error.Cause.TheVariants.{TooNested}
use Rattle.actx_grammar.specs.declared.kind.Kind.{Kind}
use Rattle.actx_grammar.specs.declared.kind.Kind.TheVariants as kind
use Rattle.actx_grammar.specs.declared.bracket.Bracket.{Bracket}
use Rattle.actx_grammar.specs.declared.bracket.Bracket.TheVariants as bracket
use Rattle.actx_grammar.specs.Kinds.{kind_of, closes, closing, is_comma}
use Rattle.actx_grammar.specs.Tokens.{Tokens, Is, next, behind}
use Rattle.actx_grammar.specs.Reader.{Outcome, Parser, Read, Inner, and_then, expect, many_from, row_from, fits}

pub data Gets {A : Type 0} (lim h : ℕ) (o : Outcome A) (v : A) (b : Tokens) : Type 0 where
  got : h ≤ lim → o ≡ Ok (v, b) → Gets lim h o v b
  deep : lim < h → o ≡ Err TooNested → Gets lim h o v b

pub along : {A : Type 0} {lim h : ℕ} {o p : Outcome A} {v : A} {b : Tokens} → o ≡ p → Gets lim h p v b → Gets lim h o v b
along e (got l r) = got l (e ∙ r)
along e (deep l r) = deep l (e ∙ r)

pub yes : {A : Type 0} {lim h : ℕ} {o : Outcome A} {v : A} {b : Tokens} (c : Bool) (p : Outcome A) → c ≡ true → Gets lim h o v b → Gets lim h (if c then o else p) v b
yes true p e g = g
yes false p e g = Prim.absurd (cc)

pub no : {A : Type 0} {lim h : ℕ} {p : Outcome A} {v : A} {b : Tokens} (c : Bool) (o : Outcome A) → c ≡ false → Gets lim h p v b → Gets lim h (if c then o else p) v b
no true o e g = Prim.absurd (cc)
no false o e g = g

-- a step that takes tokens and reads no node
pub take : {A B : Type 0} {lim h : ℕ} {v : A} {m : Tokens} {w : B} {b : Tokens} (o : Outcome A) (f : A → Parser B) → o ≡ Ok (v, m) → Gets lim h (f v m) w b
    → Gets lim h (and_then o f) w b
unfolding and_then
take o f q g = along (ap (λ z. and_then z f) q) g

-- a step that reads nodes, and then others
pub seq : {A B : Type 0} {lim h i H : ℕ} {v : A} {m : Tokens} {w : B} {b : Tokens} (o : Outcome A) (f : A → Parser B) → Gets lim h o v m
    → (h ≤ lim → Gets lim i (f v m) w b) → H ≡ max h i → Gets lim H (and_then o f) w b
unfolding and_then
seq {lim = lim} {h = h} {i = i} {H = H} {v = v} {m = m} {w = w} {b = b} o f (got l q) k e = along (ap (λ z. and_then z f) q) (go (k l))
  where
    go : Gets lim i (f v m) w b → Gets lim H (f v m) w b
    go (got l' r) = got (omega arith) r
    go (deep l' r) = deep (omega arith) r
seq o f (deep l q) k e = deep (omega arith) (ap (λ z. and_then z f) q)

-- a node has one level more than what lies in it
pub node : {A : Type 0} {lim h : ℕ} {o : Outcome A} {v : A} {b : Tokens} → Gets lim h o v b → Gets (suc lim) (suc h) o v b
node (got l q) = got (omega arith) q
node (deep l q) = deep (omega arith) q

pub done : {A : Type 0} {lim : ℕ} (v : A) (b : Tokens) → Gets lim 0 (Ok (v, b)) v b
done v b = got (omega arith) refl

pub done_as : {A : Type 0} {lim : ℕ} (v w : A) (b : Tokens) → v ≡ w → Gets lim 0 (Ok (v, b)) w b
done_as v w b e = got (omega arith) (ap (λ z. Ok (z, b)) e)

-- the first part of a node that may turn out to be the node itself: it is looked at whether it fits
pub fitting : {B : Type 0} (inner : Inner) {H : ℕ} {w : B} {b : Tokens} (h : ℕ) (i : Tokens) (f : Unit {0} → Parser B)
    → (h ≤ inner.room → Gets inner.room H (f tt i) w b) → h ≤ H → Gets (suc inner.room) (suc H) (and_then (fits inner h i) f) w b
unfolding and_then fits
fitting inner {H = H} {w = w} {b = b} h i f k le = go (nat_le h inner.room) refl
  where
    go : (c : Bool) → nat_le h inner.room ≡ c → Gets (suc inner.room) (suc H) (and_then (if nat_le h inner.room then Ok (tt, i) else Err TooNested) f) w b
    go true e = along (ap (λ c. and_then (if c then Ok (tt, i) else Err TooNested) f) e) (node (k (grind (arith, nat_tests))))
    go false e = deep (let l : inner.room < h = grind (arith, nat_tests) in omega arith) (ap (λ c. and_then (if c then Ok (tt, i) else Err TooNested) f) e)

-- a node that is looked at once it is read
pub fitted : {B : Type 0} (inner : Inner) {w : B} {b : Tokens} (h : ℕ) (i : Tokens) (f : Unit {0} → Parser B)
    → Gets inner.room 0 (f tt i) w b → Gets inner.room h (and_then (fits inner h i) f) w b
unfolding and_then fits
fitted inner {w = w} {b = b} h i f k = go (nat_le h inner.room) refl k
  where
    go : (c : Bool) → nat_le h inner.room ≡ c → Gets inner.room 0 (f tt i) w b → Gets inner.room h (and_then (if nat_le h inner.room then Ok (tt, i) else Err TooNested) f) w b
    go true e (got l r) = along (ap (λ c. and_then (if c then Ok (tt, i) else Err TooNested) f) e) (got (grind (arith, nat_tests)) r)
    go true e (deep l r) = Prim.absurd (omega arith)
    go false e k = deep (grind (arith, nat_tests)) (ap (λ c. and_then (if c then Ok (tt, i) else Err TooNested) f) e)

-- ---- single tokens

pub next_of : (t : Token) {sort : Kind} (ts : Tokens) → Is sort t → next (t ∷ ts) ≡ sort
unfolding next
next_of t ts e = e

pub skipped : (t : Token) (ts : Tokens) → let o : Outcome (Unit {0}) = Ok (tt, behind (t ∷ ts)) in o ≡ Ok (tt, ts)
unfolding behind
skipped t ts = refl

pub expected : (test : Kind → Bool) (t : Token) {sort : Kind} (ts : Tokens) → Is sort t → test sort ≡ true → expect test (t ∷ ts) ≡ Ok (tt, ts)
unfolding expect next behind
expected test t ts e q = rw (e, q) refl

pub closes_closing : (c : Bracket) → closes c (closing c) ≡ true
closes_closing bracket.Round = refl
closes_closing bracket.Square = refl
closes_closing bracket.Curly = refl

pub closing_no_comma : (c : Bracket) → is_comma (closing c) ≡ false
closing_no_comma bracket.Round = refl
closing_no_comma bracket.Square = refl
closing_no_comma bracket.Curly = refl

pub closed : (c : Bracket) (t : Token) (ts : Tokens) → Is (closing c) t → expect (closes c) (t ∷ ts) ≡ Ok (tt, ts)
closed c t ts e = expected (closes c) t ts e (closes_closing c)

some_left : (b : Tokens) (sort : Kind) → next b ≡ sort → (sort ≡ kind.End → ⊥) → 0 < length b
unfolding next
some_left [] sort e n = Prim.absurd (n (sym e))
some_left (t ∷ ts) sort e n = omega arith

pub tested_left : (test : Kind → Bool) (b : Tokens) → test (next b) ≡ true → test kind.End ≡ false → 0 < length b
tested_left test b e f = some_left b (next b) refl (λ q. let z : test kind.End ≡ true = subst (λ s. test s ≡ true) q e in Prim.absurd (cc))

-- ---- lists

-- members that are read one after the other
pub data Run {X : Type 0} (go : Tokens → Bool) (item : Parser (Read X)) (lim : ℕ) : List X → ℕ → Tokens → Tokens → Type 0 where
  run-none : {b : Tokens} → Run go item lim [] 0 b b
  run-more : {x : X} {xs : List X} {h i : ℕ} {a m b : Tokens} → go a ≡ true → Gets lim h (item a) (x, h) m → length m < length a
      → Run go item lim xs i m b → Run go item lim (x ∷ xs) (max h i) a b

pub many_gets : {X : Type 0} {go : Tokens → Bool} {item : Parser (Read X)} {lim : ℕ} (turns f H : ℕ) (found L : List X) {xs : List X} {h : ℕ} {a b : Tokens}
    → Run go item lim xs h a b → go b ≡ false → length a ≤ turns → f ≤ lim → L ≡ found ++ xs → H ≡ max f h
    → Gets lim H (many_from go item turns found f a) (L, H) b
unfolding many_from
many_gets zero f H found L (run-none {b = b}) s t l e g = got (omega arith) (let e' : found ≡ L = sym (e ∙ append-nil found) in let g' : f ≡ H = omega arith in cc)
many_gets (suc n) f H found L (run-none {b = b}) s t l e g = no _ _ s (got (omega arith) (let e' : found ≡ L = sym (e ∙ append-nil found) in let g' : f ≡ H = omega arith in cc))
many_gets zero f H found L (run-more y d q r) s t l e g = Prim.absurd (omega arith)
many_gets (suc n) f H found L (run-more {x = x} {xs = xs} {h = h} y d q r) s t l e g =
    yes _ _ y (seq _ _ d (λ l'. many_gets n (max f h) H (found ++ x ∷ []) L r s (omega arith) (omega arith) (e ∙ sym (append_assoc found (x ∷ []) xs)) (omega arith)) (omega arith))

-- members with commas between
pub data Row {X : Type 0} (c : Bracket) (ends : Kind → Bool) (item : Parser (Read X)) (lim : ℕ) : List X → ℕ → Tokens → Tokens → Type 0 where
  row-none : {b : Tokens} → ends (next b) ≡ true → 0 < length b → Row c ends item lim [] 0 b b
  row-last : {x : X} {h : ℕ} {a b : Tokens} → ends (next a) ≡ false → Gets lim h (item a) (x, h) b → length b < length a → next b ≡ closing c
      → Row c ends item lim (x ∷ []) h a b
  row-more : {t : Token} {x : X} {xs : List X} {h i : ℕ} {a m b : Tokens} → ends (next a) ≡ false → Gets lim h (item a) (x, h) (t ∷ m)
      → suc (length m) < length a → is_comma (kind_of t.kind) ≡ true → Row c ends item lim xs i m b → Row c ends item lim (x ∷ xs) (max h i) a b

pub row_gets : {X : Type 0} {c : Bracket} {ends : Kind → Bool} {item : Parser (Read X)} {lim : ℕ} (turns f H : ℕ) (found L : List X) {xs : List X} {h : ℕ} {a b : Tokens}
    → Row c ends item lim xs h a b → length a ≤ turns → f ≤ lim → L ≡ found ++ xs → H ≡ max f h
    → Gets lim H (row_from c ends item turns found f a) (L, H) b
unfolding row_from next behind
row_gets zero f H found L (row-none s q) t l e g = Prim.absurd (omega arith)
row_gets (suc n) f H found L (row-none s q) t l e g = yes _ _ s (got (omega arith) (let e' : found ≡ L = sym (e ∙ append-nil found) in let g' : f ≡ H = omega arith in cc))
row_gets zero f H found L (row-last s d q k) t l e g = Prim.absurd (omega arith)
row_gets {c = c} (suc n) f H found L (row-last {x = x} {h = h} {b = b} s d q k) t l e g =
    no _ _ s (seq {i = H} _ _ d (λ l'. no (is_comma (next b)) _ (ap is_comma k ∙ closing_no_comma c) (yes (closes c (next b)) _ (ap (closes c) k ∙ closes_closing c) (got (omega arith) (cc)))) (omega arith))
row_gets zero f H found L (row-more s d q y r) t l e g = Prim.absurd (omega arith)
row_gets (suc n) f H found L (row-more {x = x} {xs = xs} {h = h} s d q y r) t l e g =
    no _ _ s (seq _ _ d (λ l'. yes _ _ y (row_gets n (max f h) H (found ++ x ∷ []) L r (omega arith) (omega arith) (e ∙ sym (append_assoc found (x ∷ []) xs)) (omega arith))) (omega arith))
