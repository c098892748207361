-- What holds of what a parser reads.
use Rattle.std.proofs.Common.{◌≡◌, ◌∙◌, sym, subst, refl, ap, ℕ, zero, suc, ◌≤◌, max, Bool, true, false, nat_le, if◌then◌else◌, List, [], ◌∷◌, ◌++◌, length, Ok, Err, arith, append_assoc, append-nil}
use Rattle.std.proofs.lemmas.Bool.Decides.{nat_tests}
use Rattle.actx_lex.specs.declared.token.Token.{Token}
use Rattle.actx_grammar.specs.declared.error.Cause.{Cause}
use Rattle.actx_grammar.specs.declared.error.Cause.TheVariants.{NoTree, TooNested}
use Rattle.actx_grammar.specs.declared.kind.Kind.{Kind}
use Rattle.actx_grammar.specs.declared.kind.Kind.TheVariants as kind
use Rattle.actx_grammar.specs.declared.bracket.Bracket.{Bracket}
use Rattle.actx_grammar.specs.Kinds.{kind_of, closes, is_comma}
use Rattle.actx_grammar.specs.Tokens.{Tokens, next, behind}
use Rattle.actx_grammar.specs.Reader.{Outcome, Parser, Read, Inner, and_then, count, expect, many_from, row_from, fits}

pub record Holds {A : Type 0} (S : A → Tokens → Type 0) (o : Outcome A) : Type 0 where
  pub ok : (v : A) (b : Tokens) → o ≡ Ok (v, b) → S v b

abbrev value_or : {A : Type 0} → A × Tokens → Outcome A → A × Tokens
value_or d (Ok p) = p
value_or d (Err e) = d

pub done : {A : Type 0} {S : A → Tokens → Type 0} (v : A) (b : Tokens) → S v b → Holds S (Ok (v, b))
done {A = A} {S = S} v b s = record { ok = λ w c q. let h : (let p : A × Tokens = (v, b) in p) ≡ (w, c) = ap (value_or (v, b)) q in subst (λ (z : A × Tokens). S z.0 z.1) h s }

pub fails : {A : Type 0} {S : A → Tokens → Type 0} (e : Cause) → Holds S (Err e)
fails e = record { ok = λ w c q. Prim.absurd (cc) }

pub step : {A B : Type 0} {R : B → Tokens → Type 0} (v : A) (b : Tokens) (f : A → Parser B) → Holds R (f v b) → Holds R (and_then (Ok (v, b)) f)
unfolding and_then
step v b f h = h

pub bind : {A B : Type 0} {S : A → Tokens → Type 0} {R : B → Tokens → Type 0} (o : Outcome A) (f : A → Parser B) → Holds S o → ((v : A) (b : Tokens) → S v b → Holds R (f v b)) → Holds R (and_then o f)
unfolding and_then
bind {A = A} {B = B} {S = S} {R = R} o f h k = go o h
  where
    go : (o : Outcome A) → Holds S o → Holds R (and_then o f)
    go (Ok p) h = k p.0 p.1 (h.ok p.0 p.1 refl)
    go (Err e) h = fails e

pub branch : {A : Type 0} {S : A → Tokens → Type 0} {p q : Outcome A} (c : Bool) → (c ≡ true → Holds S p) → (c ≡ false → Holds S q) → Holds S (if c then p else q)
branch true y n = y refl
branch false y n = n refl

pub map : {A : Type 0} {S R : A → Tokens → Type 0} {o : Outcome A} → ((v : A) (b : Tokens) → S v b → R v b) → Holds S o → Holds R o
map f h = record { ok = λ v b q. f v b (h.ok v b q) }

pub along : {A : Type 0} {S : A → Tokens → Type 0} {o p : Outcome A} → o ≡ p → Holds S p → Holds S o
along e h = record { ok = λ v b q. h.ok v b (sym e ∙ q) }

-- spelled, and of no more levels than the number
pub record Low {X : Type 0} (lim : ℕ) (S : X → ℕ → Tokens → Tokens → Type 0) (a : Tokens) (v : Read X) (b : Tokens) : Type 0 where
  pub low : v.1 ≤ lim
  pub is : S v.0 v.1 a b

pub fit : {B : Type 0} {R : B → Tokens → Type 0} (inner : Inner) (h : ℕ) (i : Tokens) (f : Unit {0} → Parser B) → (h ≤ inner.room → Holds R (f tt i)) → Holds R (and_then (fits inner h i) f)
unfolding and_then fits
fit {B = B} {R = R} inner h i f k = go (nat_le h inner.room) refl
  where
    go : (c : Bool) → nat_le h inner.room ≡ c → Holds R (and_then (if nat_le h inner.room then Ok (tt, i) else Err TooNested) f)
    go true e = along (ap (λ c. and_then (if c then Ok (tt, i) else Err TooNested) f) e) (k (grind (arith, nat_tests)))
    go false e = along (ap (λ c. and_then (if c then Ok (tt, i) else Err TooNested) f) e) (fails TooNested)

-- ---- single tokens

-- a token that passes the test, and what stands behind it
pub data Taken (test : Kind → Bool) : Tokens → Tokens → Type 0 where
  taken : {t : Token} {b : Tokens} → test (kind_of t.kind) ≡ true → Taken test (t ∷ b) b

pub taken_if : (test : Kind → Bool) (a : Tokens) → test kind.End ≡ false → test (next a) ≡ true → Taken test a (behind a)
unfolding next behind
taken_if test [] f e = Prim.absurd (cc)
taken_if test (t ∷ ts) f e = taken e

pub sound-expect : (test : Kind → Bool) (a : Tokens) → test kind.End ≡ false → Holds (λ _ b. Taken test a b) (expect test a)
unfolding expect
sound-expect test a f = branch (test (next a)) (λ e. done _ _ (taken_if test a f e)) (λ _. fails NoTree)

-- ---- lists

pub data Star {X : Type 0} (S : X → ℕ → Tokens → Tokens → Type 0) : List X → ℕ → Tokens → Tokens → Type 0 where
  star-none : {b : Tokens} → Star S [] 0 b b
  star-more : {x : X} {xs : List X} {h i : ℕ} {a m b : Tokens} → S x h a m → Star S xs i m b → Star S (x ∷ xs) (max h i) a b

-- what a loop reads: members behind those found, of the levels i
pub record Listed {X : Type 0} (lim : ℕ) (S : X → ℕ → Tokens → Tokens → Type 0) (f : ℕ) (found : List X) (a : Tokens) (v : Read (List X)) (b : Tokens) : Type 0 where
  pub low : v.1 ≤ lim
  pub xs : List X
  pub i : ℕ
  pub is : Star S xs i a b
  pub list : v.0 ≡ found ++ xs
  pub high : v.1 ≡ max f i

pub sound-many : {X : Type 0} {S : X → ℕ → Tokens → Tokens → Type 0} {lim : ℕ} {go : Tokens → Bool} {item : Parser (Read X)}
    → ((a : Tokens) → go a ≡ true → Holds (Low lim S a) (item a)) → (n f : ℕ) (found : List X) (a : Tokens) → f ≤ lim
    → Holds (Listed lim S f found a) (many_from go item n found f a)
unfolding many_from
sound-many s zero f found a l = done _ _ (record { low = l; xs = []; i = 0; is = star-none; list = sym (append-nil found); high = omega arith })
sound-many {X = X} {S = S} {lim = lim} {go = go} {item = item} s (suc n) f found a l = branch (go a)
    (λ g. bind _ _ (s a g) (λ x m d. map (λ v b z. record { low = z.low; xs = x.0 ∷ z.xs; i = max x.1 z.i; is = star-more d.is z.is; list = z.list ∙ append_assoc found (x.0 ∷ []) z.xs; high = omega (arith, z.high) })
    (sound-many s n (max f x.1) (found ++ x.0 ∷ []) m (omega (arith, d.low)))))
    (λ g. done _ _ (record { low = l; xs = []; i = 0; is = star-none; list = sym (append-nil found); high = omega arith }))

-- the same of a loop that finds a member at least
pub record ListedSome {X : Type 0} (lim : ℕ) (S : X → ℕ → Tokens → Tokens → Type 0) (f : ℕ) (a : Tokens) (v : Read (List X)) (b : Tokens) : Type 0 where
  pub low : v.1 ≤ lim
  pub x : X
  pub xs : List X
  pub i : ℕ
  pub is : Star S (x ∷ xs) i a b
  pub list : v.0 ≡ x ∷ xs
  pub high : v.1 ≡ max f i

pub sound-some : {X : Type 0} {S : X → ℕ → Tokens → Tokens → Type 0} {lim : ℕ} {go : Tokens → Bool} {item : Parser (Read X)}
    → ((a : Tokens) → go a ≡ true → Holds (Low lim S a) (item a)) → go [] ≡ false → (f : ℕ) (a : Tokens) → f ≤ lim → go a ≡ true
    → Holds (ListedSome lim S f a) (many_from go item (length a) [] f a)
unfolding many_from
sound-some s z f [] l g = Prim.absurd (cc)
sound-some {go = go} s z f (t ∷ ts) l g = branch (go (t ∷ ts))
    (λ g. bind _ _ (s (t ∷ ts) g) (λ x m d. map (λ v b z. record { low = z.low; x = x.0; xs = z.xs; i = max x.1 z.i; is = star-more d.is z.is; list = z.list; high = omega (arith, z.high) })
    (sound-many s (length ts) (max f x.1) (x.0 ∷ []) m (omega (arith, d.low)))))
    (λ n. Prim.absurd (cc))

-- members with commas between, up to an end
pub data RowOf {X : Type 0} (c : Bracket) (S : X → ℕ → Tokens → Tokens → Type 0) : List X → ℕ → Tokens → Tokens → Type 0 where
  row_of-none : {b : Tokens} → RowOf c S [] 0 b b
  row_of-last : {x : X} {h : ℕ} {a b : Tokens} → S x h a b → closes c (next b) ≡ true → RowOf c S (x ∷ []) h a b
  row_of-more : {x : X} {xs : List X} {h i : ℕ} {a m n b : Tokens} → S x h a m → Taken is_comma m n → RowOf c S xs i n b → RowOf c S (x ∷ xs) (max h i) a b

pub record Rowed {X : Type 0} (lim : ℕ) (c : Bracket) (S : X → ℕ → Tokens → Tokens → Type 0) (f : ℕ) (found : List X) (a : Tokens) (v : Read (List X)) (b : Tokens) : Type 0 where
  pub low : v.1 ≤ lim
  pub xs : List X
  pub i : ℕ
  pub is : RowOf c S xs i a b
  pub list : v.0 ≡ found ++ xs
  pub high : v.1 ≡ max f i

pub sound-row : {X : Type 0} {S : X → ℕ → Tokens → Tokens → Type 0} {lim : ℕ} {c : Bracket} (ends : Kind → Bool) {item : Parser (Read X)}
    → ((a : Tokens) → Holds (Low lim S a) (item a)) → (n f : ℕ) (found : List X) (a : Tokens) → f ≤ lim
    → Holds (Rowed lim c S f found a) (row_from c ends item n found f a)
unfolding row_from
sound-row ends s zero f found a l = fails NoTree
sound-row {c = c} ends s (suc n) f found a l = branch (ends (next a))
    (λ g. done _ _ (record { low = l; xs = []; i = 0; is = row_of-none; list = sym (append-nil found); high = omega arith }))
    (λ g. bind _ _ (s a) (λ x m d. branch (is_comma (next m))
    (λ y. map (λ v b z. record { low = z.low; xs = x.0 ∷ z.xs; i = max x.1 z.i; is = row_of-more d.is (taken_if is_comma m refl y) z.is; list = z.list ∙ append_assoc found (x.0 ∷ []) z.xs; high = omega (arith, z.high) })
    (sound-row ends s n (max f x.1) (found ++ x.0 ∷ []) (behind m) (omega (arith, d.low))))
    (λ _. branch (closes c (next m))
    (λ e. done _ _ (record { low = omega (arith, d.low); xs = x.0 ∷ []; i = x.1; is = row_of-last d.is e; list = refl; high = refl }))
    (λ _. fails NoTree))))

-- a row that is read from its first member on
pub record LowRow {X : Type 0} (lim : ℕ) (c : Bracket) (S : X → ℕ → Tokens → Tokens → Type 0) (a : Tokens) (v : Read (List X)) (b : Tokens) : Type 0 where
  pub low : v.1 ≤ lim
  pub is : RowOf c S v.0 v.1 a b

pub sound-rows : {X : Type 0} {S : X → ℕ → Tokens → Tokens → Type 0} {lim : ℕ} {c : Bracket} (ends : Kind → Bool) {item : Parser (Read X)}
    → ((a : Tokens) → Holds (Low lim S a) (item a)) → (a : Tokens) → Holds (LowRow lim c S a) (row_from c ends item (count a) [] 0 a)
sound-rows {S = S} {c = c} ends s a = map (λ v b z. record { low = z.low; is = subst (λ h. RowOf c S v.0 h a b) (let e = z.high in omega arith) (subst (λ l. RowOf c S l z.i a b) (sym z.list) z.is) }) (sound-row ends s (count a) 0 [] a (omega arith))
