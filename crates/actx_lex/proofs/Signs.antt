-- Signs: the first of the table that fits is the longest that fits.
use Rattle.std.proofs.Common.{◌≡◌, ◌≢◌, ℕ, ◌-◌, ◌<◌, ◌≤◌, ◌⊎◌, inl, inr, Bool, true, false, ◌&&◌, ◌==◌, List, [], ◌∷◌, ◌++◌, length, take, Option, Some, None, refl, sym, ap, ◌∙◌, subst, arith, length-append}
use Rattle.std.specs.Prelude.{if◌then◌else◌, nat_le, filter, cond}
use Rattle.std.proofs.lemmas.Bool.Decides.{nat_tests, leb_tells}
use Rattle.actx_lex.specs.declared.token.Punct.{Punct}
use Rattle.actx_lex.specs.declared.token.Punct.TheVariants as p
use Rattle.actx_lex.specs.Units.{Text, begins}
use Rattle.actx_lex.specs.Words.{same_units}
use Rattle.actx_lex.specs.Signs.{spelling, may_stand, Sign, sign}
use Rattle.actx_lex.specs.Readers.{strip, allowed, sign_end, or_else, first_sign, signs, signs_from, sign_at}
use Rattle.actx_lex.specs.Scans.{Found}
use Rattle.actx_lex.proofs.Basics.{one_some, none_some, equal, same_unit, both, not_equal, true_false}
use Rattle.actx_lex.proofs.Words.{front}

strip-append : (us b : Text) → strip us (us ++ b) ≡ Some b
unfolding strip
strip-append [] b = refl
strip-append (u ∷ us) b = rw (same_unit u) (strip-append us b)

strip-parts : (us a b : Text) → strip us a ≡ Some b → a ≡ us ++ b
unfolding strip
strip-parts [] a b e = one_some refl e
strip-parts (u ∷ us) [] b e = none_some refl e
strip-parts (u ∷ us) (c ∷ a) b e = let h = strip-parts us a b in by h (c == u) refl e
  where
    by : (strip us a ≡ Some b → a ≡ us ++ b) → (t : Bool) → (c == u) ≡ t → (if◌then◌else◌ {A = Option Text} t (strip us a) None) ≡ Some b → c ∷ a ≡ u ∷ (us ++ b)
    by h true t e = ap (λ x. x ∷ a) (equal c u t) ∙ ap (λ x. u ∷ x) (h e)
    by h false t e = none_some refl e

fits : (i : Bool) (s : Punct) (a b : Text) → a ≡ spelling s ++ b → may_stand i s b ≡ true → sign_end i s a ≡ Some b
fits i s a b e m = ap (λ x. sign_end i s x) e ∙ ap (allowed i s) (strip-append (spelling s) b) ∙ ap (λ t. if◌then◌else◌ {A = Option Text} t (Some b) None) m

parts : (i : Bool) (s : Punct) (a b : Text) → sign_end i s a ≡ Some b → Sign i s a b
parts i s a b e = by (strip (spelling s) a) refl e
  where
    last : (c : Text) → strip (spelling s) a ≡ Some c → (t : Bool) → may_stand i s c ≡ t → (if◌then◌else◌ {A = Option Text} t (Some c) None) ≡ Some b → Sign i s a b
    last c p true m e = subst (λ x. Sign i s a x) (one_some refl e) (sign (strip-parts (spelling s) a c p) m)
    last c p false m e = none_some refl e

    by : (o : Option Text) → strip (spelling s) a ≡ o → allowed i s o ≡ Some b → Sign i s a b
    by None p e = none_some refl e
    by (Some c) p e = last c p (may_stand i s c) refl e

same_units-refl : (a : Text) → same_units a a ≡ true
unfolding same_units
same_units-refl [] = refl
same_units-refl (c ∷ a) = rw (same_unit c) (same_units-refl a)

-- the first sign of the table that is spelled so
named : Text → List Punct → Option Punct
named us [] = None
named us (s ∷ ss) = if same_units us (spelling s) then Some s else named us ss

all_short : Punct → List Punct → Bool
all_short t [] = true
all_short t (s ∷ ss) = nat_le (length (spelling s)) (length (spelling t)) && all_short t ss

sorted : List Punct → Bool
sorted [] = true
sorted (s ∷ ss) = all_short s ss && sorted ss

signs-sorted : sorted signs ≡ true
unfolding sorted all_short
signs-sorted = refl

sign-named : (s : Punct) → named (spelling s) signs ≡ Some s
unfolding named same_units
sign-named p.OpenBrace = refl
sign-named p.CloseBrace = refl
sign-named p.OpenParenthesis = refl
sign-named p.CloseParenthesis = refl
sign-named p.OpenBracket = refl
sign-named p.CloseBracket = refl
sign-named p.Dot = refl
sign-named p.Ellipsis = refl
sign-named p.Semicolon = refl
sign-named p.Comma = refl
sign-named p.Less = refl
sign-named p.Greater = refl
sign-named p.LessOrEqual = refl
sign-named p.GreaterOrEqual = refl
sign-named p.Equal = refl
sign-named p.NotEqual = refl
sign-named p.StrictEqual = refl
sign-named p.StrictNotEqual = refl
sign-named p.Plus = refl
sign-named p.Minus = refl
sign-named p.Star = refl
sign-named p.Slash = refl
sign-named p.Percent = refl
sign-named p.PlusPlus = refl
sign-named p.MinusMinus = refl
sign-named p.Not = refl
sign-named p.And = refl
sign-named p.Or = refl
sign-named p.Coalesce = refl
sign-named p.Question = refl
sign-named p.OptionalDot = refl
sign-named p.Colon = refl
sign-named p.Assign = refl
sign-named p.PlusAssign = refl
sign-named p.MinusAssign = refl
sign-named p.StarAssign = refl
sign-named p.SlashAssign = refl
sign-named p.PercentAssign = refl
sign-named p.AndAssign = refl
sign-named p.OrAssign = refl
sign-named p.CoalesceAssign = refl
sign-named p.Arrow = refl

named-short : (s t : Punct) (us : Text) (ss : List Punct) → all_short t ss ≡ true → named us ss ≡ Some s → length (spelling s) ≤ length (spelling t)
unfolding named all_short
named-short s t us [] h e = none_some refl e
named-short s t us (r ∷ rs) h e =
    let g = both (nat_le (length (spelling r)) (length (spelling t))) (all_short t rs) h in
    let l : length (spelling r) ≤ length (spelling t) = let k = g.0 in grind (arith, nat_tests) in
    let deep = named-short s t us rs g.1 in
    by l deep (same_units us (spelling r)) e
  where
    by : length (spelling r) ≤ length (spelling t) → (named us rs ≡ Some s → length (spelling s) ≤ length (spelling t)) → (b : Bool)
        → (if◌then◌else◌ {A = Option Punct} b (Some r) (named us rs)) ≡ Some s → length (spelling s) ≤ length (spelling t)
    by l deep true e = subst (λ x. length (spelling x) ≤ length (spelling t)) (one_some refl e) l
    by l deep false e = deep e

abbrev Best : Option (Punct × Text) → Punct → Text → Type 0
Best None s b = ⊥
Best (Some r) s b = (length r.1 < length b) ⊎ ((s ≡ r.0) × (b ≡ r.1))

-- of two that fit the longer one leaves less, and two of one length are spelled alike
compare : (a e b : Text) (s t : Punct) → a ≡ spelling s ++ b → a ≡ spelling t ++ e → length (spelling s) ≤ length (spelling t) → same_units (spelling s) (spelling t) ≡ false
    → length e < length b
compare a e b s t p q l n =
    let x = ap length p in let y = ap length q in let z = length-append (spelling s) b in let w = length-append (spelling t) e in
    by (order (length e) (length b)) (omega arith)
  where
    order : (m n : ℕ) → (m < n) ⊎ (n ≤ m)
    order m n = by (leb_tells n m)
      where
        by : ((nat_le n m ≡ true) × (n ≤ m)) ⊎ ((nat_le n m ≡ false) × (m < n)) → (m < n) ⊎ (n ≤ m)
        by (inl h) = inr h.1
        by (inr h) = inl h.1

    by : (length e < length b) ⊎ (length b ≤ length e) → length e ≤ length b → length e < length b
    by (inl h) g = h
    by (inr h) g =
        let k : length b ≡ length e = omega arith in
        let f : spelling s ≡ spelling t = front a (spelling s) b p ∙ ap (λ x. take (length a - x) a) k ∙ sym (front a (spelling t) e q) in
        let u : same_units (spelling s) (spelling t) ≡ true = ap (same_units (spelling s)) (sym f) ∙ same_units-refl (spelling s) in
        Prim.absurd (cc)

first_best : (i : Bool) (s : Punct) (a b : Text) (ss : List Punct) → sorted ss ≡ true → named (spelling s) ss ≡ Some s → Sign i s a b → Best (first_sign ss i a) s b
unfolding first_sign named sorted
first_best i s a b [] h e d = none_some refl e
first_best i s a b (t ∷ ts) h e (sign p m) =
    let g = both (all_short t ts) (sorted ts) h in
    let deep = λ (f : named (spelling s) ts ≡ Some s). first_best i s a b ts g.1 f (sign p m) in
    by deep g.0 p m (same_units (spelling s) (spelling t)) refl e (sign_end i t a) refl
  where
    by : (named (spelling s) ts ≡ Some s → Best (first_sign ts i a) s b) → all_short t ts ≡ true → a ≡ spelling s ++ b → may_stand i s b ≡ true
        → (x : Bool) → same_units (spelling s) (spelling t) ≡ x → (if◌then◌else◌ {A = Option Punct} x (Some t) (named (spelling s) ts)) ≡ Some s
        → (o : Option Text) → sign_end i t a ≡ o → Best (or_else t o (first_sign ts i a)) s b
    by deep g p m true x e None q =
        let same = one_some refl e in none_some (ap (λ y. sign_end i y a) (sym same) ∙ q) (fits i s a b p m)
    by deep g p m true x e (Some c) q =
        let same = one_some refl e in inr (sym same, one_some (fits i s a b p m) (ap (λ y. sign_end i y a) (sym same) ∙ q))
    by deep g p m false x e None q = deep e
    by deep g p m false x e (Some c) q = inl (by2 (parts i t a c q))
      where
        by2 : Sign i t a c → length c < length b
        by2 (sign r n) = compare a c b s t p r (named-short s t (spelling s) ts g e) x

first_fits : (i : Bool) (a e : Text) (t : Punct) (ss : List Punct) → first_sign ss i a ≡ Some (t, e) → Sign i t a e
unfolding first_sign
first_fits i a e t [] h = none_some refl h
first_fits i a e t (s ∷ ss) h = let deep = first_fits i a e t ss in by deep (sign_end i s a) refl h
  where
    by : (first_sign ss i a ≡ Some (t, e) → Sign i t a e) → (o : Option Text) → sign_end i s a ≡ o → or_else s o (first_sign ss i a) ≡ Some (t, e) → Sign i t a e
    by deep None q h = deep h
    by deep (Some b) q h = subst (λ (x : Punct × Text). Sign i x.0 a x.1) (one_some refl h) (parts i s a b q)

pub sign-found : (i : Bool) (a e : Text) (t : Punct) → first_sign signs i a ≡ Some (t, e) → Found (Sign i) a t e
sign-found i a e t h = record {
  here = first_fits i a e t signs h;
  best = λ s b d. subst (λ o. Best o s b) h (first_best i s a b signs signs-sorted (sign-named s) d);
}

pub sign-none : (i : Bool) (a : Text) → first_sign signs i a ≡ None → (s : Punct) (b : Text) → Sign i s a b → ⊥
sign-none i a h s b d = subst (λ o. Best o s b) h (first_best i s a b signs signs-sorted (sign-named s) d)

-- a sign that no longer one fits with is the one that is found
pub sign-longest : (i : Bool) (a b : Text) (s : Punct) → Sign i s a b → ((t : Punct) (e : Text) → Sign i t a e → length b ≤ length e) → Found (Sign i) a s b
sign-longest i a b s d l = by (first_sign signs i a) refl (first_best i s a b signs signs-sorted (sign-named s) d)
  where
    by : (o : Option (Punct × Text)) → first_sign signs i a ≡ o → Best o s b → Found (Sign i) a s b
    by None e h = elim h [ ]
    by (Some r) e (inl h) = let g = l r.0 r.1 (first_fits i a r.1 r.0 signs e) in Prim.absurd (omega arith)
    by (Some r) e (inr h) = subst (λ (x : Punct × Text). Found (Sign i) a x.0 x.1) (sym (ap (λ x. (x, b)) h.0 ∙ ap (λ x. (r.0, x)) h.1)) (sign-found i a r.1 r.0 e)

-- ---- only the signs that begin with the first unit are looked at

pub filled : (s : Punct) → 0 < length (spelling s)
filled p.OpenBrace = omega arith
filled p.CloseBrace = omega arith
filled p.OpenParenthesis = omega arith
filled p.CloseParenthesis = omega arith
filled p.OpenBracket = omega arith
filled p.CloseBracket = omega arith
filled p.Dot = omega arith
filled p.Ellipsis = omega arith
filled p.Semicolon = omega arith
filled p.Comma = omega arith
filled p.Less = omega arith
filled p.Greater = omega arith
filled p.LessOrEqual = omega arith
filled p.GreaterOrEqual = omega arith
filled p.Equal = omega arith
filled p.NotEqual = omega arith
filled p.StrictEqual = omega arith
filled p.StrictNotEqual = omega arith
filled p.Plus = omega arith
filled p.Minus = omega arith
filled p.Star = omega arith
filled p.Slash = omega arith
filled p.Percent = omega arith
filled p.PlusPlus = omega arith
filled p.MinusMinus = omega arith
filled p.Not = omega arith
filled p.And = omega arith
filled p.Or = omega arith
filled p.Coalesce = omega arith
filled p.Question = omega arith
filled p.OptionalDot = omega arith
filled p.Colon = omega arith
filled p.Assign = omega arith
filled p.PlusAssign = omega arith
filled p.MinusAssign = omega arith
filled p.StarAssign = omega arith
filled p.SlashAssign = omega arith
filled p.PercentAssign = omega arith
filled p.AndAssign = omega arith
filled p.OrAssign = omega arith
filled p.CoalesceAssign = omega arith
filled p.Arrow = omega arith

no_strip : (c : ℕ) (a us : Text) → 0 < length us → begins c us ≡ false → strip us (c ∷ a) ≡ None
unfolding strip
no_strip c a [] l h = Prim.absurd (omega arith)
no_strip c a (u ∷ us) l h = by (c == u) refl
  where
    by : (t : Bool) → (c == u) ≡ t → (if◌then◌else◌ {A = Option Text} t (strip us a) None) ≡ None
    by true p = let e : (u == c) ≡ true = ap (λ x. x == c) (sym (equal c u p)) ∙ same_unit c in true_false e h
    by false p = refl

from_first : (i : Bool) (c : ℕ) (a : Text) (ss : List Punct) → first_sign (filter (λ s. begins c (spelling s)) ss) i (c ∷ a) ≡ first_sign ss i (c ∷ a)
unfolding first_sign
from_first i c a [] = refl
from_first i c a (s ∷ ss) = let deep = from_first i c a ss in by deep (begins c (spelling s)) refl
  where
    by : first_sign (filter (λ s. begins c (spelling s)) ss) i (c ∷ a) ≡ first_sign ss i (c ∷ a) → (t : Bool) → begins c (spelling s) ≡ t
        → first_sign (cond t (s ∷ filter (λ s. begins c (spelling s)) ss) (filter (λ s. begins c (spelling s)) ss)) i (c ∷ a)
        ≡ or_else s (sign_end i s (c ∷ a)) (first_sign ss i (c ∷ a))
    by deep true h = ap (or_else s (sign_end i s (c ∷ a))) deep
    by deep false h = deep ∙ sym (ap (λ o. or_else s (allowed i s o) (first_sign ss i (c ∷ a))) (no_strip c a (spelling s) (filled s) h))

pub sign_at-first : (i : Bool) (a : Text) → sign_at i a ≡ first_sign signs i a
unfolding sign_at signs_from first_sign strip
sign_at-first i [] = refl
sign_at-first i (c ∷ a) = from_first i c a signs

-- the table has no sign that begins with another unit
pub no_signs : (u : ℕ) → u ≢ 33 → u ≢ 37 → u ≢ 38 → u ≢ 40 → u ≢ 41 → u ≢ 42 → u ≢ 43 → u ≢ 44 → u ≢ 45 → u ≢ 46 → u ≢ 47 → u ≢ 58 → u ≢ 59 → u ≢ 60 → u ≢ 61 → u ≢ 62 → u ≢ 63 → u ≢ 91 → u ≢ 93 → u ≢ 123 → u ≢ 124 → u ≢ 125 → signs_from u ≡ []
unfolding signs_from
no_signs u h33 h37 h38 h40 h41 h42 h43 h44 h45 h46 h47 h58 h59 h60 h61 h62 h63 h91 h93 h123 h124 h125 =
    simp (not_equal 33 u (λ e. h33 (sym e)), not_equal 37 u (λ e. h37 (sym e)), not_equal 38 u (λ e. h38 (sym e)), not_equal 40 u (λ e. h40 (sym e)), not_equal 41 u (λ e. h41 (sym e)), not_equal 42 u (λ e. h42 (sym e)), not_equal 43 u (λ e. h43 (sym e)), not_equal 44 u (λ e. h44 (sym e)), not_equal 45 u (λ e. h45 (sym e)), not_equal 46 u (λ e. h46 (sym e)), not_equal 47 u (λ e. h47 (sym e)), not_equal 58 u (λ e. h58 (sym e)), not_equal 59 u (λ e. h59 (sym e)), not_equal 60 u (λ e. h60 (sym e)), not_equal 61 u (λ e. h61 (sym e)), not_equal 62 u (λ e. h62 (sym e)), not_equal 63 u (λ e. h63 (sym e)), not_equal 91 u (λ e. h91 (sym e)), not_equal 93 u (λ e. h93 (sym e)), not_equal 123 u (λ e. h123 (sym e)), not_equal 124 u (λ e. h124 (sym e)), not_equal 125 u (λ e. h125 (sym e))) refl
