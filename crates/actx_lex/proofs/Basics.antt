-- Options, tests, and texts that grow shorter.
use Rattle.std.proofs.Common.{◌≡◌, ◌≢◌, ℕ, ◌<◌, ◌≤◌, ◌⊎◌, inl, inr, Bool, true, false, not, ◌&&◌, ◌||◌, ◌==◌, List, [], ◌∷◌, ◌++◌, length, Option, Some, None, refl, sym, ap, ◌∙◌, subst, arith}
use Rattle.std.specs.Prelude.{if◌then◌else◌}
use Rattle.std.proofs.lemmas.Bool.Decides.{Decides-eqb, eqb_tells}
use Rattle.actx_lex.specs.Units.{Text, begins, rest, past_line_end}

-- ---- options

abbrev value : {A : Type 0} → A → Option A → A
value d None = d
value d (Some a) = a

pub one_some : {A : Type 0} {x y : A} {o : Option A} → o ≡ Some x → o ≡ Some y → x ≡ y
one_some {x = x} p q = ap (value x) (sym p ∙ q)

pub none_some : {A P : Type 0} {x : A} {o : Option A} → o ≡ None → o ≡ Some x → P
none_some p q = Prim.absurd (cc)

-- ---- tests

pub equal : (c d : ℕ) → (c == d) ≡ true → c ≡ d
equal c d e = (Decides-eqb c d).0 e

pub same_unit : (c : ℕ) → (c == c) ≡ true
same_unit c = (Decides-eqb c c).1 refl

pub not_equal : (c n : ℕ) → c ≢ n → (c == n) ≡ false
not_equal c n h = by (eqb_tells c n)
  where
    by : ((c == n) ≡ true) × (c ≡ n) ⊎ ((c == n) ≡ false) × (c ≡ n → ⊥) → (c == n) ≡ false
    by (inl g) = Prim.absurd (h g.1)
    by (inr g) = g.0

pub true_false : {P : Type 0} {b : Bool} → b ≡ true → b ≡ false → P
true_false p q = Prim.absurd (cc)

pub both : (t u : Bool) → (t && u) ≡ true → (t ≡ true) × (u ≡ true)
both true u e = (refl, e)
both false u e = Prim.absurd (cc)

pub neither : (t u : Bool) → (t || u) ≡ false → (t ≡ false) × (u ≡ false)
neither true u e = Prim.absurd (cc)
neither false u e = (refl, e)

pub not_either : (t u : Bool) → not (t || u) ≡ true → (not t ≡ true) × (u ≡ false)
not_either true u e = Prim.absurd (cc)
not_either false true e = Prim.absurd (cc)
not_either false false e = (refl, refl)

pub not_true : (t : Bool) → not t ≡ true → t ≡ false
not_true true e = Prim.absurd (cc)
not_true false e = refl

pub or-assoc : (x y z : Bool) → x || (y || z) ≡ (x || y) || z
or-assoc true y z = refl
or-assoc false y z = refl

pub or-false : (x : Bool) → x || false ≡ x
or-false true = refl
or-false false = refl

pub or-same : {t u x y : Bool} → t ≡ x → u ≡ y → (t || u) ≡ (x || y)
or-same p q = cc

-- ---- lists

pub append-assoc : {A : Type 0} (a b c : List A) → a ++ (b ++ c) ≡ (a ++ b) ++ c
append-assoc [] b c = refl
append-assoc (x ∷ a) b c = ap (λ y. x ∷ y) (append-assoc a b c)

pub append-nil : {A : Type 0} (a : List A) → a ++ [] ≡ a
append-nil [] = refl
append-nil (x ∷ a) = ap (λ y. x ∷ y) (append-nil a)

pub begins-rest : (u : ℕ) (a : Text) → begins u a ≡ true → a ≡ u ∷ rest a
begins-rest u [] e = Prim.absurd (cc)
begins-rest u (c ∷ a) e = ap (λ x. x ∷ a) (equal c u e)

pub begins-cons : (u : ℕ) (a b : Text) → a ≡ u ∷ b → begins u a ≡ true
begins-cons u a b e = ap (begins u) e ∙ same_unit u

-- ---- what a reader of one thing leaves is shorter

pub rest-short : (a : Text) → length (rest a) ≤ length a
rest-short [] = omega arith
rest-short (c ∷ a) = omega arith

pub past_line_end-short : (c : ℕ) (a : Text) → length (past_line_end c a) ≤ length a
past_line_end-short c a = let r = rest-short a in by r ((c == 13) && begins 10 a)
  where
    by : length (rest a) ≤ length a → (t : Bool) → length (if t then rest a else a) ≤ length a
    by r true = r
    by r false = omega arith

abbrev pub Short : {A : Type 0} → Text → Option (A × Text) → Type 0
Short a None = Unit {0}
Short a (Some r) = length r.1 < length a

pub short : {A : Type 0} (a m : Text) {i : A} (o : Option (A × Text)) → Short a o → o ≡ Some (i, m) → length m < length a
short a m None s e = Prim.absurd (cc)
short a m (Some r) s e = subst (λ (r : _ × Text). length r.1 < length a) (ap (value r) e) s

pub weaken : {A : Type 0} (c : ℕ) (a : Text) (o : Option (A × Text)) → Short a o → Short (c ∷ a) o
weaken c a None s = tt
weaken c a (Some r) s = omega arith

pub if_short : {A : Type 0} (a : Text) (t : Bool) (o p : Option (A × Text)) → Short a o → Short a p → Short a (if t then o else p)
if_short a true o p h g = h
if_short a false o p h g = g

pub empty : (m : Text) → length m ≡ 0 → m ≡ []
empty [] e = refl
empty (c ∷ m) e = Prim.absurd (omega arith)
