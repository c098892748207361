-- Digits: they are the decimal of the number that they count up to.
use Rattle.std.proofs.Common.{◌≡◌, ℕ, ◌+◌, ◌-◌, ◌*◌, ◌/◌, ◌%◌, ◌^◌, ◌<◌, ◌≤◌, Bool, true, false, [], ◌∷◌, ◌++◌, List, length, Option, Some, None, refl, sym, ap, ◌∙◌, subst, arith}
use Rattle.std.specs.Prelude.{if◌then◌else◌, nat_le}
use Rattle.std.specs.Fmt.{decimal}
use Rattle.std.proofs.lemmas.Fmt.{decimal_step, decimal_by_steps}
use Rattle.std.proofs.lemmas.Bool.Decides.{nat_tests}
use Rattle.actx_lex.specs.Units.{Text, is_digit, begins_digit}
use Rattle.actx_lex.specs.Readers.{digit_at, Digits, last, digit}
use Rattle.actx_lex.proofs.Basics.{Short, short, one_some, none_some, append-assoc, both}

digit-short : (a : Text) → Short a (digit_at a)
unfolding digit_at
digit-short [] = tt
digit-short (c ∷ a) = by (is_digit c)
  where
    by : (t : Bool) → Short (c ∷ a) (if t then Some (c - 48, a) else None)
    by true = omega arith
    by false = tt

pub shorter : (a m : Text) {d : ℕ} → digit_at a ≡ Some (d, m) → length m < length a
shorter a m e = short a m _ (digit-short a) e

-- the text is this digit and then m
pub record Digit (d : ℕ) (a m : Text) : Type 0 where
  pub parts : a ≡ (48 + d) ∷ m
  pub low : d < 10

pub digit-read : (a m : Text) (d : ℕ) → digit_at a ≡ Some (d, m) → Digit d a m
unfolding digit_at
digit-read [] m d e = none_some refl e
digit-read (c ∷ a) m d e = by (is_digit c) refl e
  where
    by : (t : Bool) → is_digit c ≡ t → (if◌then◌else◌ {A = Option (ℕ × Text)} t (Some (c - 48, a)) None) ≡ Some (d, m) → Digit d (c ∷ a) m
    by true h e =
        let g = both (nat_le 48 c) (nat_le c 57) h in
        let l : 48 ≤ c = let k = g.0 in grind (arith, nat_tests) in
        let r : c ≤ 57 = let k = g.1 in grind (arith, nat_tests) in
        let one = one_some refl e in
        let x : c - 48 ≡ d = ap (λ (r : ℕ × Text). r.0) one in
        let n : c ≡ 48 + d = omega arith in
        record { parts = ap (λ y. y ∷ a) n ∙ ap (λ y. (48 + d) ∷ y) (ap (λ (r : ℕ × Text). r.1) one); low = omega arith }
    by false h e = none_some refl e

pub digit-told : (d : ℕ) (m : Text) → d < 10 → digit_at ((48 + d) ∷ m) ≡ Some (d, m)
unfolding digit_at
digit-told d m l =
    let t : is_digit (48 + d) ≡ true = grind (arith, nat_tests) in
    let n : 48 + d - 48 ≡ d = omega arith in
    rw t (ap (λ x. Some (x, m)) n)

pub starts : (a m : Text) {d : ℕ} → digit_at a ≡ Some (d, m) → begins_digit a ≡ true
unfolding digit_at
starts [] m e = none_some refl e
starts (c ∷ a) m {d} e = by (is_digit c) e
  where
    by : (t : Bool) → (if◌then◌else◌ {A = Option (ℕ × Text)} t (Some (c - 48, a)) None) ≡ Some (d, m) → t ≡ true
    by true e = refl
    by false e = none_some refl e

pub grows : {v n : ℕ} {a b : Text} → Digits v n a b → v ≤ n
grows last = omega arith
grows (digit q d) = let h = grows d in omega arith

pub digits-short : {v n : ℕ} {a b : Text} → Digits v n a b → length b ≤ length a
digits-short last = omega arith
digits-short (digit {a = a} {m = m} q d) = let h = digits-short d in let s = shorter a m q in omega arith

-- one more digit at the end
pub digits-snoc : {v n : ℕ} {a b c : Text} (d : ℕ) → Digits v n a b → digit_at b ≡ Some (d, c) → Digits v (n * 10 + d) a c
digits-snoc d last h = digit h last
digits-snoc d (digit q r) h = digit q (digits-snoc d r h)

-- ---- from digits to the decimal

one_more : (v d : ℕ) → 0 < v → d < 10 → v * 10 + d < 2 ^ 64 → decimal (v * 10 + d) ≡ decimal v ++ ((48 + d) ∷ [])
one_more v d p l s =
    let q : (v * 10 + d) / 10 ≡ v = omega arith in
    let r : (v * 10 + d) % 10 ≡ d = omega arith in
    decimal_step (v * 10 + d) (omega arith) s ∙ ap (λ x. decimal x ++ ((48 + (v * 10 + d) % 10) ∷ [])) q ∙ ap (λ x. decimal v ++ ((48 + x) ∷ [])) r

pub digits-decimal : {v n : ℕ} {a b : Text} → 0 < v → n < 2 ^ 64 → Digits v n a b → decimal v ++ a ≡ decimal n ++ b
digits-decimal p s last = refl
digits-decimal {v = v} {b = b} p s (digit {n = n} {d = d} {a = a} {m = m} q r) =
    let f = digit-read a m d q in
    let l = f.low in
    let g = grows r in
    ap (λ x. decimal v ++ x) f.parts ∙ append-assoc (decimal v) ((48 + d) ∷ []) m ∙ ap (λ x. x ++ m) (sym (one_more v d p l (omega arith)))
    ∙ digits-decimal (omega arith) s r

-- ---- from the decimal to digits

-- the text begins with a digit that is not 0, and its digits up to b count up to n
pub record Counted (n : ℕ) (a b : Text) : Type 0 where
  pub first : ℕ
  pub left : Text
  pub read : digit_at a ≡ Some (first, left)
  pub filled : 0 < first
  pub on : Digits first n left b

pub decimal-counted : (n : ℕ) → n < 2 ^ 64 → 0 < n → (b : Text) → Counted n (decimal n ++ b) b
decimal-counted = decimal_by_steps (λ n ds. 0 < n → (b : Text) → Counted n (ds ++ b) b) one more
  where
    one : (n : ℕ) → n < 10 → 0 < n → (b : Text) → Counted n ((48 + n) ∷ b) b
    one n l p b = record { first = n; left = b; read = digit-told n b l; filled = p; on = last }

    more : (n : ℕ) (ds : List ℕ) → 10 ≤ n → (0 < n / 10 → (b : Text) → Counted (n / 10) (ds ++ b) b) → 0 < n → (b : Text) → Counted n ((ds ++ ((48 + n % 10) ∷ [])) ++ b) b
    more n ds l deep p b =
        let k = deep (omega arith) ((48 + n % 10) ∷ b) in
        let e : n / 10 * 10 + n % 10 ≡ n = omega arith in
        let d = digits-snoc (n % 10) k.on (digit-told (n % 10) b (omega arith)) in
        subst (λ x. Counted n x b) (append-assoc ds ((48 + n % 10) ∷ []) b)
        (record { first = k.first; left = k.left; read = k.read; filled = k.filled; on = subst (λ x. Digits k.first x k.left b) e d })
