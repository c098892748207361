-- Numbers: the digits up to what isn't a digit.
use Rattle.std.proofs.Common.{◌≡◌, ◌≢◌, ℕ, zero, suc, ◌+◌, ◌*◌, ◌<◌, ◌≤◌, ◌⊎◌, inr, Bool, true, false, not, ◌&&◌, ◌++◌, length, Some, None, refl, sym, ap, ◌∙◌, subst, arith}
use Rattle.std.specs.Fmt.{decimal}
use Rattle.std.proofs.lemmas.Fmt.{decimal_digit}
use Rattle.actx_lex.specs.Units.{Text, begins, begins_digit}
use Rattle.actx_lex.specs.Words.{begins_word_part}
use Rattle.actx_lex.specs.Numbers.{max_safe_integer, ends_number, Number, number}
use Rattle.actx_lex.specs.Readers.{digit_at, Digits, last, digit}
use Rattle.actx_lex.specs.Scans.{Found}
use Rattle.actx_lex.proofs.Basics.{one_some, none_some, true_false}
use Rattle.actx_lex.proofs.Digits.{shorter, digit-read, digit-told, starts, grows, digits-short, digits-decimal, decimal-counted}

-- the two forms of a number, as they are read
pub data ReadNumber : ℕ → Text → Text → Type 0 where
  naught : {a b : Text} → digit_at a ≡ Some (0, b) → ends_number b ≡ true → ReadNumber 0 a b
  counted : {n d : ℕ} {a m b : Text} → digit_at a ≡ Some (d, m) → d ≢ 0 → Digits d n m b → n ≤ max_safe_integer → ends_number b ≡ true → ReadNumber n a b

pub number-read : {n : ℕ} {a b : Text} → ReadNumber n a b → Number n a b
number-read (naught {a = a} {b = b} r h) = number ((digit-read a b 0 r).parts ∙ ap (λ x. x ++ b) (sym (decimal_digit 0 (omega arith)))) (omega arith) h
number-read (counted {n = n} {d = d} {a = a} {m = m} {b = b} r z g l h) =
    let f = digit-read a m d r in
    let k = f.low in
    number (f.parts ∙ ap (λ x. x ++ m) (sym (decimal_digit d f.low)) ∙ digits-decimal (omega arith) (omega arith) g) l h

pub number-told : {n : ℕ} {a b : Text} → Number n a b → ReadNumber n a b
number-told (number {n = n} {a = a} {b = b} e l h) = by n e l
  where
    by : (n : ℕ) → a ≡ decimal n ++ b → n ≤ max_safe_integer → ReadNumber n a b
    by zero e l = naught (ap digit_at (e ∙ ap (λ x. x ++ b) (decimal_digit 0 (omega arith))) ∙ digit-told 0 b (omega arith)) h
    by (suc n) e l =
        let c = decimal-counted (suc n) (omega arith) (omega arith) b in
        let f = c.filled in
        counted (ap digit_at e ∙ c.read) (omega arith) c.on l h

middle : (p q r : Bool) → q ≡ true → (not p && not q && not r) ≡ true → ⊥
middle true q r h e = Prim.absurd (cc)
middle false true r h e = Prim.absurd (cc)
middle false false r h e = Prim.absurd (cc)

goes_on : (a m : Text) {d : ℕ} → digit_at a ≡ Some (d, m) → ends_number a ≡ true → ⊥
goes_on a m h e = middle (begins 46 a) (begins_digit a) (begins_word_part a) (starts a m h) e

-- the digits read so far are among those of every spelling
passes : {v n w : ℕ} {a e c : Text} → Digits v n a e → Digits v w a c → ends_number c ≡ true → Digits n w e c
passes last d h = d
passes (digit {a = a} {m = m} q d) last h = Prim.absurd (goes_on a m q h)
passes (digit {v = v} q d) (digit {n = w} {b = c} s g) h =
    let one = one_some s q in
    passes d (subst (λ (r : ℕ × Text). Digits (v * 10 + r.0) w r.1 c) one g) h

same : {n w : ℕ} {e c : Text} → ends_number e ≡ true → Digits n w e c → (w ≡ n) × (c ≡ e)
same h last = (refl, refl)
same h (digit {a = a} {m = m} q d) = Prim.absurd (goes_on a m q h)

pub naught-found : (a b : Text) {d : ℕ} → d ≡ 0 → digit_at a ≡ Some (d, b) → ends_number b ≡ true → Found Number a 0 b
naught-found a b z q h = record { here = number-read (naught (q ∙ ap (λ x. Some (x, b)) z) h); best = λ j c s. best j c (number-told s) }
  where
    best : (j : ℕ) (c : Text) → ReadNumber j a c → (length b < length c) ⊎ ((j ≡ 0) × (c ≡ b))
    best j c (naught p r) = inr (refl, ap (λ (x : ℕ × Text). x.1) (one_some p q))
    best j c (counted p n d l r) = Prim.absurd (n (ap (λ (x : ℕ × Text). x.0) (one_some p q) ∙ z))

pub naught-none : (a b : Text) {d : ℕ} → d ≡ 0 → digit_at a ≡ Some (d, b) → ends_number b ≡ false → (j : ℕ) (c : Text) → Number j a c → ⊥
naught-none a b z q h j c s = by j c (number-told s)
  where
    by : (j : ℕ) (c : Text) → ReadNumber j a c → ⊥
    by j c (naught p r) = true_false (sym (ap (λ (x : ℕ × Text). ends_number x.1) (one_some p q)) ∙ r) h
    by j c (counted p n d l r) = n (ap (λ (x : ℕ × Text). x.0) (one_some p q) ∙ z)

-- the digits after the first of every spelling
rest : {a m : Text} {d : ℕ} → d ≢ 0 → digit_at a ≡ Some (d, m) → (j : ℕ) (c : Text) → ReadNumber j a c → Digits d j m c × (ends_number c ≡ true) × (j ≤ max_safe_integer)
rest z q j c (naught p r) = Prim.absurd (z (ap (λ (x : ℕ × Text). x.0) (one_some q p)))
rest z q j c (counted p n d l r) = (subst (λ (x : ℕ × Text). Digits x.0 j x.1 c) (one_some p q) d, r, l)

pub number-found : (a m e : Text) (n : ℕ) {d : ℕ} → d ≢ 0 → digit_at a ≡ Some (d, m) → Digits d n m e → n ≤ max_safe_integer → ends_number e ≡ true → Found Number a n e
number-found a m e n {d} z q g l h = record { here = number-read (counted q z g l h); best = best }
  where
    best : (j : ℕ) (c : Text) → Number j a c → (length e < length c) ⊎ ((j ≡ n) × (c ≡ e))
    best j c s = let r = rest z q j c (number-told s) in inr (same h (passes g r.0 r.1))

pub number-none : (a m e : Text) (n : ℕ) {d : ℕ} → d ≢ 0 → digit_at a ≡ Some (d, m) → Digits d n m e → digit_at e ≡ None → ends_number e ≡ false
    → (j : ℕ) (c : Text) → Number j a c → ⊥
number-none a m e n z q g o h j c s = let r = rest z q j c (number-told s) in by o h (passes g r.0 r.1) r.1
  where
    by : {e c : Text} {n j : ℕ} → digit_at e ≡ None → ends_number e ≡ false → Digits n j e c → ends_number c ≡ true → ⊥
    by o h last r = true_false r h
    by o h (digit q d) r = none_some o q

pub number-large : (a m e : Text) (n : ℕ) {d : ℕ} → d ≢ 0 → digit_at a ≡ Some (d, m) → Digits d n m e → max_safe_integer < n → (j : ℕ) (c : Text) → Number j a c → ⊥
number-large a m e n z q g l j c s =
    let r = rest z q j c (number-told s) in
    let h = grows (passes g r.0 r.1) in
    let k = r.2 in Prim.absurd (omega arith)

pub number-other : (a : Text) → digit_at a ≡ None → (j : ℕ) (c : Text) → Number j a c → ⊥
number-other a h j c s = by j c (number-told s)
  where
    by : (j : ℕ) (c : Text) → ReadNumber j a c → ⊥
    by j c (naught p q) = none_some h p
    by j c (counted p q g l r) = none_some h p

-- whatever digits go on from here go on from the start
abbrev pub Counts : ℕ → Text → ℕ → Text → Type 0
Counts first start v a = (n : ℕ) (b : Text) → Digits v n a b → Digits first n start b

pub number-digit : {n : ℕ} {a b : Text} → Number n a b → (d : ℕ) × (m : Text) × (digit_at a ≡ Some (d, m))
number-digit s = by (number-told s)
  where
    by : {n : ℕ} {a b : Text} → ReadNumber n a b → (d : ℕ) × (m : Text) × (digit_at a ≡ Some (d, m))
    by (naught {b = b} p q) = (0, b, p)
    by (counted {d = d} {m = m} p z g l h) = (d, m, p)

pub number-short : {n : ℕ} {a b : Text} → Number n a b → length b < length a
number-short s = by (number-told s)
  where
    by : {n : ℕ} {a b : Text} → ReadNumber n a b → length b < length a
    by (naught {a = a} {b = b} p q) = shorter a b p
    by (counted {a = a} {m = m} p z g l h) = let x = shorter a m p in let y = digits-short g in omega arith

pub number-only : {n : ℕ} {a b : Text} → Number n a b → Found Number a n b
number-only s = by (number-told s)
  where
    by : {n : ℕ} {a b : Text} → ReadNumber n a b → Found Number a n b
    by (naught {a = a} {b = b} q h) = naught-found a b refl q h
    by (counted {n = n} {a = a} {m = m} {b = b} q z g l h) = number-found a m b n z q g l h
