-- UTF-16: the definitions beside those of std, and both ways between units and scalar values.
use Rattle.std.proofs.Common.{◌≡◌, ℕ, ◌+◌, ◌-◌, ◌/◌, ◌%◌, ◌^◌, ◌<◌, ◌≤◌, Bool, true, false, ◌&&◌, ◌⊎◌, List, [], ◌∷◌, ◌++◌, map, All, flat_map, nat_lt, nat_le, if◌then◌else◌, Option, Some, None, unwrap_or, refl, sym, ap, ap₂, ◌∙◌, inl, inr, arith, le-ltb, le-leb, lt-ltb, ltb-true, leb-true, ltb-false, leb-false}
use Rattle.std.proofs.lemmas.Bool.{and_parts, and_cases, cases_lt, lt-leb}
use Rattle.std.proofs.lemmas.List.Elements.{All-nil, All-cons, All-head, All-tail}
use Rattle.std.specs.Char.Escape.{encode_utf16}
use Rattle.std.specs.Char.Utf16.{utf16_chars, utf16_lossy_chars, lone_unit_char, surrogate_pair_char}
use Rattle.actx_text.specs.Scalars.{IsScalar}
use Rattle.actx_text.specs.Utf16.{utf16_of, is_leading, is_trailing, is_surrogate, pair_scalar, lone_scalar, scalars_of, well_formed}

-- the units of one scalar value are those of std
pub utf16_of-is : (c : ℕ) → utf16_of c ≡ encode_utf16 c
unfolding utf16_of
utf16_of-is c = refl

-- and so are the scalar values of units
lone_is : (surrogate : Bool) (u : ℕ) → (if surrogate then 0xFFFD else u) ≡ unwrap_or (if surrogate then None else Some u) 0xFFFD
lone_is true u = refl
lone_is false u = refl

pair_is : (pair : Bool) (p q l : ℕ) (m : Option ℕ) (xs ys : List ℕ) (us vs : List (Option ℕ)) → p ≡ q → l ≡ unwrap_or m 0xFFFD
    → xs ≡ map (λ o. unwrap_or o 0xFFFD) us → ys ≡ map (λ o. unwrap_or o 0xFFFD) vs
    → (if pair then p ∷ xs else l ∷ ys) ≡ map (λ o. unwrap_or o 0xFFFD) (if pair then Some q ∷ us else m ∷ vs)
pair_is true p q l m xs ys us vs e f g h = ap₂ (λ a b. a ∷ b) e g
pair_is false p q l m xs ys us vs e f g h = ap₂ (λ a b. a ∷ b) f h

pub scalars_of-is : (us : List ℕ) → scalars_of us ≡ utf16_lossy_chars us
unfolding scalars_of utf16_chars
scalars_of-is [] = refl
scalars_of-is (u ∷ []) = ap (λ c. c ∷ []) (lone_is (is_surrogate u) u)
scalars_of-is (u ∷ v ∷ rest) =
    pair_is (is_leading u && is_trailing v) (pair_scalar u v) (surrogate_pair_char u v) (lone_scalar u) (lone_unit_char u)
    (scalars_of rest) (scalars_of (v ∷ rest)) (utf16_chars rest) (utf16_chars (v ∷ rest))
    (omega arith) (lone_is (is_surrogate u) u) (scalars_of-is rest) (scalars_of-is (v ∷ rest))

-- the tests of a unit
surrogate_not : (c : ℕ) → IsScalar c → c < 0x1_0000 → is_surrogate c ≡ false
surrogate_not c (inl low) small = rw (lt-leb 0xD800 c (omega arith)) refl
surrogate_not c (inr high) small = rw (le-leb 0xD800 c (omega arith), le-ltb c 0xE000 high.0) refl

leading_not : (c : ℕ) → IsScalar c → c < 0x1_0000 → is_leading c ≡ false
leading_not c (inl low) small = rw (lt-leb 0xD800 c (omega arith)) refl
leading_not c (inr high) small = rw (le-leb 0xD800 c (omega arith), le-ltb c 0xDC00 (omega arith)) refl

leading : (u : ℕ) → 0xD800 ≤ u → u < 0xDC00 → is_leading u ≡ true
leading u from below = rw (le-leb 0xD800 u from, lt-ltb u 0xDC00 below) refl

trailing : (u : ℕ) → 0xDC00 ≤ u → u < 0xE000 → is_trailing u ≡ true
trailing u from below = rw (le-leb 0xDC00 u from, lt-ltb u 0xE000 below) refl

-- the scalar values of units, from the front
scalars_of_lone : (u : ℕ) (us : List ℕ) → is_leading u ≡ false → scalars_of (u ∷ us) ≡ lone_scalar u ∷ scalars_of us
unfolding scalars_of
scalars_of_lone u [] e = refl
scalars_of_lone u (v ∷ us) e = rw e refl

scalars_of_pair : (u v : ℕ) (us : List ℕ) → is_leading u ≡ true → is_trailing v ≡ true → scalars_of (u ∷ v ∷ us) ≡ pair_scalar u v ∷ scalars_of us
unfolding scalars_of
scalars_of_pair u v us e f = rw (e, f) refl

one_unit : (c : ℕ) → c < 0x1_0000 → utf16_of c ≡ c ∷ []
unfolding utf16_of
one_unit c small = rw (lt-ltb c 0x1_0000 small) refl

two_units : (c : ℕ) → 0x1_0000 ≤ c → utf16_of c ≡ (0xD800 + (c - 0x1_0000) / 0x400) ∷ (0xDC00 + (c - 0x1_0000) % 0x400) ∷ []
unfolding utf16_of
two_units c large = rw (le-ltb c 0x1_0000 large) refl

-- the pair of a scalar value, and that it has that scalar value
abbrev first_of : ℕ → ℕ
first_of c = 0xD800 + (c - 0x1_0000) / 0x400

abbrev second_of : ℕ → ℕ
second_of c = 0xDC00 + (c - 0x1_0000) % 0x400

pair_scalar-of : (c : ℕ) → 0x1_0000 ≤ c → c ≤ 0x10FFFF → pair_scalar (first_of c) (second_of c) ≡ c
pair_scalar-of c large top = omega arith

-- the units of a scalar value spell it
scalars_of-utf16_of : (c : ℕ) (us : List ℕ) → IsScalar c → scalars_of (utf16_of c ++ us) ≡ c ∷ scalars_of us
scalars_of-utf16_of c us s = by (cases_lt c 0x1_0000)
  where
    by : (c < 0x1_0000) ⊎ (0x1_0000 ≤ c) → scalars_of (utf16_of c ++ us) ≡ c ∷ scalars_of us
    by (inl small) = rw (one_unit c small) (scalars_of_lone c us (leading_not c s small) ∙ rw (surrogate_not c s small) refl)
    by (inr large) =
        let top : c ≤ 0x10FFFF = elim s [ inl low ↦ omega arith | inr high ↦ high.1 ] in
        rw (two_units c large)
        (scalars_of_pair (first_of c) (second_of c) us (leading (first_of c) (omega arith) (omega arith)) (trailing (second_of c) (omega arith) (omega arith))
        ∙ ap (λ x. x ∷ scalars_of us) (pair_scalar-of c large top))

scalars_of-nil : scalars_of [] ≡ []
unfolding scalars_of
scalars_of-nil = refl

pub scalars_of-utf16 : (cs : List ℕ) → All IsScalar cs → scalars_of (flat_map utf16_of cs) ≡ cs
scalars_of-utf16 [] all = scalars_of-nil
scalars_of-utf16 (c ∷ cs) all =
    scalars_of-utf16_of c (flat_map utf16_of cs) (All-head IsScalar c cs all)
    ∙ ap (λ x. c ∷ x) (scalars_of-utf16 cs (All-tail IsScalar c cs all))

-- the scalar values of units are such, and their units are the well-formed text
pub record IsRoundTrip (scalars text : List ℕ) : Type 0 where
  pub valid : All IsScalar scalars
  pub units : text ≡ flat_map utf16_of scalars

more : (c : ℕ) (scalars text : List ℕ) → IsScalar c → IsRoundTrip scalars text → IsRoundTrip (c ∷ scalars) (utf16_of c ++ text)
more c scalars text s back = record {
  valid = All-cons IsScalar c scalars s back.valid;
  units = ap (λ x. utf16_of c ++ x) back.units;
}

lone_valid : (surrogate : Bool) (u : ℕ) → surrogate ≡ is_surrogate u → u < 2 ^ 16
    → IsScalar (if surrogate then 0xFFFD else u) × ((if surrogate then 0xFFFD else u) < 0x1_0000)
lone_valid true u e small = (inr (omega arith, omega arith), omega arith)
lone_valid false u e small = (by (and_cases (nat_le 0xD800 u) (nat_lt u 0xE000) (sym e)), omega arith)
  where
    by : (nat_le 0xD800 u ≡ false) ⊎ (nat_lt u 0xE000 ≡ false) → IsScalar u
    by (inl below) = let h = leb-false 0xD800 u below in inl (omega arith)
    by (inr above) = let h = ltb-false u 0xE000 above in inr (h, omega arith)

-- a unit that is in no pair, and then what follows
lone_round_trip : (u : ℕ) (scalars text : List ℕ) → u < 2 ^ 16 → IsRoundTrip scalars text → IsRoundTrip (lone_scalar u ∷ scalars) (lone_scalar u ∷ text)
lone_round_trip u scalars text small back =
    let valid = lone_valid (is_surrogate u) u refl small in
    rw (one_unit (lone_scalar u) valid.1) at (more (lone_scalar u) scalars text valid.0 back)

-- the units of the scalar value of a pair are the pair
pair_round_trip : (u v : ℕ) (scalars text : List ℕ) → (is_leading u && is_trailing v) ≡ true → IsRoundTrip scalars text → IsRoundTrip (pair_scalar u v ∷ scalars) (u ∷ v ∷ text)
pair_round_trip u v scalars text e back =
    let parts = and_parts (is_leading u) (is_trailing v) e in
    let first = and_parts (nat_le 0xD800 u) (nat_lt u 0xDC00) parts.0 in
    let second = and_parts (nat_le 0xDC00 v) (nat_lt v 0xE000) parts.1 in
    let a = leb-true 0xD800 u first.0 in
    let b = ltb-true u 0xDC00 first.1 in
    let c = leb-true 0xDC00 v second.0 in
    let d = ltb-true v 0xE000 second.1 in
    let units : utf16_of (pair_scalar u v) ≡ u ∷ v ∷ [] =
    two_units (pair_scalar u v) (omega arith) ∙ ap₂ (λ x y. x ∷ y ∷ []) (omega arith) (omega arith) in
    rw units at (more (pair_scalar u v) scalars text (inr (omega arith, omega arith)) back)

either_round_trip : (pair : Bool) (u v : ℕ) (s t x y : List ℕ) → pair ≡ (is_leading u && is_trailing v) → u < 2 ^ 16
    → IsRoundTrip s x → IsRoundTrip t y
    → IsRoundTrip (if pair then pair_scalar u v ∷ s else lone_scalar u ∷ t) (if pair then u ∷ v ∷ x else lone_scalar u ∷ y)
either_round_trip true u v s t x y e small here there = pair_round_trip u v s x (sym e) here
either_round_trip false u v s t x y e small here there = lone_round_trip u t y small there

pub scalars_of-IsRoundTrip : (us : List ℕ) → All (λ u. u < 2 ^ 16) us → IsRoundTrip (scalars_of us) (well_formed us)
unfolding scalars_of well_formed
scalars_of-IsRoundTrip [] all = record { valid = All-nil IsScalar; units = refl }
scalars_of-IsRoundTrip (u ∷ []) all = lone_round_trip u [] [] (All-head (λ x. x < 2 ^ 16) u [] all) (record { valid = All-nil IsScalar; units = refl })
scalars_of-IsRoundTrip (u ∷ v ∷ rest) all =
    let tail = All-tail (λ x. x < 2 ^ 16) u (v ∷ rest) all in
    either_round_trip (is_leading u && is_trailing v) u v (scalars_of rest) (scalars_of (v ∷ rest)) (well_formed rest) (well_formed (v ∷ rest)) refl
    (All-head (λ x. x < 2 ^ 16) u (v ∷ rest) all) (scalars_of-IsRoundTrip rest (All-tail (λ x. x < 2 ^ 16) v rest tail)) (scalars_of-IsRoundTrip (v ∷ rest) tail)
