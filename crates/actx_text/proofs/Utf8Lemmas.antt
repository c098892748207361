-- UTF-8: the definitions beside those of std, one decoding, and where bytes stop being UTF-8.
use Rattle.std.proofs.Common.{◌≡◌, ℕ, ◌+◌, ◌<◌, ◌≤◌, true, List, [], ◌∷◌, ◌++◌, length, take, drop, All, flat_map, refl, sym, ap, ap₂, subst, ◌∙◌, inl, inr, ⊎_elim, arith, append_assoc, take-append-drop, take-take, take_at, take_all, length-take, length-drop, length-append, le-ltb, le-leb, lt-ltb, chars}
use Rattle.std.proofs.lemmas.Bool.{and_parts, cases_lt}
use Rattle.std.proofs.lemmas.List.{drop-append-le}
use Rattle.std.proofs.lemmas.List.Elements.{All-nil, All-cons, All-head, All-tail}
use Rattle.std.proofs.lemmas.Str.{encodes_same, encodes-chars, scalars-chars, IsUtf8-append, IsUtf8-encode, IsUtf8-drop, IsCharBoundary-from_take, length-encode, len_utf8_bounds}
use Rattle.std.specs.Str as str
use lib.Utf8.{scalar, scalars, encode, encodes, scalar_cases, low_scalar}
use Rattle.actx_text.specs.Scalars.{IsScalar}
use Rattle.actx_text.specs.Utf8.{utf8_of, IsUtf8Of, IsUtf8, IsFirstIllFormed}

-- the encoding of one scalar value, and of a list, is that of std
pub utf8_of-is : (c : ℕ) → utf8_of c ≡ encode c
unfolding utf8_of encode
utf8_of-is c = refl

pub flat_map-utf8_of : (cs : List ℕ) → flat_map utf8_of cs ≡ encodes cs
flat_map-utf8_of [] = refl
flat_map-utf8_of (c ∷ cs) = ap₂ (λ x y. x ++ y) (utf8_of-is c) (flat_map-utf8_of cs)

-- and so are the scalar values
pub scalar_from : (c : ℕ) → IsScalar c → scalar c ≡ true
scalar_from c (inl low) = low_scalar c (omega arith)
scalar_from c (inr high) = rw (le-ltb c 55296 (omega arith), le-leb 57344 c high.0, lt-ltb c 1114112 (omega arith)) refl

pub IsScalar_from : (c : ℕ) → scalar c ≡ true → IsScalar c
IsScalar_from c e = ⊎_elim (λ (h : c < 55296). inl (omega arith)) (λ (h : (57344 ≤ c) × (c < 1114112)). inr (h.0, omega arith)) (scalar_cases c e)

pub scalars_from : (cs : List ℕ) → All IsScalar cs → scalars cs ≡ true
scalars_from [] all = refl
scalars_from (c ∷ cs) all = rw (scalar_from c (All-head IsScalar c cs all)) (scalars_from cs (All-tail IsScalar c cs all))

pub All-IsScalar : (cs : List ℕ) → scalars cs ≡ true → All IsScalar cs
All-IsScalar [] e = All-nil IsScalar
All-IsScalar (c ∷ cs) e =
    let parts = and_parts (scalar c) (scalars cs) e in
    All-cons IsScalar c cs (IsScalar_from c parts.0) (All-IsScalar cs parts.1)

-- bytes are UTF-8 by the one definition exactly where they are by the other
pub std_from : (bytes : List ℕ) → IsUtf8 bytes → str.IsUtf8 bytes
std_from bytes u = (u.0, (scalars_from u.0 u.1.valid, sym (u.1.spelled ∙ flat_map-utf8_of u.0)))

pub IsUtf8_from : (bytes : List ℕ) → str.IsUtf8 bytes → IsUtf8 bytes
IsUtf8_from bytes u = (u.0, record { valid = All-IsScalar u.0 u.1.0; spelled = sym u.1.1 ∙ sym (flat_map-utf8_of u.0) })

-- the characters of a text are the scalar values that its bytes encode
pub IsUtf8Of-chars : (bytes : List ℕ) → str.IsUtf8 bytes → IsUtf8Of bytes (chars bytes)
IsUtf8Of-chars bytes u = record {
  valid = All-IsScalar (chars bytes) (scalars-chars bytes u);
  spelled = sym (encodes-chars bytes u) ∙ sym (flat_map-utf8_of (chars bytes));
}

-- bytes have at most one decoding
pub one_decoding : (bytes scalars others : List ℕ) → IsUtf8Of bytes scalars → IsUtf8Of bytes others → scalars ≡ others
one_decoding bytes cs ds here there =
    encodes_same cs ds (sym (flat_map-utf8_of cs) ∙ sym here.spelled ∙ there.spelled ∙ flat_map-utf8_of ds)

-- some bytes that are UTF-8 begin with an encoding
begins : (bs : List ℕ) → str.IsUtf8 bs → 0 < length bs → (c : ℕ) × (rest : List ℕ) × IsScalar c × (bs ≡ utf8_of c ++ rest)
begins bs ([], u) some = absurd (omega (arith, ap length u.1))
begins bs ((c ∷ cs), u) some =
    let parts = and_parts (scalar c) (scalars cs) u.0 in
    (c, encodes cs, IsScalar_from c parts.0, sym u.1 ∙ ap (λ x. x ++ encodes cs) (sym (utf8_of-is c)))

-- what stands from a place on, where a front goes beyond that place
drop_through : (bytes : List ℕ) (at n : ℕ) → at ≤ length (take n bytes) → drop at bytes ≡ drop at (take n bytes) ++ drop n bytes
drop_through bytes at n within =
    ap (drop at) (sym (take-append-drop n bytes)) ∙ drop-append-le at (take n bytes) (drop n bytes) within

-- the part of a front that is UTF-8 after a shorter such front is UTF-8
tail_of : (bytes : List ℕ) (at n : ℕ) → at ≤ n → at ≤ length (take n bytes) → IsUtf8 (take at bytes) → IsUtf8 (take n bytes) → str.IsUtf8 (drop at (take n bytes))
tail_of bytes at n le within shorter front =
    let u = std_from (take n bytes) front in
    let start = subst str.IsUtf8 (sym (take-take at n bytes le)) (std_from (take at bytes) shorter) in
    IsUtf8-drop (take n bytes) at u (IsCharBoundary-from_take (take n bytes) at u within start)

-- no encoding stands at the place of the first ill-formed sequence, also not one that begins a part
begins_not : (bytes : List ℕ) (at n c : ℕ) (rest : List ℕ) → IsFirstIllFormed bytes at → IsScalar c
    → drop at bytes ≡ drop at (take n bytes) ++ drop n bytes → drop at (take n bytes) ≡ utf8_of c ++ rest → ⊥
begins_not bytes at n c rest first s through found =
    first.ill_formed c (rest ++ drop n bytes) s (through ∙ ap (λ x. x ++ drop n bytes) found ∙ append_assoc (utf8_of c) rest (drop n bytes))

-- no front that goes beyond the first ill-formed sequence's place is UTF-8
beyond : (bytes : List ℕ) (at n : ℕ) → IsFirstIllFormed bytes at → IsUtf8 (take n bytes) → at < n → ⊥
beyond bytes at n first front after =
    let long : at < length (take n bytes) = let within = first.within in omega (arith, length-take n bytes) in
    let tail = tail_of bytes at n (omega arith) (omega arith) first.before front in
    let found = begins (drop at (take n bytes)) tail (omega (arith, length-drop at (take n bytes))) in
    begins_not bytes at n found.0 found.1 first found.2 (drop_through bytes at n (omega arith)) found.3

pub longest : (bytes : List ℕ) (at n : ℕ) → IsFirstIllFormed bytes at → IsUtf8 (take n bytes) → n ≤ at
longest bytes at n first front =
    ⊎_elim (λ (after : at < n). absurd (beyond bytes at n first front after)) (λ (h : n ≤ at). h) (cases_lt at n)

-- bytes with an ill-formed sequence are not UTF-8
pub not_utf8 : (bytes : List ℕ) (at : ℕ) → IsFirstIllFormed bytes at → IsUtf8 bytes → ⊥
not_utf8 bytes at first u =
    beyond bytes at (length bytes) first (subst IsUtf8 (sym (take_all (length bytes) bytes (omega arith))) u) first.within

-- there is one first ill-formed sequence
pub same_place : (bytes : List ℕ) (at other : ℕ) → IsFirstIllFormed bytes at → IsFirstIllFormed bytes other → at ≡ other
same_place bytes at other here there =
    let le = longest bytes at other here there.before in
    let ge = longest bytes other at there here.before in
    omega arith

-- the place up to which std finds the bytes valid is the place of the first ill-formed sequence
pub IsFirstIllFormed_from : (bytes : List ℕ) (at : ℕ) → str.IsValidUpTo bytes at → IsFirstIllFormed bytes at
IsFirstIllFormed_from bytes at valid = record {
  within = valid.short;
  before = IsUtf8_from (take at bytes) valid.front;
  ill_formed = λ c rest s e.
      let whole : bytes ≡ (take at bytes ++ encode c) ++ rest =
      sym (take-append-drop at bytes) ∙ ap (λ x. take at bytes ++ x) (e ∙ ap (λ x. x ++ rest) (utf8_of-is c))
      ∙ sym (append_assoc (take at bytes) (encode c) rest) in
      let n = at + length (encode c) in
      let long : length (take at bytes ++ encode c) ≡ n =
      let short = valid.short in omega (arith, length-append (take at bytes) (encode c), length-take at bytes) in
      let front : take n bytes ≡ take at bytes ++ encode c = ap (take n) whole ∙ take_at (take at bytes ++ encode c) rest n long in
      let more : at < n = omega (arith, length-encode c, len_utf8_bounds c) in
      valid.longest n more
      (subst str.IsUtf8 (sym front) (IsUtf8-append (take at bytes) (encode c) valid.front (IsUtf8-encode c (scalar_from c s))));
}
