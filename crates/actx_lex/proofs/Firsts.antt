-- What a token may begin with.
use Rattle.std.proofs.Common.{◌≡◌, ◌≢◌, ℕ, zero, suc, ◌+◌, ◌-◌, ◌<◌, ◌≤◌, ◌⊎◌, inl, inr, Bool, true, false, not, ◌&&◌, ◌||◌, ◌==◌, [], ◌∷◌, Option, Some, refl, sym, ap, ◌∙◌, arith}
use Rattle.std.specs.Prelude.{if◌then◌else◌, nat_le}
use Rattle.std.specs.Char.{is_ascii_alphabetic}
use Rattle.std.proofs.lemmas.Bool.Decides.{nat_tests, leb_tells, eqb_tells}
use Rattle.unicode_ident.specs.Ident.{is_xid_start}
use Rattle.unicode_ident.proofs.IdentLemmas.{is_xid_start-ascii}
use Rattle.unicode_ident.proofs.Computing.{unicode_ident}
use Rattle.actx_lex.specs.Units.{Text, is_scalar, between, is_line_end, is_white_space, is_high_surrogate, is_low_surrogate, pair_character, first_character, starts_word}
use Rattle.actx_lex.specs.Readers.{after_character}
use Rattle.actx_lex.proofs.Basics.{one_some, not_equal, both, equal}
use Rattle.actx_lex.proofs.Words.{char-read}

pub data First (c : ℕ) : Type 0 where
  dollar : c ≡ 36 → First c
  letter : 65 ≤ c → c ≤ 122 → c ≢ 96 → c ≢ 91 → c ≢ 93 → First c
  other : 128 ≤ c → is_line_end c ≡ false → is_white_space c ≡ false → First c

low : (c : ℕ) → is_xid_start c ≡ true → (128 ≤ c) ⊎ First c
low c h = by (leb_tells 128 c)
  where
    ascii : is_ascii_alphabetic c ≡ true → First c
    ascii e = letter (grind (arith, nat_tests)) (grind (arith, nat_tests)) (grind (arith, nat_tests)) (grind (arith, nat_tests)) (grind (arith, nat_tests))

    by : ((nat_le 128 c ≡ true) × (128 ≤ c)) ⊎ ((nat_le 128 c ≡ false) × (c < 128)) → (128 ≤ c) ⊎ First c
    by (inl g) = inl g.1
    by (inr g) = inr (ascii (sym (is_xid_start-ascii c g.1) ∙ h))

-- whether the n characters from c on are no starts of words
none_from : ℕ → ℕ → Bool
none_from c zero = true
none_from c (suc n) = not (is_xid_start (c + n)) && none_from c n

spaces : none_from 0x2000 11 ≡ true
unfolding none_from unicode_ident
spaces = refl

singles : (is_xid_start 0xA0 ≡ false) × (is_xid_start 0x1680 ≡ false) × (is_xid_start 0x202F ≡ false) × (is_xid_start 0x205F ≡ false) × (is_xid_start 0x3000 ≡ false) × (is_xid_start 0xFEFF ≡ false) × (is_xid_start 0x2028 ≡ false) × (is_xid_start 0x2029 ≡ false)
unfolding unicode_ident
singles = (refl, refl, refl, refl, refl, refl, refl, refl)

at : (c n k : ℕ) → none_from c n ≡ true → k < n → is_xid_start (c + k) ≡ false
unfolding none_from
at c zero k h l = Prim.absurd (omega arith)
at c (suc n) k h l = by (is_xid_start (c + n)) refl h (at c n k)
  where
    by : (t : Bool) → is_xid_start (c + n) ≡ t → (not t && none_from c n) ≡ true → (none_from c n ≡ true → k < n → is_xid_start (c + k) ≡ false) → is_xid_start (c + k) ≡ false
    by true e h deep = Prim.absurd (cc)
    by false e h deep = last (eqb_tells k n)
      where
        last : ((k == n) ≡ true) × (k ≡ n) ⊎ ((k == n) ≡ false) × (k ≡ n → ⊥) → is_xid_start (c + k) ≡ false
        last (inl g) = ap (λ x. is_xid_start (c + x)) g.1 ∙ e
        last (inr g) = deep h (let m = g.1 in omega arith)

same_is : (c n : ℕ) → (is_xid_start n) ≡ false → is_xid_start c ≡ true → c ≢ n
same_is c n f h e = let x = ap is_xid_start e in Prim.absurd (cc)

pub lines_no : (c : ℕ) → c ≢ 10 → c ≢ 13 → c ≢ 0x2028 → c ≢ 0x2029 → is_line_end c ≡ false
lines_no c a b d e = simp (not_equal c 10 a, not_equal c 13 b, not_equal c 0x2028 d, not_equal c 0x2029 e) refl

pub between_no : (l h c : ℕ) → (c < l) ⊎ (h < c) → between l h c ≡ false
between_no l h c (inl a) = grind (arith, nat_tests)
between_no l h c (inr a) = grind (arith, nat_tests)

pub white_no : (c : ℕ) → 32 < c → c ≢ 0xA0 → c ≢ 0x1680 → (c < 0x2000) ⊎ (0x200A < c) → c ≢ 0x202F → c ≢ 0x205F → c ≢ 0x3000 → c ≢ 0xFEFF → is_white_space c ≡ false
white_no c l a b r d e f g =
    simp (not_equal c 9 (omega arith), not_equal c 11 (omega arith), not_equal c 12 (omega arith), not_equal c 32 (omega arith), not_equal c 0xA0 a, not_equal c 0x1680 b, between_no 0x2000 0x200A c r, not_equal c 0x202F d, not_equal c 0x205F e, not_equal c 0x3000 f, not_equal c 0xFEFF g) refl

far : (c : ℕ) → 128 ≤ c → is_xid_start c ≡ true → First c
far c l h =
    let s = singles in
    other l
    (lines_no c (omega arith) (omega arith) (same_is c 0x2028 s.6 h) (same_is c 0x2029 s.7 h))
    (white_no c (omega arith) (same_is c 0xA0 s.0 h) (same_is c 0x1680 s.1 h) (range (leb_tells 0x2000 c) (leb_tells c 0x200A))
    (same_is c 0x202F s.2 h) (same_is c 0x205F s.3 h) (same_is c 0x3000 s.4 h) (same_is c 0xFEFF s.5 h))
  where
    range : ((nat_le 0x2000 c ≡ true) × (0x2000 ≤ c)) ⊎ ((nat_le 0x2000 c ≡ false) × (c < 0x2000)) → ((nat_le c 0x200A ≡ true) × (c ≤ 0x200A)) ⊎ ((nat_le c 0x200A ≡ false) × (0x200A < c)) → (c < 0x2000) ⊎ (0x200A < c)
    range (inr g) k = inl g.1
    range (inl g) (inr k) = inr k.1
    range (inl g) (inl k) =
        let d : 0x2000 + (c - 0x2000) ≡ c = let x = g.1 in omega arith in
        let e = at 0x2000 11 (c - 0x2000) spaces (let x = k.1 in let y = g.1 in omega arith) in
        Prim.absurd (same_is c (0x2000 + (c - 0x2000)) e h (sym d))

start_first : (c : ℕ) → starts_word c ≡ true → First c
unfolding starts_word
start_first c h = by (c == 36) refl (c == 95) refl h
  where
    xid : is_xid_start c ≡ true → First c
    xid h = elim (low c h) [ inl g ↦ far c g h | inr g ↦ g ]

    by : (t : Bool) → (c == 36) ≡ t → (u : Bool) → (c == 95) ≡ u → ((t || u) || (is_scalar c && is_xid_start c)) ≡ true → First c
    by true e u f h = dollar (equal c 36 e)
    by false e true f h = let g = equal c 95 f in letter (omega arith) (omega arith) (omega arith) (omega arith) (omega arith)
    by false e false f h = xid (both (is_scalar c) (is_xid_start c) h).1

high_first : (c : ℕ) → is_high_surrogate c ≡ true → First c
high_first c h =
    let g = both (nat_le 0xD800 c) (nat_le c 0xDBFF) h in
    let l : 0xD800 ≤ c = let k = g.0 in grind (arith, nat_tests) in
    let r : c ≤ 0xDBFF = let k = g.1 in grind (arith, nat_tests) in
    other (omega arith) (lines_no c (omega arith) (omega arith) (omega arith) (omega arith))
    (white_no c (omega arith) (omega arith) (omega arith) (inr (omega arith)) (omega arith) (omega arith) (omega arith) (omega arith))

first-unit : (c : ℕ) (a m : Text) (d : ℕ) → first_character (c ∷ a) ≡ Some (d, m) → starts_word d ≡ true → First c
unfolding first_character
first-unit c [] m d e h = start_first c (ap starts_word (ap (λ (x : ℕ × Text). x.0) (one_some refl e)) ∙ h)
first-unit c (b ∷ a) m d e h = by (is_high_surrogate c) refl (is_low_surrogate b) e
  where
    alone : d ≡ c → First c
    alone f = start_first c (ap starts_word (sym f) ∙ h)

    by : (t : Bool) → is_high_surrogate c ≡ t → (u : Bool) → (if◌then◌else◌ {A = Option (ℕ × Text)} (t && u) (Some (pair_character c b, a)) (Some (c, b ∷ a))) ≡ Some (d, m) → First c
    by true p true e = high_first c p
    by true p false e = alone (sym (ap (λ (x : ℕ × Text). x.0) (one_some refl e)))
    by false p u e = alone (sym (ap (λ (x : ℕ × Text). x.0) (one_some refl e)))

pub word_first : (c : ℕ) (a m : Text) → after_character true (c ∷ a) ≡ Some m → First c
word_first c a m h = let r = char-read true (c ∷ a) m h in first-unit c a m r.code r.first r.fit
