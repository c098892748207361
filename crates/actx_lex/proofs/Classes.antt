-- The first unit tells which kinds of tokens there may be, and no token begins like a gap.
use Rattle.std.proofs.Common.{◌≡◌, ◌≢◌, ℕ, ◌<◌, ◌≤◌, ◌⊎◌, inl, inr, Bool, true, false, not, ◌||◌, ◌==◌, [], ◌∷◌, ◌++◌, length, Some, None, refl, sym, ap, ◌∙◌, arith, length-append}
use Rattle.std.specs.Prelude.{if◌then◌else◌}
use Rattle.std.proofs.lemmas.Bool.Decides.{nat_tests}
use Rattle.actx_lex.specs.declared.element.Class.{Class}
use Rattle.actx_lex.specs.declared.element.Class.TheVariants as c
use Rattle.actx_lex.specs.declared.token.Punct.{Punct}
use Rattle.actx_lex.specs.declared.token.Punct.TheVariants as p
use Rattle.actx_lex.specs.declared.token.TokenKind.{TokenKind}
use Rattle.actx_lex.specs.declared.token.TokenKind.TheVariants as k
use Rattle.actx_lex.specs.Units.{Text, begins, first_character, is_digit, is_line_end, is_white_space}
use Rattle.actx_lex.specs.Words.{is_reserved}
use Rattle.actx_lex.specs.Numbers.{Number}
use Rattle.actx_lex.specs.Texts.{is_quote}
use Rattle.actx_lex.specs.Signs.{spelling, may_stand, sign}
use Rattle.actx_lex.specs.TokenAt as at
use Rattle.actx_lex.specs.TokenAt.{word_kind, TokenAt}
use Rattle.actx_lex.specs.Readers.{comment, gap_item, digit_at, after_character, is_sign_unit, class}
use Rattle.actx_lex.proofs.Basics.{none_some, equal, not_true, not_equal}
use Rattle.actx_lex.proofs.Words.{char, rest-ends, not_longer, word-first}
use Rattle.actx_lex.proofs.Digits.{starts}
use Rattle.actx_lex.proofs.Numbers.{number-digit, number-short}
use Rattle.actx_lex.proofs.Quotes.{quoted-first, quoted-short, piece-short}
use Rattle.actx_lex.proofs.Signs.{filled}
use Rattle.actx_lex.proofs.Firsts.{First, dollar, letter, other, between_no, white_no, lines_no, word_first}

-- ---- by the first unit

abbrev pub class_of : TokenKind → Class
class_of (k.Name us) = c.Word
class_of (k.Reserved us) = c.Word
class_of (k.Number n) = c.Number
class_of (k.Text us) = c.Text
class_of (k.Template us true e) = c.FirstPiece
class_of (k.Template us false e) = c.LaterPiece
class_of (k.Punct s) = c.Sign

clear : (i : Bool) (u : ℕ) (a : Text) → is_digit u ≡ false → u ≢ 34 → u ≢ 39 → u ≢ 96 → u ≢ 125 → is_sign_unit u ≡ false → class i (u ∷ a) ≡ c.Word
unfolding class
clear i u a d x y z w s = rw s (simp (d, not_equal u 34 x, not_equal u 39 y, not_equal u 96 z, not_equal u 125 w) refl)

no_sign : (u : ℕ) → (63 < u) → u ≢ 91 → u ≢ 93 → (u < 123) ⊎ (125 < u) → is_sign_unit u ≡ false
no_sign u l x y z =
    simp (
      not_equal u 33 (omega arith),
      between_no 37 38 u (inr (omega arith)),
      between_no 40 47 u (inr (omega arith)),
      between_no 58 63 u (inr (omega arith)),
      not_equal u 91 x,
      not_equal u 93 y,
      between_no 123 125 u z,
    ) refl

first-class : (i : Bool) (u : ℕ) (a : Text) → First u → class i (u ∷ a) ≡ c.Word
unfolding class
first-class i u a (dollar e) = rw e refl
first-class i u a (letter l h n x y) = clear i u a (between_no 48 57 u (inr (omega arith))) (omega arith) (omega arith) n (omega arith) (no_sign u (omega arith) x y (inl (omega arith)))
first-class i u a (other l x y) = clear i u a (between_no 48 57 u (inr (omega arith))) (omega arith) (omega arith) (omega arith) (omega arith) (no_sign u (omega arith) (omega arith) (omega arith) (inr (omega arith)))

digit-class : (i : Bool) (a m : Text) {d : ℕ} → digit_at a ≡ Some (d, m) → class i a ≡ c.Number
unfolding class
digit-class i [] m e = Prim.absurd (let h = starts [] m e in cc)
digit-class i (u ∷ a) m e = rw (starts (u ∷ a) m e) refl

quote-either : (u : ℕ) → is_quote u ≡ true → (u ≡ 34) ⊎ (u ≡ 39)
quote-either u h = by (u == 34) refl (u == 39) refl h
  where
    by : (t : Bool) → (u == 34) ≡ t → (v : Bool) → (u == 39) ≡ v → (t || v) ≡ true → (u ≡ 34) ⊎ (u ≡ 39)
    by true p v q h = inl (equal u 34 p)
    by false p true q h = inr (equal u 39 q)
    by false p false q h = Prim.absurd (cc)

quote-class : (i : Bool) (q : ℕ) (a m : Text) → a ≡ q ∷ m → is_quote q ≡ true → class i a ≡ c.Text
unfolding class
quote-class i q a m e h = elim (quote-either q h) [ inl g ↦ ap (class i) (e ∙ ap (λ x. x ∷ m) g) | inr g ↦ ap (class i) (e ∙ ap (λ x. x ∷ m) g) ]

first-piece-class : (i : Bool) (a m : Text) → a ≡ 96 ∷ m → class i a ≡ c.FirstPiece
unfolding class
first-piece-class i a m e = ap (class i) e

later-piece-class : (i : Bool) (a m : Text) → i ≡ true → a ≡ 125 ∷ m → class i a ≡ c.LaterPiece
unfolding class
later-piece-class i a m t e = ap (class i) e ∙ rw t refl

-- facts of each sign, at a text of it and something
abbrev IsClass : Bool → Text → Punct → Type 0
IsClass i b s = may_stand i s b ≡ true → class i (spelling s ++ b) ≡ c.Sign

sign-class : (i : Bool) (b : Text) (s : Punct) → IsClass i b s
unfolding class
sign-class i b p.OpenBrace h = refl
sign-class i b p.CloseBrace h = rw (not_true i h) refl
sign-class i b p.OpenParenthesis h = refl
sign-class i b p.CloseParenthesis h = refl
sign-class i b p.OpenBracket h = refl
sign-class i b p.CloseBracket h = refl
sign-class i b p.Dot h = refl
sign-class i b p.Ellipsis h = refl
sign-class i b p.Semicolon h = refl
sign-class i b p.Comma h = refl
sign-class i b p.Less h = refl
sign-class i b p.Greater h = refl
sign-class i b p.LessOrEqual h = refl
sign-class i b p.GreaterOrEqual h = refl
sign-class i b p.Equal h = refl
sign-class i b p.NotEqual h = refl
sign-class i b p.StrictEqual h = refl
sign-class i b p.StrictNotEqual h = refl
sign-class i b p.Plus h = refl
sign-class i b p.Minus h = refl
sign-class i b p.Star h = refl
sign-class i b p.Slash h = refl
sign-class i b p.Percent h = refl
sign-class i b p.PlusPlus h = refl
sign-class i b p.MinusMinus h = refl
sign-class i b p.Not h = refl
sign-class i b p.And h = refl
sign-class i b p.Or h = refl
sign-class i b p.Coalesce h = refl
sign-class i b p.Question h = refl
sign-class i b p.OptionalDot h = refl
sign-class i b p.Colon h = refl
sign-class i b p.Assign h = refl
sign-class i b p.PlusAssign h = refl
sign-class i b p.MinusAssign h = refl
sign-class i b p.StarAssign h = refl
sign-class i b p.SlashAssign h = refl
sign-class i b p.PercentAssign h = refl
sign-class i b p.AndAssign h = refl
sign-class i b p.OrAssign h = refl
sign-class i b p.CoalesceAssign h = refl
sign-class i b p.Arrow h = refl

abbrev NoGap : Bool → Text → Punct → Type 0
NoGap i b s = may_stand i s b ≡ true → gap_item (spelling s ++ b) ≡ None

no_comment : (b : Text) → not (begins 47 b || begins 42 b) ≡ true → comment b ≡ None
no_comment [] e = refl
no_comment (u ∷ b) e = by (u == 47) refl (u == 42) refl e
  where
    by : (t : Bool) → (u == 47) ≡ t → (v : Bool) → (u == 42) ≡ v → not (t || v) ≡ true → comment (u ∷ b) ≡ None
    by true h v g e = Prim.absurd (cc)
    by false h true g e = Prim.absurd (cc)
    by false h false g e = rw h (rw g refl)

sign-gap : (i : Bool) (b : Text) (s : Punct) → NoGap i b s
unfolding gap_item
sign-gap i b p.OpenBrace h = refl
sign-gap i b p.CloseBrace h = refl
sign-gap i b p.OpenParenthesis h = refl
sign-gap i b p.CloseParenthesis h = refl
sign-gap i b p.OpenBracket h = refl
sign-gap i b p.CloseBracket h = refl
sign-gap i b p.Dot h = refl
sign-gap i b p.Ellipsis h = refl
sign-gap i b p.Semicolon h = refl
sign-gap i b p.Comma h = refl
sign-gap i b p.Less h = refl
sign-gap i b p.Greater h = refl
sign-gap i b p.LessOrEqual h = refl
sign-gap i b p.GreaterOrEqual h = refl
sign-gap i b p.Equal h = refl
sign-gap i b p.NotEqual h = refl
sign-gap i b p.StrictEqual h = refl
sign-gap i b p.StrictNotEqual h = refl
sign-gap i b p.Plus h = refl
sign-gap i b p.Minus h = refl
sign-gap i b p.Star h = refl
sign-gap i b p.Slash h = no_comment b h
sign-gap i b p.Percent h = refl
sign-gap i b p.PlusPlus h = refl
sign-gap i b p.MinusMinus h = refl
sign-gap i b p.Not h = refl
sign-gap i b p.And h = refl
sign-gap i b p.Or h = refl
sign-gap i b p.Coalesce h = refl
sign-gap i b p.Question h = refl
sign-gap i b p.OptionalDot h = refl
sign-gap i b p.Colon h = refl
sign-gap i b p.Assign h = refl
sign-gap i b p.PlusAssign h = refl
sign-gap i b p.MinusAssign h = refl
sign-gap i b p.StarAssign h = refl
sign-gap i b p.SlashAssign h = refl
sign-gap i b p.PercentAssign h = refl
sign-gap i b p.AndAssign h = refl
sign-gap i b p.OrAssign h = refl
sign-gap i b p.CoalesceAssign h = refl
sign-gap i b p.Arrow h = refl

plain : (u : ℕ) (a : Text) → is_line_end u ≡ false → is_white_space u ≡ false → u ≢ 47 → gap_item (u ∷ a) ≡ None
unfolding gap_item
plain u a l w n = simp (l, w, not_equal u 47 n) refl

first-gap : (u : ℕ) (a : Text) → First u → gap_item (u ∷ a) ≡ None
unfolding gap_item
first-gap u a (dollar e) = rw e refl
first-gap u a (letter l h n x y) =
    plain u a (lines_no u (omega arith) (omega arith) (omega arith) (omega arith))
    (white_no u (omega arith) (omega arith) (omega arith) (inl (omega arith)) (omega arith) (omega arith) (omega arith) (omega arith)) (omega arith)
first-gap u a (other l x y) = plain u a x y (omega arith)

digit-gap : (a m : Text) {d : ℕ} → digit_at a ≡ Some (d, m) → gap_item a ≡ None
unfolding gap_item
digit-gap [] m e = refl
digit-gap (u ∷ a) m e =
    let h = starts (u ∷ a) m e in
    let l : 48 ≤ u = grind (arith, nat_tests) in
    let r : u ≤ 57 = grind (arith, nat_tests) in
    plain u a (lines_no u (omega arith) (omega arith) (omega arith) (omega arith))
    (white_no u (omega arith) (omega arith) (omega arith) (inl (omega arith)) (omega arith) (omega arith) (omega arith) (omega arith)) (omega arith)

quote-gap : (q : ℕ) (a m : Text) → a ≡ q ∷ m → is_quote q ≡ true → gap_item a ≡ None
unfolding gap_item
quote-gap q a m e h = elim (quote-either q h) [ inl g ↦ ap gap_item (e ∙ ap (λ x. x ∷ m) g) | inr g ↦ ap gap_item (e ∙ ap (λ x. x ∷ m) g) ]

first-piece-gap : (a m : Text) → a ≡ 96 ∷ m → gap_item a ≡ None
unfolding gap_item
first-piece-gap a m e = ap gap_item e

later-piece-gap : (a m : Text) → a ≡ 125 ∷ m → gap_item a ≡ None
unfolding gap_item
later-piece-gap a m e = ap gap_item e

word-class : (i : Bool) (a m : Text) → after_character true a ≡ Some m → class i a ≡ c.Word
unfolding after_character first_character
word-class i [] m e = none_some refl e
word-class i (u ∷ a) m e = first-class i u a (word_first u a m e)

word-gap : (a m : Text) → after_character true a ≡ Some m → gap_item a ≡ None
unfolding gap_item
word-gap [] m e = refl
word-gap (u ∷ a) m e = first-gap u a (word_first u a m e)

pub kind-class : (us : Text) → class_of (word_kind us) ≡ c.Word
kind-class us = by (is_reserved us)
  where
    by : (t : Bool) → class_of (if t then k.Reserved us else k.Name us) ≡ c.Word
    by true = refl
    by false = refl

number-class : (i : Bool) {n : ℕ} {a b : Text} → Number n a b → class i a ≡ c.Number
number-class i {a = a} w = let d = number-digit w in digit-class i a d.1 d.2

pub classed : {i : Bool} {j : TokenKind} {a b : Text} → TokenAt i j a b → class i a ≡ class_of j
classed {i} (at.word {us = us} {a = a} w) = let f = word-first w in word-class i a f.0 f.1 ∙ sym (kind-class us)
classed {i} (at.number w) = number-class i w
classed {i} (at.text {a = a} w) = let f = quoted-first w in quote-class i f.0 a f.1 f.2 f.3
classed {i} (at.first_piece {a = a} {m = m} e w) = first-piece-class i a m e
classed {i} (at.later_piece {a = a} {m = m} t e w) = later-piece-class i a m t e
classed {i} (at.sign (sign {s = s} {b = b} e h)) = ap (class i) e ∙ sign-class i b s h

pub ungapped : {i : Bool} {j : TokenKind} {a b : Text} → TokenAt i j a b → gap_item a ≡ None
ungapped (at.word {a = a} w) = let f = word-first w in word-gap a f.0 f.1
ungapped (at.number {a = a} w) = let d = number-digit w in digit-gap a d.1 d.2
ungapped (at.text {a = a} w) = let f = quoted-first w in quote-gap f.0 a f.1 f.2 f.3
ungapped (at.first_piece {a = a} {m = m} e w) = first-piece-gap a m e
ungapped (at.later_piece {a = a} {m = m} t e w) = later-piece-gap a m e
ungapped {i} (at.sign (sign {s = s} {b = b} e h)) = ap gap_item e ∙ sign-gap i b s h

-- ---- each token takes units

pub token-short : {i : Bool} {j : TokenKind} {a b : Text} → TokenAt i j a b → length b < length a
token-short (at.word {a = a} w) = let f = word-first w in let s = (char true a f.0 f.1).1 in let t = not_longer (rest-ends f.2) in omega arith
token-short (at.number w) = number-short w
token-short (at.text w) = quoted-short w
token-short (at.first_piece e w) = let s = ap length e in let t = piece-short w in omega arith
token-short (at.later_piece t e w) = let s = ap length e in let t = piece-short w in omega arith
token-short (at.sign (sign {s = s} {a = a} {b = b} e h)) = let l = filled s in let x = ap length e in let y = length-append (spelling s) b in omega arith
