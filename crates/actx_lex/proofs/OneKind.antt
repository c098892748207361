-- Each class has one kind of token, so what is found of that kind is the token that is found.
use Rattle.std.proofs.Common.{◌≡◌, ℕ, ◌<◌, ◌⊎◌, inl, inr, Bool, true, false, ◌&&◌, ◌==◌, [], ◌∷◌, length, refl, sym, ap, ◌∙◌, subst, Option, Some, None, Result, Ok, Err}
use Rattle.std.specs.Prelude.{if◌then◌else◌, pos}
use Rattle.actx_lex.specs.declared.element.Class.{Class}
use Rattle.actx_lex.specs.declared.element.Class.TheVariants as c
use Rattle.actx_lex.specs.declared.token.Punct.{Punct}
use Rattle.actx_lex.specs.declared.token.TokenKind.{TokenKind}
use Rattle.actx_lex.specs.declared.token.TokenKind.TheVariants as k
use Rattle.actx_lex.specs.Units.{Text, rest, is_digit}
use Rattle.actx_lex.specs.Words.{Word}
use Rattle.actx_lex.specs.Numbers.{Number}
use Rattle.actx_lex.specs.Texts.{is_quote, QuotedText}
use Rattle.actx_lex.specs.Templates.{TemplatePiece}
use Rattle.actx_lex.specs.Signs.{Sign}
use Rattle.actx_lex.specs.TokenAt as at
use Rattle.actx_lex.specs.TokenAt.{word_kind, TokenAt}
use Rattle.actx_lex.specs.Readers.{PieceToken, is_sign_unit, class}
use Rattle.actx_lex.specs.Scans.{Found, Scans}
use Rattle.actx_lex.proofs.Basics.{equal}
use Rattle.actx_lex.proofs.Classes.{kind-class, classed}

clash : {P : Type 0} {x y z : Class} → x ≡ y → x ≡ z → (y ≡ z → ⊥) → P
clash e f n = Prim.absurd (n (sym e ∙ f))

module _ {i : Bool} {a : Text} where
  pub word-only : {j : TokenKind} {b : Text} → class i a ≡ c.Word → TokenAt i j a b → (us : Text) × (j ≡ word_kind us) × Word us a b
  word-only e (at.word {us = us} w) = (us, refl, w)
  word-only e (at.number w) = clash (classed {i = i} (at.number w)) e (λ h. cc)
  word-only e (at.text w) = clash (classed {i = i} (at.text w)) e (λ h. cc)
  word-only e (at.first_piece f w) = clash (classed {i = i} (at.first_piece f w)) e (λ h. cc)
  word-only e (at.later_piece t f w) = clash (classed {i = i} (at.later_piece t f w)) e (λ h. cc)
  word-only e (at.sign w) = clash (classed {i = i} (at.sign w)) e (λ h. cc)

  pub number-only : {j : TokenKind} {b : Text} → class i a ≡ c.Number → TokenAt i j a b → (n : ℕ) × (j ≡ k.Number (pos n)) × Number n a b
  number-only e (at.number {n = n} w) = (n, refl, w)
  number-only e (at.word {us = us} w) = clash (classed {i = i} (at.word w) ∙ kind-class us) e (λ h. cc)
  number-only e (at.text w) = clash (classed {i = i} (at.text w)) e (λ h. cc)
  number-only e (at.first_piece f w) = clash (classed {i = i} (at.first_piece f w)) e (λ h. cc)
  number-only e (at.later_piece t f w) = clash (classed {i = i} (at.later_piece t f w)) e (λ h. cc)
  number-only e (at.sign w) = clash (classed {i = i} (at.sign w)) e (λ h. cc)

  pub text-only : {j : TokenKind} {b : Text} → class i a ≡ c.Text → TokenAt i j a b → (us : Text) × (j ≡ k.Text us) × QuotedText us a b
  text-only e (at.text {us = us} w) = (us, refl, w)
  text-only e (at.word {us = us} w) = clash (classed {i = i} (at.word w) ∙ kind-class us) e (λ h. cc)
  text-only e (at.number w) = clash (classed {i = i} (at.number w)) e (λ h. cc)
  text-only e (at.first_piece f w) = clash (classed {i = i} (at.first_piece f w)) e (λ h. cc)
  text-only e (at.later_piece t f w) = clash (classed {i = i} (at.later_piece t f w)) e (λ h. cc)
  text-only e (at.sign w) = clash (classed {i = i} (at.sign w)) e (λ h. cc)

  pub first-only : {j : TokenKind} {b : Text} → class i a ≡ c.FirstPiece → TokenAt i j a b → (v : Text × Bool) × (j ≡ k.Template v.0 true v.1) × TemplatePiece v (rest a) b
  first-only e (at.first_piece {us = us} {b = b} {closes = l} f w) = ((us, l), refl, subst (λ x. TemplatePiece (us, l) x b) (sym (ap rest f)) w)
  first-only e (at.word {us = us} w) = clash (classed {i = i} (at.word w) ∙ kind-class us) e (λ h. cc)
  first-only e (at.number w) = clash (classed {i = i} (at.number w)) e (λ h. cc)
  first-only e (at.text w) = clash (classed {i = i} (at.text w)) e (λ h. cc)
  first-only e (at.later_piece t f w) = clash (classed {i = i} (at.later_piece t f w)) e (λ h. cc)
  first-only e (at.sign w) = clash (classed {i = i} (at.sign w)) e (λ h. cc)

  pub later-only : {j : TokenKind} {b : Text} → class i a ≡ c.LaterPiece → TokenAt i j a b → (v : Text × Bool) × (j ≡ k.Template v.0 false v.1) × TemplatePiece v (rest a) b
  later-only e (at.later_piece {us = us} {b = b} {closes = l} t f w) = ((us, l), refl, subst (λ x. TemplatePiece (us, l) x b) (sym (ap rest f)) w)
  later-only e (at.word {us = us} w) = clash (classed {i = i} (at.word w) ∙ kind-class us) e (λ h. cc)
  later-only e (at.number w) = clash (classed {i = i} (at.number w)) e (λ h. cc)
  later-only e (at.text w) = clash (classed {i = i} (at.text w)) e (λ h. cc)
  later-only e (at.first_piece f w) = clash (classed {i = i} (at.first_piece f w)) e (λ h. cc)
  later-only e (at.sign w) = clash (classed {i = i} (at.sign w)) e (λ h. cc)

  pub sign-only : {j : TokenKind} {b : Text} → class i a ≡ c.Sign → TokenAt i j a b → (s : Punct) × (j ≡ k.Punct s) × Sign i s a b
  sign-only e (at.sign {s = s} w) = (s, refl, w)
  sign-only e (at.word {us = us} w) = clash (classed {i = i} (at.word w) ∙ kind-class us) e (λ h. cc)
  sign-only e (at.number w) = clash (classed {i = i} (at.number w)) e (λ h. cc)
  sign-only e (at.text w) = clash (classed {i = i} (at.text w)) e (λ h. cc)
  sign-only e (at.first_piece f w) = clash (classed {i = i} (at.first_piece f w)) e (λ h. cc)
  sign-only e (at.later_piece t f w) = clash (classed {i = i} (at.later_piece t f w)) e (λ h. cc)

-- a class of tokens that is a set of spellings of its own
found_by : {K : Type 0} {R : K → Text → Text → Type 0} (i : Bool) (f : K → TokenKind) (a x b : Text) (v : K)
    → ((w : K) (c : Text) → R w x c → TokenAt i (f w) a c)
    → ((j : TokenKind) (c : Text) → TokenAt i j a c → (w : K) × (j ≡ f w) × R w x c)
    → Found R x v b → Found (TokenAt i) a (f v) b
found_by {K} {R} i f a x b v make only h = record { here = make v b h.here; best = best }
  where
    best : (j : TokenKind) (c : Text) → TokenAt i j a c → (length b < length c) ⊎ ((j ≡ f v) × (c ≡ b))
    best j c s =
        let o = only j c s in
        elim (h.best o.0 c o.2) [ inl g ↦ inl g | inr g ↦ inr (o.1 ∙ ap f g.0, g.1) ]

module _ (i : Bool) (a : Text) where
  pub word-token : (us b : Text) → class i a ≡ c.Word → Found Word a us b → Found (TokenAt i) a (word_kind us) b
  word-token us b e h = found_by i word_kind a a b us (λ w d r. at.word r) (λ j d s. word-only e s) h

  pub word-no : class i a ≡ c.Word → ((us b : Text) → Word us a b → ⊥) → (j : TokenKind) (b : Text) → TokenAt i j a b → ⊥
  word-no e n j b s = let o = word-only e s in n o.0 b o.2

  pub number-token : (n : ℕ) (b : Text) → class i a ≡ c.Number → Found Number a n b → Found (TokenAt i) a (k.Number (pos n)) b
  number-token n b e h = found_by i (λ v. k.Number (pos v)) a a b n (λ w d r. at.number r) (λ j d s. number-only e s) h

  pub number-no : class i a ≡ c.Number → ((n : ℕ) (b : Text) → Number n a b → ⊥) → (j : TokenKind) (b : Text) → TokenAt i j a b → ⊥
  number-no e n j b s = let o = number-only e s in n o.0 b o.2

  pub text-token : (us b : Text) → class i a ≡ c.Text → Found QuotedText a us b → Found (TokenAt i) a (k.Text us) b
  text-token us b e h = found_by i (λ v. k.Text v) a a b us (λ w d r. at.text r) (λ j d s. text-only e s) h

  pub text-no : class i a ≡ c.Text → ((us b : Text) → QuotedText us a b → ⊥) → (j : TokenKind) (b : Text) → TokenAt i j a b → ⊥
  text-no e n j b s = let o = text-only e s in n o.0 b o.2

  pub sign-token : (s : Punct) (b : Text) → class i a ≡ c.Sign → Found (Sign i) a s b → Found (TokenAt i) a (k.Punct s) b
  sign-token s b e h = found_by i (λ v. k.Punct v) a a b s (λ w d r. at.sign r) (λ j d s. sign-only e s) h

  pub sign-no : class i a ≡ c.Sign → ((s : Punct) (b : Text) → Sign i s a b → ⊥) → (j : TokenKind) (b : Text) → TokenAt i j a b → ⊥
  sign-no e n j b s = let o = sign-only e s in n o.0 b o.2

  pub first-token : (j : TokenKind) (b : Text) → a ≡ 96 ∷ rest a → class i a ≡ c.FirstPiece → Found (PieceToken true) (rest a) j b → Found (TokenAt i) a j b
  first-token j b g e h = record { here = make h.here; best = λ l d s. h.best l d (first-only e s) }
    where
      make : PieceToken true j (rest a) b → TokenAt i j a b
      make w = subst (λ x. TokenAt i x a b) (sym w.1) (at.first_piece g w.2)

  pub first-no : class i a ≡ c.FirstPiece → ((j : TokenKind) (b : Text) → PieceToken true j (rest a) b → ⊥) → (j : TokenKind) (b : Text) → TokenAt i j a b → ⊥
  first-no e n j b s = n j b (first-only e s)

  pub later-token : (j : TokenKind) (b : Text) → i ≡ true → a ≡ 125 ∷ rest a → class i a ≡ c.LaterPiece → Found (PieceToken false) (rest a) j b → Found (TokenAt i) a j b
  later-token j b t g e h = record { here = make h.here; best = λ l d s. h.best l d (later-only e s) }
    where
      make : PieceToken false j (rest a) b → TokenAt i j a b
      make w = subst (λ x. TokenAt i x a b) (sym w.1) (at.later_piece t g w.2)

  pub later-no : class i a ≡ c.LaterPiece → ((j : TokenKind) (b : Text) → PieceToken false j (rest a) b → ⊥) → (j : TokenKind) (b : Text) → TokenAt i j a b → ⊥
  later-no e n j b s = n j b (later-only e s)

-- the piece that is found, as a token
pub piece-token : (o : Bool) (x us b : Text) (f : Bool) → Found TemplatePiece x (us, f) b → Found (PieceToken o) x (k.Template us o f) b
piece-token o x us b f h = record { here = ((us, f), refl, h.here); best = best }
  where
    best : (j : TokenKind) (c : Text) → PieceToken o j x c → (length b < length c) ⊎ ((j ≡ k.Template us o f) × (c ≡ b))
    best j c w = elim (h.best w.0 c w.2) [ inl g ↦ inl g | inr g ↦ inr (w.1 ∙ ap (λ (v : Text × Bool). k.Template v.0 o v.1) g.0, g.1) ]

pub piece-no : (o : Bool) (x : Text) → ((v : Text × Bool) (b : Text) → TemplatePiece v x b → ⊥) → (j : TokenKind) (b : Text) → PieceToken o j x b → ⊥
piece-no o x n j b w = n w.0 b w.2

-- what the class of a piece tells
abbrev Told : Bool → Text → Class → Type 0
Told i a c.FirstPiece = a ≡ 96 ∷ rest a
Told i a c.LaterPiece = (i ≡ true) × (a ≡ 125 ∷ rest a)
Told i a _ = Unit {0}

told : (i : Bool) (a : Text) → Told i a (class i a)
unfolding class
told i [] = tt
told i (u ∷ a) = by (is_digit u) (is_quote u) (u == 96) refl (u == 125) refl i refl (is_sign_unit u)
  where
    by : (d q : Bool) → (h : Bool) → (u == 96) ≡ h → (t : Bool) → (u == 125) ≡ t → (j : Bool) → i ≡ j → (s : Bool)
        → Told i (u ∷ a) (if d then c.Number else (if q then c.Text else (if h then c.FirstPiece else (if t && j then c.LaterPiece else (if s then c.Sign else c.Word)))))
    by true q h e t f j g s = tt
    by false true h e t f j g s = tt
    by false false true e t f j g s = ap (λ x. x ∷ a) (equal u 96 e)
    by false false false e true f true g s = (g, ap (λ x. x ∷ a) (equal u 125 f))
    by false false false e true f false g true = tt
    by false false false e true f false g false = tt
    by false false false e false f j g true = tt
    by false false false e false f j g false = tt

pub first-told : (i : Bool) (a : Text) → class i a ≡ c.FirstPiece → a ≡ 96 ∷ rest a
first-told i a e = subst (Told i a) e (told i a)

pub later-told : (i : Bool) (a : Text) → class i a ≡ c.LaterPiece → (i ≡ true) × (a ≡ 125 ∷ rest a)
later-told i a e = subst (Told i a) e (told i a)

-- ---- what is read of a piece is what is read of a token

pub first-scans : {E : Type 0} (i : Bool) (a : Text) (r : Result (Option TokenKind) E) (b : Text) → class i a ≡ c.FirstPiece
    → Scans (PieceToken true) (rest a) r b → Scans (TokenAt i) a r b
first-scans i a (Ok (Some j)) b e h = first-token i a j b (first-told i a e) e h
first-scans i a (Ok None) b e h = first-no i a e h
first-scans i a (Err x) b e h = tt

pub later-scans : {E : Type 0} (i : Bool) (a : Text) (r : Result (Option TokenKind) E) (b : Text) → class i a ≡ c.LaterPiece
    → Scans (PieceToken false) (rest a) r b → Scans (TokenAt i) a r b
later-scans i a (Ok (Some j)) b e h = let t = later-told i a e in later-token i a j b t.0 t.1 e h
later-scans i a (Ok None) b e h = later-no i a e h
later-scans i a (Err x) b e h = tt
