-- Texts between quotes, and pieces of templates.
use Rattle.std.proofs.Common.{◌≡◌, ℕ, ◌<◌, ◌⊎◌, inr, Bool, true, false, ◌&&◌, ◌||◌, ◌==◌, [], ◌∷◌, ◌++◌, length, Option, Some, None, refl, sym, ap, ◌∙◌, subst, arith}
use Rattle.std.specs.Prelude.{if◌then◌else◌}
use Rattle.std.proofs.lemmas.Bool.Decides.{nat_tests}
use Rattle.actx_lex.specs.declared.element.Element.{Element}
use Rattle.actx_lex.specs.declared.element.Element.TheVariants as el
use Rattle.actx_lex.specs.Units.{Text, begins, rest, past_line_end}
use Rattle.actx_lex.specs.Parts.{Parts}
use Rattle.actx_lex.specs.Texts.{is_quote, is_text_unit, TextPart, unit, escape, QuotedText, quoted}
use Rattle.actx_lex.specs.Templates as t
use Rattle.actx_lex.specs.Templates.{is_template_unit, TemplatePart, piece_end, TemplatePiece, piece}
use Rattle.actx_lex.specs.Readers.{Reading, units_of, escape_at, text_part, template_part, quote_at, end_at}
use Rattle.actx_lex.specs.Scans.{Found}
use Rattle.actx_lex.proofs.Basics.{one_some, none_some, equal, same_unit, both, neither, not_either, not_true, true_false, begins-rest, begins-cons, past_line_end-short, Short, weaken, if_short}
use Rattle.actx_lex.proofs.Escapes.{Told, escape-told, escape-read, escape-short}
use Rattle.actx_lex.proofs.Parts.{Reads, same, parts-short}

-- ---- parts of a text

text-told : (q : ℕ) (us a b : Text) → TextPart q us a b → Told (text_part q a) us b
unfolding text_part
text-told q us a b (unit {c = c} e h) =
    let n = not_either _ (c == 13) h in
    let m = not_either _ (c == 10) n.0 in
    let l = not_either (c == q) (c == 92) m.0 in
    record { element = el.One c; read = ap (text_part q) e ∙ rw l.1 (rw (not_true _ l.0) (rw m.1 (rw n.1 refl))); same = refl }
text-told q us a b (escape {m = m} e d) =
    let t = escape-told d in
    record { element = t.element; read = ap (text_part q) e ∙ t.read; same = t.same }

text-read : (q : ℕ) (v : Element) (a b : Text) → text_part q a ≡ Some (v, b) → TextPart q (units_of v) a b
unfolding text_part
text-read q v [] b h = none_some refl h
text-read q v (c ∷ a) b h = by (c == 92) refl ((c == q) || (c == 10) || (c == 13)) refl h
  where
    plain : (c == 92) ≡ false → ((c == q) || (c == 10) || (c == 13)) ≡ false → is_text_unit q c ≡ true
    plain p r =
        let x = neither ((c == q) || (c == 10)) (c == 13) r in
        let y = neither (c == q) (c == 10) x.0 in
        rw y.0 (rw p (rw y.1 (rw x.1 refl)))

    by : (t : Bool) → (c == 92) ≡ t → (u : Bool) → ((c == q) || (c == 10) || (c == 13)) ≡ u
        → (if◌then◌else◌ {A = Reading} t (escape_at a) (if u then None else Some (el.One c, a))) ≡ Some (v, b) → TextPart q (units_of v) (c ∷ a) b
    by true p u r h = escape (ap (λ x. x ∷ a) (equal c 92 p)) (escape-read v b a h)
    by false p true r h = none_some refl h
    by false p false r h = subst (λ (x : Element × Text). TextPart q (units_of x.0) (c ∷ a) x.1) (one_some refl h) (unit refl (plain p r))

one : (c : ℕ) (u : Element) (a : Text) → Short (c ∷ a) (Some (u, a))
one c u a = omega arith

text_part-short : (q : ℕ) (a : Text) → Short a (text_part q a)
unfolding text_part
text_part-short q [] = tt
text_part-short q (c ∷ a) =
    let i = if_short {A = Element} (c ∷ a) in
    i (c == 92) (escape_at a) _ (weaken c a _ (escape-short a)) (i ((c == q) || (c == 10) || (c == 13)) None _ tt (one c (el.One c) a))

pub text-reads : (q : ℕ) → Reads (TextPart q) (text_part q)
text-reads q = record { told = text-told q; read = text-read q; takes = text_part-short q }

-- ---- parts of a template

template-told : (us a b : Text) → TemplatePart us a b → Told (template_part a) us b
unfolding template_part
template-told us a b (t.unit {c = c} e h) =
    let n = not_either _ ((c == 36) && begins 123 b) h in
    let m = not_either _ (c == 13) n.0 in
    let l = not_either (c == 96) (c == 92) m.0 in
    record { element = el.One c; read = ap template_part e ∙ rw l.1 (rw m.1 (rw (not_true _ l.0) (rw n.1 refl))); same = refl }
template-told us a b (t.carriage_return {m = m} e h) =
    record { element = el.One 10; read = ap template_part e ∙ ap (λ x. Some (el.One 10, x)) (sym h); same = refl }
template-told us a b (t.escape {m = m} e d) =
    let t = escape-told d in
    record { element = t.element; read = ap template_part e ∙ t.read; same = t.same }

template-read : (v : Element) (a b : Text) → template_part a ≡ Some (v, b) → TemplatePart (units_of v) a b
unfolding template_part
template-read v [] b h = none_some refl h
template-read v (c ∷ a) b h = by (c == 92) refl (c == 13) refl ((c == 96) || ((c == 36) && begins 123 a)) refl h
  where
    plain : (c == 92) ≡ false → (c == 13) ≡ false → ((c == 96) || ((c == 36) && begins 123 a)) ≡ false → is_template_unit c a ≡ true
    plain p q r =
        let x = neither (c == 96) ((c == 36) && begins 123 a) r in
        rw x.0 (rw p (rw q (rw x.1 refl)))

    line : (c == 13) ≡ true → TemplatePart (10 ∷ []) (c ∷ a) (past_line_end c a)
    line q = t.carriage_return (ap (λ x. x ∷ a) (equal c 13 q)) (ap (λ x. past_line_end x a) (equal c 13 q))

    by : (w : Bool) → (c == 92) ≡ w → (x : Bool) → (c == 13) ≡ x → (y : Bool) → ((c == 96) || ((c == 36) && begins 123 a)) ≡ y
        → (if◌then◌else◌ {A = Reading} w (escape_at a) (if x then Some (el.One 10, past_line_end c a) else (if y then None else Some (el.One c, a)))) ≡ Some (v, b)
        → TemplatePart (units_of v) (c ∷ a) b
    by true p x q y r h = t.escape (ap (λ x. x ∷ a) (equal c 92 p)) (escape-read v b a h)
    by false p true q y r h = subst (λ (x : Element × Text). TemplatePart (units_of x.0) (c ∷ a) x.1) (one_some refl h) (line q)
    by false p false q true r h = none_some refl h
    by false p false q false r h = subst (λ (x : Element × Text). TemplatePart (units_of x.0) (c ∷ a) x.1) (one_some refl h) (t.unit refl (plain p q r))

template_part-short : (a : Text) → Short a (template_part a)
unfolding template_part
template_part-short [] = tt
template_part-short (c ∷ a) =
    let i = if_short {A = Element} (c ∷ a) in
    let w = past_line_end-short c a in
    i (c == 92) (escape_at a) _ (weaken c a _ (escape-short a))
    (i (c == 13) (Some (el.One 10, past_line_end c a)) _ (omega arith) (i ((c == 96) || ((c == 36) && begins 123 a)) None _ tt (one c (el.One c) a)))

pub template-reads : Reads TemplatePart template_part
template-reads = record { told = template-told; read = template-read; takes = template_part-short }

-- ---- quotes

-- a quote at the front, and what follows it
record Quote (q : ℕ) (a m : Text) : Type 0 where
  parts : a ≡ q ∷ m
  is : is_quote q ≡ true

quote-read : (a m : Text) (q : ℕ) → quote_at a ≡ Some (q, m) → Quote q a m
unfolding quote_at
quote-read [] m q e = none_some refl e
quote-read (c ∷ a) m q e = by (is_quote c) refl e
  where
    by : (t : Bool) → is_quote c ≡ t → (if◌then◌else◌ {A = Option (ℕ × Text)} t (Some (c, a)) None) ≡ Some (q, m) → Quote q (c ∷ a) m
    by true h e =
        let one = one_some refl e in
        record { parts = ap (λ (x : ℕ × Text). x.0 ∷ x.1) one; is = ap is_quote (sym (ap (λ (x : ℕ × Text). x.0) one)) ∙ h }
    by false h e = none_some refl e

pub quote-told : (a m : Text) (q : ℕ) → a ≡ q ∷ m → is_quote q ≡ true → quote_at a ≡ Some (q, m)
unfolding quote_at
quote-told a m q e h = ap quote_at e ∙ rw h refl

no_backslash : (q : ℕ) → is_quote q ≡ true → (q == 92) ≡ false
no_backslash q h = grind (arith, nat_tests)

-- a quote is no part
stops : (q : ℕ) (n b : Text) → is_quote q ≡ true → n ≡ q ∷ b → text_part q n ≡ None
unfolding text_part
stops q n b z e = ap (text_part q) e ∙ rw (no_backslash q z) (rw (same_unit q) refl)

pub quoted-found : (a m n us : Text) (q : ℕ) → quote_at a ≡ Some (q, m) → Parts (TextPart q) us m n → text_part q n ≡ None → begins q n ≡ true → Found QuotedText a us (rest n)
quoted-found a m n us q h d o s = let f = quote-read a m q h in record { here = quoted f.parts f.is d (begins-rest q n s); best = best }
  where
    best : (vs c : Text) → QuotedText vs a c → (length (rest n) < length c) ⊎ ((vs ≡ us) × (c ≡ rest n))
    best vs c (quoted {quote = p} {m = l} {n = k} e g r w) =
        let x = one_some (quote-told a l p e g) h in
        let y = subst (λ (x : ℕ × Text). Parts (TextPart x.0) vs x.1 k) x r in
        let i : p ≡ q = ap (λ (x : ℕ × Text). x.0) x in
        let f = quote-read a m q h in
        let z = same (text-reads q) y (stops q k c f.is (w ∙ ap (λ x. x ∷ c) i)) d o in
        inr (z.0, ap rest (sym w) ∙ ap rest z.1)

pub quoted-none : (a m n us : Text) (q : ℕ) → quote_at a ≡ Some (q, m) → Parts (TextPart q) us m n → text_part q n ≡ None → begins q n ≡ false → (vs c : Text) → QuotedText vs a c → ⊥
quoted-none a m n us q h d o s vs c (quoted {quote = p} {m = l} {n = k} e g r w) =
    let x = one_some (quote-told a l p e g) h in
    let y = subst (λ (x : ℕ × Text). Parts (TextPart x.0) vs x.1 k) x r in
    let i : p ≡ q = ap (λ (x : ℕ × Text). x.0) x in
    let f = quote-read a m q h in
    let u = w ∙ ap (λ x. x ∷ c) i in
    let z = same (text-reads q) y (stops q k c f.is u) d o in
    true_false (ap (begins q) (sym z.1) ∙ begins-cons q k c u) s

pub quoted-other : (a : Text) → quote_at a ≡ None → (vs c : Text) → QuotedText vs a c → ⊥
quoted-other a h vs c (quoted {quote = q} {m = m} e g r w) = none_some h (quote-told a m q e g)

pub quoted-first : {us a b : Text} → QuotedText us a b → (q : ℕ) × (m : Text) × (a ≡ q ∷ m) × (is_quote q ≡ true)
quoted-first (quoted {quote = q} {m = m} e g d w) = (q, m, e, g)

pub quoted-short : {us a b : Text} → QuotedText us a b → length b < length a
quoted-short (quoted {quote = q} e g d w) =
    let x = ap length e in let y = parts-short (text-reads q) d in let z = ap length w in omega arith

pub quoted-only : {a b us : Text} → QuotedText us a b → Found QuotedText a us b
quoted-only (quoted {quote = q} {us = us} {a = a} {m = m} {n = n} {b = b} e g d w) =
    subst (λ x. Found QuotedText a us x) (ap rest w) (quoted-found a m n us q (quote-told a m q e g) d (stops q n b g w) (begins-cons q n b w))

-- ---- the end of a piece

pub end-read : (n b : Text) (e : Bool) → end_at n ≡ Some (e, b) → n ≡ piece_end e ++ b
unfolding end_at
end-read [] b e h = none_some refl h
end-read (c ∷ a) b e h = by (c == 96) refl ((c == 36) && begins 123 a) refl h
  where
    expression : ((c == 36) && begins 123 a) ≡ true → c ∷ a ≡ piece_end false ++ rest a
    expression q = let g = both (c == 36) (begins 123 a) q in ap (λ x. x ∷ a) (equal c 36 g.0) ∙ ap (λ x. 36 ∷ x) (begins-rest 123 a g.1)

    by : (t : Bool) → (c == 96) ≡ t → (u : Bool) → ((c == 36) && begins 123 a) ≡ u
        → (if◌then◌else◌ {A = Option (Bool × Text)} t (Some (true, a)) (if u then Some (false, rest a) else None)) ≡ Some (e, b) → c ∷ a ≡ piece_end e ++ b
    by true p u q h = ap (λ x. x ∷ a) (equal c 96 p) ∙ ap (λ (x : Bool × Text). piece_end x.0 ++ x.1) (one_some refl h)
    by false p true q h = expression q ∙ ap (λ (x : Bool × Text). piece_end x.0 ++ x.1) (one_some refl h)
    by false p false q h = none_some refl h

end-told : (n b : Text) (e : Bool) → n ≡ piece_end e ++ b → end_at n ≡ Some (e, b)
unfolding end_at
end-told n b true h = ap end_at h
end-told n b false h = ap end_at h

-- an end is no part
piece_stops : (n b : Text) (e : Bool) → n ≡ piece_end e ++ b → template_part n ≡ None
unfolding template_part
piece_stops n b true h = ap template_part h
piece_stops n b false h = ap template_part h

pub piece-found : (a n us b : Text) (e : Bool) → Parts TemplatePart us a n → template_part n ≡ None → end_at n ≡ Some (e, b) → Found TemplatePiece a (us, e) b
piece-found a n us b e d o h = record { here = piece d (end-read n b e h); best = best }
  where
    best : (v : Text × Bool) (c : Text) → TemplatePiece v a c → (length b < length c) ⊎ ((v ≡ (us, e)) × (c ≡ b))
    best v c (piece {closes = i} {us = vs} {n = k} g r) =
        let z = same template-reads g (piece_stops k c i r) d o in
        let x = one_some (ap end_at (sym z.1) ∙ end-told k c i r) h in
        inr (ap (λ y. (y, i)) z.0 ∙ ap (λ (y : Bool × Text). (us, y.0)) x, ap (λ (y : Bool × Text). y.1) x)

pub piece-none : (a n us : Text) → Parts TemplatePart us a n → template_part n ≡ None → end_at n ≡ None → (v : Text × Bool) (c : Text) → TemplatePiece v a c → ⊥
piece-none a n us d o h v c (piece {closes = i} {n = k} g r) =
    let z = same template-reads g (piece_stops k c i r) d o in none_some h (ap end_at (sym z.1) ∙ end-told k c i r)

end-short : (e : Bool) (n b : Text) → n ≡ piece_end e ++ b → length b < length n
end-short true n b h = let x = ap length h in omega arith
end-short false n b h = let x = ap length h in omega arith

pub piece-short : {v : Text × Bool} {a b : Text} → TemplatePiece v a b → length b < length a
piece-short (piece {closes = i} {n = n} {b = b} d h) = let s = end-short i n b h in let t = parts-short template-reads d in omega arith

pub piece-only : {a b : Text} {v : Text × Bool} → TemplatePiece v a b → Found TemplatePiece a v b
piece-only (piece {closes = e} {us = us} {a = a} {n = n} {b = b} d h) = piece-found a n us b e d (piece_stops n b e h) (end-told n b e h)
