-- Parts: all of them up to what isn't one are the only ones.
use Rattle.std.proofs.Common.{◌≡◌, ◌<◌, ◌≤◌, [], ◌++◌, length, Some, None, refl, sym, ap, ◌∙◌, subst, arith}
use Rattle.actx_lex.specs.declared.element.Element.{Element}
use Rattle.actx_lex.specs.Units.{Text}
use Rattle.actx_lex.specs.Parts.{Parts, none, more}
use Rattle.actx_lex.specs.Readers.{Reading, units_of}
use Rattle.actx_lex.proofs.Basics.{one_some, none_some, append-assoc, append-nil, Short, short}
use Rattle.actx_lex.proofs.Escapes.{Told}

-- the function reads the parts that the relation defines
pub record Reads (R : Text → Text → Text → Type 0) (f : Text → Reading) : Type 0 where
  pub told : (us a b : Text) → R us a b → Told (f a) us b
  pub read : (v : Element) (a b : Text) → f a ≡ Some (v, b) → R (units_of v) a b
  pub takes : (a : Text) → Short a (f a)

pub part-short : {R : Text → Text → Text → Type 0} {f : Text → Reading} → Reads R f → {us a b : Text} → R us a b → length b < length a
part-short {f = f} r {us} {a} {b} p = let t = r.told us a b p in short a b (f a) (r.takes a) t.read

pub parts-short : {R : Text → Text → Text → Type 0} {f : Text → Reading} → Reads R f → {us a b : Text} → Parts R us a b → length b ≤ length a
parts-short r none = omega arith
parts-short r (more p d) = let h = part-short r p in let g = parts-short r d in omega arith

pub same : {R : Text → Text → Text → Type 0} {f : Text → Reading} → Reads R f → {us vs a m n : Text}
    → Parts R us a m → f m ≡ None → Parts R vs a n → f n ≡ None → (us ≡ vs) × (m ≡ n)
same r none p none q = (refl, refl)
same r none p (more {us = u} {a = a} {m = m} s d) q = none_some p (r.told u a m s).read
same r (more {us = u} {a = a} {m = m} s d) p none q = none_some q (r.told u a m s).read
same {R} r (more {us = u} {vs = us} {a = a} {m = m} s d) p (more {us = w} {vs = vs} {m = n} {b = b} t e) q =
    let x = r.told u a m s in
    let y = r.told w a n t in
    let one = one_some y.read x.read in
    let both = same r d p (subst (λ (z : Element × Text). Parts R vs z.1 b) one e) q in
    let units : w ≡ u = y.same ∙ ap (λ (z : Element × Text). units_of z.0) one ∙ sym x.same in
    (ap (λ z. u ++ z) both.0 ∙ ap (λ z. z ++ vs) (sym units), both.1)

-- whatever parts go on from here go on from the start
abbrev pub GoesOn : (Text → Text → Text → Type 0) → Text → Text → Text → Type 0
GoesOn R start us a = (vs b : Text) → Parts R vs a b → Parts R (us ++ vs) start b

pub goes_on : {R : Text → Text → Text → Type 0} {f : Text → Reading} → Reads R f → {start : Text} (us ws a m : Text) (v : Element)
    → GoesOn R start us a → f a ≡ Some (v, m) → ws ≡ us ++ units_of v → GoesOn R start ws m
goes_on {R} r {start} us ws a m v g e w vs b d =
    subst (λ x. Parts R x start b) (append-assoc us (units_of v) vs ∙ ap (λ x. x ++ vs) (sym w)) (g _ b (more (r.read v a m e) d))

pub ends_here : {R : Text → Text → Text → Type 0} {start : Text} (us a : Text) → GoesOn R start us a → Parts R us start a
ends_here {R} {start} us a g = subst (λ x. Parts R x start a) (append-nil us) (g [] a none)

pub goes_shorter : {R : Text → Text → Text → Type 0} {f : Text → Reading} → Reads R f → (a m : Text) (v : Element) → f a ≡ Some (v, m) → length m < length a
goes_shorter {f = f} r a m v e = short a m (f a) (r.takes a) e
