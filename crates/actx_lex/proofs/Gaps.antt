-- Gaps: the longest is the only one that no more gap follows.
use Rattle.std.proofs.Common.{◌≡◌, ◌≤◌, Bool, false, ◌||◌, length, Some, None, refl, sym, ap, ◌∙◌, subst, arith}
use Rattle.actx_lex.specs.Units.{Text}
use Rattle.actx_lex.specs.Gaps.{Gap, none, more}
use Rattle.actx_lex.specs.Readers.{gap_item}
use Rattle.actx_lex.proofs.Basics.{one_some, none_some, or-assoc, or-false}
use Rattle.actx_lex.proofs.GapItems.{item-told, item-read, shorter}

pub gap-short : {e : Bool} {a b : Text} → Gap e a b → length b ≤ length a
gap-short none = omega arith
gap-short (more {a = a} {m = m} r g) = let h = gap-short g in let s = shorter a m (item-told r) in omega arith

pub same_gap : {i e : Bool} {a m n : Text} → Gap i a m → gap_item m ≡ None → Gap e a n → gap_item n ≡ None → (i ≡ e) × (m ≡ n)
same_gap none p none q = (refl, refl)
same_gap none p (more s g) q = none_some p (item-told s)
same_gap (more r f) p none q = none_some q (item-told r)
same_gap (more {i = i} {e = y} r f) p (more {i = j} {e = e} {b = n} s g) q =
    let one = one_some (item-told r) (item-told s) in
    let both = same_gap f p (subst (λ x. Gap e x n) (sym (ap (λ (x : Bool × Text). x.1) one)) g) q in
    (ap (λ x. x || y) (ap (λ (x : Bool × Text). x.0) one) ∙ ap (λ x. j || x) both.0, both.1)

pub longest_gap : {i e : Bool} {a m c : Text} → Gap i a m → gap_item m ≡ None → Gap e a c → length m ≤ length c
longest_gap f p none = gap-short f
longest_gap none p (more s g) = none_some p (item-told s)
longest_gap (more r f) p (more {e = e} {b = n} s g) =
    longest_gap f p (subst (λ x. Gap e x n) (sym (ap (λ (x : Bool × Text). x.1) (one_some (item-told r) (item-told s)))) g)

-- whatever gap goes on from here is one from the start
abbrev pub Goes : Text → Bool → Text → Type 0
Goes start line a = (e : Bool) (b : Text) → Gap e a b → Gap (line || e) start b

pub goes_on : {start : Text} {i : Bool} (line : Bool) (a m : Text) → Goes start line a → gap_item a ≡ Some (i, m) → Goes start (line || i) m
goes_on {start = start} {i = i} line a m g r e b h = subst (λ x. Gap x start b) (or-assoc line i e) (g _ b (more (item-read a r) h))

pub ends_here : {start : Text} (line : Bool) {a : Text} → Goes start line a → Gap line start a
ends_here {start = start} line {a = a} g = subst (λ x. Gap x start a) (or-false line) (g false a none)
