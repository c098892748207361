-- Token lists: what is read so far is the front of every list that goes on so far.
use Rattle.std.proofs.Common.{◌≡◌, ℕ, ◌-◌, ◌<◌, ◌≤◌, ◌⊎◌, inl, inr, Bool, true, false, ◌||◌, List, [], ◌∷◌, ◌++◌, length, None, refl, sym, ap, ◌∙◌, subst, arith}
use Rattle.actx_lex.specs.declared.token.TokenKind.{TokenKind}
use Rattle.actx_lex.specs.declared.token.Token.{Token}
use Rattle.actx_lex.specs.Units.{Text}
use Rattle.actx_lex.specs.Gaps.{Gap}
use Rattle.actx_lex.specs.TokenAt.{TokenAt, Longest}
use Rattle.actx_lex.specs.TokenLists.{Braces, in_template, braces_after, TokensFrom, end, token, SpellsUpTo}
use Rattle.actx_lex.specs.Readers.{gap_item, opened}
use Rattle.actx_lex.specs.Scans.{Found}
use Rattle.actx_lex.proofs.Basics.{append-assoc, append-nil, empty}
use Rattle.actx_lex.proofs.GapItems.{opened-told}
use Rattle.actx_lex.proofs.Gaps.{same_gap, longest_gap, gap-short}
use Rattle.actx_lex.proofs.Classes.{ungapped, token-short}

abbrev pub made : ℕ → Bool → Bool → TokenKind → Text → Text → Token
made n f e j m b = record { kind = j; from = n - length m; to = n - length b; first = f || e }

longest : {i : Bool} {m b : Text} {j : TokenKind} → Found (TokenAt i) m j b → Longest i m b
longest {i} {m} {b} h k c s = elim (h.best k c s) [ inl g ↦ omega arith | inr g ↦ (let e = ap length g.1 in omega arith) ]

-- the token at a place is determined
pub one_token : {i : Bool} {m b c : Text} {j l : TokenKind} → Found (TokenAt i) m j b → TokenAt i l m c → Longest i m c → (l ≡ j) × (c ≡ b)
one_token {i} {m} {b} {c} {j} {l} h s g = elim (h.best l c s) [ inl k ↦ (let x = g j b h.here in Prim.absurd (omega arith)) | inr k ↦ k ]

record Goes (n : ℕ) (s : Braces) (f e : Bool) (m : Text) (j : TokenKind) (b : Text) (ts : List Token) (c : Text) : Type 0 where
  later : List Token
  same : ts ≡ made n f e j m b ∷ later
  on : TokensFrom n (braces_after j s) false later b c

back : {n : ℕ} {s : Braces} {f e : Bool} {a m b c : Text} {j : TokenKind} {ts : List Token}
    → Gap e a m → gap_item m ≡ None → Found (TokenAt (in_template s)) m j b → TokensFrom n s f ts a c → (length b < length c) ⊎ Goes n s f e m j b ts c
back {m = m} {b = b} {c = c} g p h (end d) = let x = longest_gap g p d in let y = token-short h.here in inl (omega arith)
back {n} {s} {f} {e} {a} {m} {b} {c} {j} g p h (token {e = e2} {j = j2} {ts = ts} {m = m2} {b = b2} d r l k) =
    let x = same_gap d (ungapped r) g p in
    let y = one_token h (subst (λ z. TokenAt (in_template s) j2 z b2) x.1 r) (subst (λ z. Longest (in_template s) z b2) x.1 l) in
    inr (record {
      later = ts;
      same = ap (λ z. z ∷ ts) (ap (λ z. made n f z j2 m2 b2) x.0 ∙ ap (λ z. made n f e j2 z b2) x.1 ∙ ap (λ z. made n f e z m b2) y.0 ∙ ap (λ z. made n f e j m z) y.1);
      on = subst (λ z. TokensFrom n (braces_after z s) false ts b c) y.0 (subst (λ z. TokensFrom n (braces_after j2 s) false ts z c) y.1 k);
    })

-- ---- what is read so far

pub record On (n : ℕ) (s : Braces) (f : Bool) (found : List Token) (a : Text) (ts : List Token) (c : Text) : Type 0 where
  pub later : List Token
  pub same : ts ≡ found ++ later
  pub on : TokensFrom n s f later a c

pub record Reached (n : ℕ) (start : Text) (s : Braces) (f : Bool) (found : List Token) (a : Text) : Type 0 where
  pub here : (ts : List Token) (c : Text) → TokensFrom n s f ts a c → TokensFrom n [] true (found ++ ts) start c
  pub all : (ts : List Token) (c : Text) → TokensFrom n [] true ts start c → (length a < length c) ⊎ On n s f found a ts c

pub begin : (n : ℕ) (start : Text) → Reached n start [] true [] start
begin n start = record { here = λ ts c d. d; all = λ ts c d. inr (record { later = ts; same = refl; on = d }) }

pub next : {n : ℕ} {start : Text} {s : Braces} {f e : Bool} {found : List Token} (a m b : Text) {j : TokenKind}
    → Reached n start s f found a → Gap e a m → gap_item m ≡ None → Found (TokenAt (in_template s)) m j b
    → Reached n start (braces_after j s) false (found ++ made n f e j m b ∷ []) b
next {n} {start} {s} {f} {e} {found} a m b {j} r g p h = record { here = here; all = all }
  where
    one : Token
    one = made n f e j m b

    here : (ts : List Token) (c : Text) → TokensFrom n (braces_after j s) false ts b c → TokensFrom n [] true ((found ++ one ∷ []) ++ ts) start c
    here ts c d = subst (λ x. TokensFrom n [] true x start c) (append-assoc found (one ∷ []) ts) (r.here (one ∷ ts) c (token g h.here (longest h) d))

    on : (ts : List Token) (c : Text) → On n s f found a ts c → (length b < length c) ⊎ On n (braces_after j s) false (found ++ one ∷ []) b ts c
    on ts c o = elim (back g p h o.on) [
      | inl k ↦ inl k
      | inr k ↦ inr (record { later = k.later; same = o.same ∙ ap (λ x. found ++ x) k.same ∙ append-assoc found (one ∷ []) k.later; on = k.on })
    ]

    all : (ts : List Token) (c : Text) → TokensFrom n [] true ts start c → (length b < length c) ⊎ On n (braces_after j s) false (found ++ one ∷ []) b ts c
    all ts c d = elim (r.all ts c d) [
      | inl k ↦ (let x = token-short h.here in let z = gap-short g in inl (omega arith))
      | inr o ↦ on ts c o
    ]

-- ---- at the end

pub spells : {n : ℕ} {start a : Text} {s : Braces} {f e : Bool} {found : List Token} (m : Text)
    → Reached n start s f found a → Gap e a m → TokensFrom n [] true found start m
spells {n} {start} {found = found} m r g = subst (λ x. TokensFrom n [] true x start m) (append-nil found) (r.here [] m (end g))

-- where no token comes next, no list goes further
stuck : {n : ℕ} {s : Braces} {f e : Bool} {a m c : Text} {ts : List Token} → Gap e a m → gap_item m ≡ None
    → ((j : TokenKind) (b : Text) → TokenAt (in_template s) j m b → ⊥) → TokensFrom n s f ts a c → (ts ≡ []) × (length m ≤ length c)
stuck g p never (end d) = (refl, longest_gap g p d)
stuck {s = s} g p never (token {j = j} {b = b} d r l k) =
    let x = same_gap d (ungapped r) g p in Prim.absurd (never j b (subst (λ z. TokenAt (in_template s) j z b) x.1 r))

pub no_further : {n : ℕ} {start a : Text} {s : Braces} {f e : Bool} {found : List Token} (m : Text)
    → Reached n start s f found a → Gap e a m → gap_item m ≡ None → ((j : TokenKind) (b : Text) → TokenAt (in_template s) j m b → ⊥)
    → (ts : List Token) (c : Text) → TokensFrom n [] true ts start c → length m ≤ length c
no_further {n} {start} {a} {s} {f} {e} {found} m r g p never ts c d = elim (r.all ts c d) [
  | inl k ↦ (let z = gap-short g in omega arith)
  | inr o ↦ (stuck g p never o.on).1
]

pub nothing : gap_item [] ≡ None
unfolding gap_item
nothing = refl

pub the_list : {n : ℕ} {start a : Text} {s : Braces} {f e : Bool} {found : List Token} (m : Text)
    → Reached n start s f found a → Gap e a m → length m ≡ 0 → (ts : List Token) → TokensFrom n [] true ts start [] → found ≡ ts
the_list {n} {start} {a} {s} {f} {e} {found} m r g z ts d = elim (r.all ts [] d) [
  | inl k ↦ Prim.absurd (omega arith)
  | inr o ↦ (let x = stuck g (none_at m z) (none_spelled m z) o.on in sym (o.same ∙ ap (λ y. found ++ y) x.0 ∙ append-nil found))
]
  where
    none_at : (m : Text) → length m ≡ 0 → gap_item m ≡ None
    none_at [] z = nothing
    none_at (c ∷ m) z = Prim.absurd (omega arith)

    none_spelled : (m : Text) → length m ≡ 0 → (j : TokenKind) (b : Text) → TokenAt (in_template s) j m b → ⊥
    none_spelled m z j b k = let x = token-short k in Prim.absurd (omega arith)

pub step-short : {i e : Bool} {a m b : Text} {j : TokenKind} → Gap e a m → Found (TokenAt i) m j b → length b < length a
step-short g h = let x = gap-short g in let y = token-short h.here in omega arith

pub left-short : {e : Bool} {a m : Text} (n : ℕ) → length a ≤ n → Gap e a m → length m ≤ n
left-short n l g = let x = gap-short g in omega arith

pub all_spelled : {n : ℕ} {start a : Text} {s : Braces} {f e : Bool} {found : List Token} (m : Text)
    → Reached n start s f found a → Gap e a m → length m ≡ 0 → TokensFrom n [] true found start []
all_spelled {n} {start} {found = found} m r g z = subst (λ x. TokensFrom n [] true found start x) (empty m z) (spells m r g)

-- a list that spells a text goes on from where the reading of tokens starts
pub from_start : {text c : Text} {ts : List Token} → SpellsUpTo c ts text → TokensFrom (length text) [] true ts (opened text) c
from_start {text} {c} {ts} d = subst (λ x. TokensFrom (length text) [] true ts x c) (sym (opened-told d.opened)) d.spelled
