-- Words: the longest is the only one that no more character goes on with.
use Rattle.std.proofs.Common.{◌≡◌, ℕ, ◌-◌, ◌<◌, ◌≤◌, ◌⊎◌, inl, inr, Bool, true, false, ◌&&◌, not, List, [], ◌∷◌, ◌++◌, length, take, Option, Some, None, refl, sym, ap, ◌∙◌, subst, arith, length-append}
use Rattle.std.specs.Prelude.{if◌then◌else◌, is_none}
use Rattle.actx_lex.specs.Units.{Text, is_high_surrogate, is_low_surrogate, pair_character, first_character, continues_word}
use Rattle.actx_lex.specs.Words.{WordRest, stop, go, Word, word, is_word_part, begins_word_part}
use Rattle.actx_lex.specs.Readers.{fits, fitting, after_character}
use Rattle.actx_lex.specs.Scans.{Found}
use Rattle.actx_lex.proofs.Basics.{one_some, none_some, append-assoc}

-- b ends a
pub record Ends (a b : Text) : Type 0 where
  pub front : Text
  pub parts : a ≡ front ++ b

pub whole : {a : Text} → Ends a a
whole = record { front = []; parts = refl }

pub later : {c : ℕ} {a b : Text} → Ends a b → Ends (c ∷ a) b
later {c = c} e = record { front = c ∷ e.front; parts = ap (λ x. c ∷ x) e.parts }

pub join : {a m b : Text} → Ends a m → Ends m b → Ends a b
join {b = b} d e = record { front = d.front ++ e.front; parts = d.parts ∙ ap (λ x. d.front ++ x) e.parts ∙ append-assoc d.front e.front b }

take-all : {A : Type 0} (us b : List A) (n : ℕ) → n ≡ length us → take n (us ++ b) ≡ us
take-all [] b n e = rw e refl
take-all (x ∷ us) b n e = rw e (ap (λ y. x ∷ y) (take-all us b (length us) refl))

-- what stands before an end is determined
pub front : (a us b : Text) → a ≡ us ++ b → us ≡ take (length a - length b) a
front a us b e =
    let n : length a - length b ≡ length us = let h = ap length e in let g = length-append us b in omega arith in
    sym (take-all us b _ n) ∙ ap (take (length a - length b)) (sym e)

cut : {a b : Text} → Ends a b → a ≡ take (length a - length b) a ++ b
cut {a = a} {b = b} d = d.parts ∙ ap (λ x. x ++ b) (front a d.front b d.parts)

pub not_longer : {a b : Text} → Ends a b → length b ≤ length a
not_longer {b = b} d = let h = ap length d.parts in let g = length-append d.front b in omega arith

-- ---- one character

abbrev After : Text → Option (ℕ × Text) → Type 0
After a None = Unit {0}
After a (Some r) = Ends a r.1 × (length r.1 < length a)

first-after : (a : Text) → After a (first_character a)
unfolding first_character
first-after [] = tt
first-after (c ∷ []) = (later whole, omega arith)
first-after (c ∷ d ∷ a) = by (is_high_surrogate c && is_low_surrogate d)
  where
    by : (t : Bool) → After (c ∷ d ∷ a) (if t then Some (pair_character c d, a) else Some (c, d ∷ a))
    by true = (later (later whole), omega arith)
    by false = (later whole, omega arith)

after : (a m : Text) (c : ℕ) (o : Option (ℕ × Text)) → After a o → o ≡ Some (c, m) → Ends a m × (length m < length a)
after a m c None d e = none_some refl e
after a m c (Some r) d e = subst (λ (x : ℕ × Text). Ends a x.1 × (length x.1 < length a)) (one_some refl e) d

-- what the reader of a character that fits has read
pub record Character (start : Bool) (a m : Text) : Type 0 where
  pub code : ℕ
  pub first : first_character a ≡ Some (code, m)
  pub fit : fits start code ≡ true

pub char-read : (start : Bool) (a m : Text) → after_character start a ≡ Some m → Character start a m
unfolding after_character
char-read start a m h = by (first_character a) refl h
  where
    last : (r : ℕ × Text) → first_character a ≡ Some r → (t : Bool) → fits start r.0 ≡ t → (if◌then◌else◌ {A = Option Text} t (Some r.1) None) ≡ Some m → Character start a m
    last r p true q h = record { code = r.0; first = p ∙ ap (λ x. Some (r.0, x)) (one_some refl h); fit = q }
    last r p false q h = none_some refl h

    by : (o : Option (ℕ × Text)) → first_character a ≡ o → fitting start o ≡ Some m → Character start a m
    by None p h = none_some refl h
    by (Some r) p h = last r p (fits start r.0) refl h

pub char-told : (start : Bool) (a m : Text) (c : ℕ) → first_character a ≡ Some (c, m) → fits start c ≡ true → after_character start a ≡ Some m
unfolding after_character
char-told start a m c p q = ap (fitting start) p ∙ rw q refl

pub char : (s : Bool) (a m : Text) → after_character s a ≡ Some m → Ends a m × (length m < length a)
char s a m h = let r = char-read s a m h in after a m r.code _ (first-after a) r.first

-- ---- words

pub rest-ends : {a b : Text} → WordRest a b → Ends a b
rest-ends stop = whole
rest-ends (go {c = c} {a = a} {m = m} r k d) = join (char false a m (char-told false a m c r k)).0 (rest-ends d)

pub longest_word : {a e c : Text} → WordRest a e → after_character false e ≡ None → WordRest a c → (length e < length c) ⊎ (c ≡ e)
longest_word stop n stop = inr refl
longest_word stop n (go {c = x} {a = a} {m = m} s k d) = none_some n (char-told false a m x s k)
longest_word (go {c = x} {a = a} {m = m} r k f) n stop = let h = (char false a m (char-told false a m x r k)).1 in let g = not_longer (rest-ends f) in inl (omega arith)
longest_word (go r k f) n (go {b = b} s l d) = longest_word f n (subst (λ (x : ℕ × Text). WordRest x.1 b) (one_some s r) d)

abbrev pub FirstOf : Text → Text → Type 0
FirstOf a m = after_character true a ≡ Some m

pub word-first : {us a c : Text} → Word us a c → (m : Text) × FirstOf a m × WordRest m c × (a ≡ us ++ c)
word-first (word {c = c} {a = a} {m = m} e r k d) = (m, char-told true a m c r k, d, e)

pub word-make : (us a m b : Text) → after_character true a ≡ Some m → WordRest m b → a ≡ us ++ b → Word us a b
word-make us a m b h d e = let r = char-read true a m h in word e r.first r.fit d

-- the word that is read
pub found : (a m e us : Text) → after_character true a ≡ Some m → WordRest m e → after_character false e ≡ None → us ≡ take (length a - length e) a → Found Word a us e
found a m e us r d n u = record {
  here = word-make us a m e r d (cut ends ∙ ap (λ x. x ++ e) (sym u));
  best = best;
}
  where
    ends : Ends a e
    ends = join (char true a m r).0 (rest-ends d)

    same : (vs c : Text) → a ≡ vs ++ c → c ≡ e → vs ≡ us
    same vs c p q = front a vs c p ∙ ap (λ x. take (length a - length x) a) q ∙ sym u

    best : (vs c : Text) → Word vs a c → (length e < length c) ⊎ ((vs ≡ us) × (c ≡ e))
    best vs c w =
        let f = word-first w in
        elim (longest_word d n (subst (λ x. WordRest x c) (one_some f.1 r) f.2)) [ inl h ↦ inl h | inr h ↦ inr (same vs c f.3 h, h) ]

pub none_found : (a us c : Text) → after_character true a ≡ None → Word us a c → ⊥
none_found a us c n w = none_some n (word-first w).1

-- whatever goes on from here goes on from the start
abbrev pub Joins : Text → Text → Type 0
Joins start a = (b : Text) → WordRest a b → WordRest start b

pub goes_on : {start : Text} (a m : Text) → Joins start a → after_character false a ≡ Some m → Joins start m
goes_on a m g h b d = let r = char-read false a m h in g b (go r.first r.fit d)

-- a word that a word character follows is not the longest
snoc : {a b m : Text} → WordRest a b → after_character false b ≡ Some m → WordRest a m
snoc {m = m} (stop {a = a}) h = let r = char-read false a m h in go r.first r.fit stop
snoc (go s k d) r = go s k (snoc d r)

pub longer : (a m b n : Text) → after_character true a ≡ Some m → WordRest m b → after_character false b ≡ Some n → Word (take (length a - length n) a) a n × (length n < length b)
longer a m b n r d s =
    let more = snoc d s in
    (word-make _ a m n r more (cut (join (char true a m r).0 (rest-ends more))), (char false b n s).1)

-- no character of a word comes next exactly where the reader finds none
pub part-none : (b : Text) → not (begins_word_part b) ≡ is_none (after_character false b)
unfolding after_character
part-none b = by (first_character b)
  where
    last : (r : ℕ × Text) (t : Bool) → not t ≡ is_none (if◌then◌else◌ {A = Option Text} t (Some r.1) None)
    last r true = refl
    last r false = refl

    by : (o : Option (ℕ × Text)) → not (is_word_part o) ≡ is_none (fitting false o)
    by None = refl
    by (Some r) = last r (continues_word r.0)
