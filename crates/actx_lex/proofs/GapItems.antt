-- The reader of one white space, line end or comment reads what the definition says.
use Rattle.std.proofs.Common.{◌≡◌, ℕ, ◌<◌, ◌≤◌, ◌⊎◌, inl, inr, Bool, true, false, ◌&&◌, ◌||◌, ◌==◌, [], ◌∷◌, ◌++◌, length, Option, Some, None, refl, sym, ap, ◌∙◌, subst, arith, codes}
use Rattle.std.specs.Prelude.{if◌then◌else◌}
use Rattle.actx_lex.specs.Units.{Text, begins, rest, is_line_end, is_white_space}
use Rattle.actx_lex.specs.Gaps.{holds_line_end, at_line_end, RestOfLine, rest_of_line, Lacks, GapItem, white_space, line_end, line_comment, block_comment, Opened, hashbang, plain}
use Rattle.actx_lex.specs.Readers.{to_line_end, to_star, comment, gap_item, opened}
use Rattle.actx_lex.proofs.Basics.{one_some, none_some, equal, both, neither, true_false, or-assoc, or-false, begins-rest, rest-short, Short, short, weaken, if_short}

-- ---- the rest of a line

to_line_end-here : (b : Text) → at_line_end b ≡ true → to_line_end b ≡ b
unfolding to_line_end
to_line_end-here [] h = refl
to_line_end-here (c ∷ b) h = rw h refl

to_line_end-append : (us b : Text) → holds_line_end us ≡ false → at_line_end b ≡ true → to_line_end (us ++ b) ≡ b
unfolding to_line_end
to_line_end-append [] b h g = to_line_end-here b g
to_line_end-append (c ∷ us) b h g =
    let n = neither (is_line_end c) (holds_line_end us) h in
    rw n.0 (to_line_end-append us b n.1 g)

pub line-told : {a b : Text} → RestOfLine a b → to_line_end a ≡ b
line-told (rest_of_line us {b = b} e h g) = ap to_line_end e ∙ to_line_end-append us b h g

pub line-read : (a : Text) → RestOfLine a (to_line_end a)
unfolding to_line_end
line-read [] = rest_of_line [] refl refl refl
line-read (c ∷ a) = by (is_line_end c) refl (line-read a)
  where
    by : (t : Bool) → is_line_end c ≡ t → RestOfLine a (to_line_end a) → RestOfLine (c ∷ a) (if t then c ∷ a else to_line_end a)
    by true h r = rest_of_line [] refl refl h
    by false h (rest_of_line us e g k) = rest_of_line (c ∷ us) (ap (λ x. c ∷ x) e) (rw h g) k

pub to_line_end-short : (a : Text) → length (to_line_end a) ≤ length a
unfolding to_line_end
to_line_end-short [] = omega arith
to_line_end-short (c ∷ a) = let h = to_line_end-short a in by h (is_line_end c)
  where
    by : length (to_line_end a) ≤ length a → (t : Bool) → length (if t then c ∷ a else to_line_end a) ≤ length (c ∷ a)
    by h true = omega arith
    by h false = omega arith

-- ---- up to the first "*/"

pub record Star (line : Bool) (a : Text) (e : Bool) (b : Text) : Type 0 where
  pub units : Text
  pub parts : a ≡ units ++ (42 ∷ 47 ∷ b)
  pub lacks : Lacks (42 ∷ 47 ∷ []) units
  pub lines : e ≡ (line || holds_line_end units)

lacks_nil : Lacks (42 ∷ 47 ∷ []) []
lacks_nil [] y e = Prim.absurd (cc)
lacks_nil (d ∷ x) y e = Prim.absurd (cc)

tail : Text → Text
tail [] = []
tail (c ∷ a) = a

head : Text → ℕ
head [] = 0
head (c ∷ a) = c

lacks_more : (c : ℕ) (us b : Text) → ((c == 42) && begins 47 (us ++ (42 ∷ 47 ∷ b))) ≡ false → Lacks (42 ∷ 47 ∷ []) us → Lacks (42 ∷ 47 ∷ []) (c ∷ us)
unfolding head tail
lacks_more c us b h l [] y e =
    let p : c ≡ 42 = ap head e in
    let q : us ≡ 47 ∷ y = ap tail e in
    let t : ((c == 42) && begins 47 (us ++ (42 ∷ 47 ∷ b))) ≡ true = rw p (rw q refl) in
    true_false t h
lacks_more c us b h l (d ∷ x) y e = l x y (ap tail e)

lacks_less : (c : ℕ) (us : Text) → Lacks (42 ∷ 47 ∷ []) (c ∷ us) → Lacks (42 ∷ 47 ∷ []) us
lacks_less c us l x y e = l (c ∷ x) y (ap (λ z. c ∷ z) e)

star-read : (line : Bool) (a : Text) (e : Bool) (b : Text) → to_star line a ≡ Some (e, b) → Star line a e b
unfolding to_star
star-read line [] e b h = none_some refl h
star-read line (c ∷ a) e b h = let deep = star-read (line || is_line_end c) a e b in by deep ((c == 42) && begins 47 a) refl h
  where
    more : ((c == 42) && begins 47 a) ≡ false → Star (line || is_line_end c) a e b → Star line (c ∷ a) e b
    more k s = record {
      units = c ∷ s.units;
      parts = ap (λ x. c ∷ x) s.parts;
      lacks = lacks_more c s.units b (ap (λ x. (c == 42) && begins 47 x) (sym s.parts) ∙ k) s.lacks;
      lines = s.lines ∙ sym (or-assoc line (is_line_end c) (holds_line_end s.units));
    }

    here : ((c == 42) && begins 47 a) ≡ true → Star line (c ∷ a) line (rest a)
    here k =
        let g = both (c == 42) (begins 47 a) k in
        record {
          units = [];
          parts = ap (λ x. x ∷ a) (equal c 42 g.0) ∙ ap (λ x. 42 ∷ x) (begins-rest 47 a g.1);
          lacks = lacks_nil;
          lines = sym (or-false line);
        }

    by : (to_star (line || is_line_end c) a ≡ Some (e, b) → Star (line || is_line_end c) a e b) → (t : Bool) → ((c == 42) && begins 47 a) ≡ t
        → (if◌then◌else◌ {A = Option (Bool × Text)} t (Some (line, rest a)) (to_star (line || is_line_end c) a)) ≡ Some (e, b) → Star line (c ∷ a) e b
    by deep true k h = subst (λ (x : Bool × Text). Star line (c ∷ a) x.0 x.1) (one_some refl h) (here k)
    by deep false k h = more k (deep h)

no_star : (c : ℕ) (us b : Text) → Lacks (42 ∷ 47 ∷ []) (c ∷ us) → ((c == 42) && begins 47 (us ++ (42 ∷ 47 ∷ b))) ≡ false
no_star c [] b l = by (c == 42)
  where
    by : (t : Bool) → (t && false) ≡ false
    by true = refl
    by false = refl
no_star c (d ∷ us) b l = by (c == 42) refl (d == 47) refl
  where
    by : (t : Bool) → (c == 42) ≡ t → (u : Bool) → (d == 47) ≡ u → (t && u) ≡ false
    by false p u q = refl
    by true p false q = refl
    by true p true q = Prim.absurd (l [] us (ap (λ x. x ∷ d ∷ us) (equal c 42 p) ∙ ap (λ x. 42 ∷ x ∷ us) (equal d 47 q)))

to_star-append : (line : Bool) (us b : Text) → Lacks (42 ∷ 47 ∷ []) us → to_star line (us ++ (42 ∷ 47 ∷ b)) ≡ Some (line || holds_line_end us, b)
unfolding to_star
to_star-append line [] b l = ap (λ x. Some (x, b)) (sym (or-false line))
to_star-append line (c ∷ us) b l =
    rw (no_star c us b l)
    (to_star-append (line || is_line_end c) us b (lacks_less c us l) ∙ ap (λ x. Some (x, b)) (sym (or-assoc line (is_line_end c) (holds_line_end us))))

-- ---- one item

line_cases : (c : ℕ) → is_line_end c ≡ true → (c ≡ 10) ⊎ (c ≡ 13) ⊎ (c ≡ 0x2028) ⊎ (c ≡ 0x2029)
line_cases c h = by (c == 10) refl (c == 13) refl (c == 0x2028) refl (c == 0x2029) refl h
  where
    by : (t : Bool) → (c == 10) ≡ t → (u : Bool) → (c == 13) ≡ u → (v : Bool) → (c == 0x2028) ≡ v → (w : Bool) → (c == 0x2029) ≡ w
        → (((t || u) || v) || w) ≡ true → (c ≡ 10) ⊎ (c ≡ 13) ⊎ (c ≡ 0x2028) ⊎ (c ≡ 0x2029)
    by true p u q v r w s h = inl (equal c 10 p)
    by false p true q v r w s h = inr (inl (equal c 13 q))
    by false p false q true r w s h = inr (inr (inl (equal c 0x2028 r)))
    by false p false q false r true s h = inr (inr (inr (equal c 0x2029 s)))
    by false p false q false r false s h = Prim.absurd (cc)

-- a fact of each line end is one of every line end
pub at_each_line_end : (P : ℕ → Type 0) → P 10 → P 13 → P 0x2028 → P 0x2029 → (c : ℕ) → is_line_end c ≡ true → P c
at_each_line_end P w x y z c h = elim (line_cases c h) [
  | inl e ↦ subst P (sym e) w
  | inr f ↦ elim f [ inl e ↦ subst P (sym e) x | inr g ↦ elim g [ inl e ↦ subst P (sym e) y | inr e ↦ subst P (sym e) z ] ]
]

white_no_line : (c : ℕ) → is_white_space c ≡ true → is_line_end c ≡ false
white_no_line c h = by (is_line_end c) refl
  where
    none : (c : ℕ) → is_line_end c ≡ true → is_white_space c ≡ false
    none = at_each_line_end (λ c. is_white_space c ≡ false) refl refl refl refl

    by : (t : Bool) → is_line_end c ≡ t → t ≡ false
    by true e = true_false h (none c e)
    by false e = refl

pub item-told : {e : Bool} {a b : Text} → GapItem e a b → gap_item a ≡ Some (e, b)
unfolding gap_item
item-told (white_space {c = c} {b = b} e h) = ap gap_item e ∙ rw (white_no_line c h) (rw h refl)
item-told (line_end {c = c} {b = b} e h) = ap gap_item e ∙ rw h refl
item-told (line_comment {m = m} {b = b} e r) = ap gap_item e ∙ ap (λ x. Some (false, x)) (line-told r)
item-told (block_comment us {b = b} e l) = ap gap_item e ∙ to_star-append false us b l

comment-read : (a : Text) (e : Bool) (b : Text) → comment a ≡ Some (e, b) → GapItem e (47 ∷ a) b
comment-read [] e b h = none_some refl h
comment-read (c ∷ a) e b h = by (c == 47) refl (c == 42) refl h
  where
    star : c ≡ 42 → Star false a e b → GapItem e (47 ∷ c ∷ a) b
    star k s = subst (λ x. GapItem x (47 ∷ c ∷ a) b) (sym s.lines) (block_comment s.units (ap (λ x. 47 ∷ x ∷ a) k ∙ ap (λ x. 47 ∷ 42 ∷ x) s.parts) s.lacks)

    by : (t : Bool) → (c == 47) ≡ t → (u : Bool) → (c == 42) ≡ u
        → (if◌then◌else◌ {A = Option (Bool × Text)} t (Some (false, to_line_end a)) (if u then to_star false a else None)) ≡ Some (e, b) → GapItem e (47 ∷ c ∷ a) b
    by true p u q h = subst (λ (x : Bool × Text). GapItem x.0 (47 ∷ c ∷ a) x.1) (one_some refl h) (line_comment (ap (λ x. 47 ∷ x ∷ a) (equal c 47 p)) (line-read a))
    by false p true q h = star (equal c 42 q) (star-read false a e b h)
    by false p false q h = none_some refl h

pub item-read : (a : Text) {e : Bool} {b : Text} → gap_item a ≡ Some (e, b) → GapItem e a b
unfolding gap_item
item-read [] h = none_some refl h
item-read (c ∷ a) {e} {b} h = by (is_line_end c) refl (is_white_space c) refl (c == 47) refl h
  where
    by : (t : Bool) → is_line_end c ≡ t → (u : Bool) → is_white_space c ≡ u → (v : Bool) → (c == 47) ≡ v
        → (if◌then◌else◌ {A = Option (Bool × Text)} t (Some (true, a)) (if u then Some (false, a) else (if v then comment a else None))) ≡ Some (e, b) → GapItem e (c ∷ a) b
    by true p u q v r h = subst (λ (x : Bool × Text). GapItem x.0 (c ∷ a) x.1) (one_some refl h) (line_end refl p)
    by false p true q v r h = subst (λ (x : Bool × Text). GapItem x.0 (c ∷ a) x.1) (one_some refl h) (white_space refl q)
    by false p false q true r h = subst (λ x. GapItem e (x ∷ a) b) (sym (equal c 47 r)) (comment-read a e b h)
    by false p false q false r h = none_some refl h

-- ---- a comment at the start

pub opened-told : {a b : Text} → Opened a b → opened a ≡ b
unfolding opened
opened-told (hashbang e r) = ap opened e ∙ line-told r
opened-told (plain {a = a} n) = by a n
  where
    by : (a : Text) → ((m : Text) → a ≡ codes "#!" ++ m → ⊥) → opened a ≡ a
    by [] n = refl
    by (c ∷ a) n = last ((c == 35) && begins 33 a) refl
      where
        last : (t : Bool) → ((c == 35) && begins 33 a) ≡ t → (if t then to_line_end (rest a) else c ∷ a) ≡ c ∷ a
        last true h =
            let g = both (c == 35) (begins 33 a) h in
            Prim.absurd (n (rest a) (ap (λ x. x ∷ a) (equal c 35 g.0) ∙ ap (λ x. 35 ∷ x) (begins-rest 33 a g.1)))
        last false h = refl

pub opened-read : (a : Text) → Opened a (opened a)
unfolding opened head tail
opened-read [] = plain (λ m e. cc)
opened-read (c ∷ a) = by ((c == 35) && begins 33 a) refl
  where
    by : (t : Bool) → ((c == 35) && begins 33 a) ≡ t → Opened (c ∷ a) (if t then to_line_end (rest a) else c ∷ a)
    by true h =
        let g = both (c == 35) (begins 33 a) h in
        hashbang (ap (λ x. x ∷ a) (equal c 35 g.0) ∙ ap (λ x. 35 ∷ x) (begins-rest 33 a g.1)) (line-read (rest a))
    by false h = plain (λ m e. (let p : c ≡ 35 = ap head e in let q : a ≡ 33 ∷ m = ap tail e in let t : ((c == 35) && begins 33 a) ≡ true = rw p (rw q refl) in true_false t h))

pub opened-short : (a : Text) → length (opened a) ≤ length a
unfolding opened
opened-short [] = omega arith
opened-short (c ∷ a) = let r = rest-short a in let l = to_line_end-short (rest a) in by r l ((c == 35) && begins 33 a)
  where
    by : length (rest a) ≤ length a → length (to_line_end (rest a)) ≤ length (rest a) → (t : Bool) → length (if t then to_line_end (rest a) else c ∷ a) ≤ length (c ∷ a)
    by r l true = omega arith
    by r l false = omega arith

-- ---- each item takes units

to_star-short : (line : Bool) (a : Text) → Short a (to_star line a)
unfolding to_star
to_star-short line [] = tt
to_star-short line (c ∷ a) =
    let r = rest-short a in
    if_short {A = Bool} (c ∷ a) ((c == 42) && begins 47 a) (Some (line, rest a)) _ (omega arith) (weaken c a _ (to_star-short (line || is_line_end c) a))

comment-short : (a : Text) → Short a (comment a)
comment-short [] = tt
comment-short (c ∷ a) =
    let l = to_line_end-short a in
    if_short {A = Bool} (c ∷ a) (c == 47) (Some (false, to_line_end a)) _ (omega arith)
    (if_short {A = Bool} (c ∷ a) (c == 42) (to_star false a) None (weaken c a _ (to_star-short false a)) tt)

gap_item-short : (a : Text) → Short a (gap_item a)
unfolding gap_item
gap_item-short [] = tt
gap_item-short (c ∷ a) =
    if_short {A = Bool} (c ∷ a) (is_line_end c) (Some (true, a)) _ (omega arith)
    (if_short {A = Bool} (c ∷ a) (is_white_space c) (Some (false, a)) _ (omega arith)
    (if_short {A = Bool} (c ∷ a) (c == 47) (comment a) None (weaken c a _ (comment-short a)) tt))

pub shorter : (a m : Text) {i : Bool} → gap_item a ≡ Some (i, m) → length m < length a
shorter a m e = short a m _ (gap_item-short _) e
