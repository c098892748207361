-- The first places of names in a list that grows and is cut.
use Rattle.std.proofs.Common.{◌≡◌, ℕ, zero, suc, ◌+◌, ◌<◌, ◌≤◌, Bool, true, false, ◌||◌, cond, refl, sym, ap, subst, ◌∙◌, List, [], ◌∷◌, ◌++◌, length, take, Option, Some, None, ◌⊎◌, inl, inr, arith}
use Rattle.std.specs.Prelude.{if◌then◌else◌, nat_lt, slice_get, is_some}
use Rattle.std.specs.Global.{Global}
use Rattle.std.specs.declared.vec.Vec.{Vec}
use Rattle.std.proofs.lemmas.Bool.{false≢true, cases_lt, lt-ltb, cases_Bool}
use Rattle.std.proofs.lemmas.Bool.Decides.{nat_tests}
use Rattle.std.proofs.lemmas.List.{length-take, length-append}
use Rattle.std.proofs.lemmas.Option.{slice_get_past}
use Rattle.std.proofs.Math.Seq.{take-nil}
use Rattle.indexmap.specs.IndexMap.{IndexMap}
use Rattle.actx_text.specs.declared.units.Units.{Units}
use Rattle.actx_scope_rules.specs.Words.{same_units, among, is_word}
use Rattle.actx_scope_rules.specs.Tables.{at_name, first_place, held, IsFirst}
use Rattle.actx_scope_rules.proofs.Units.{pointwise-same, same_units-true}
use Rattle.actx_scope_rules.proofs.Tables.{same, put, found, put_found}

-- ---- whether a name is among these

some_first : (b : Bool) (i : ℕ) (rest : Option ℕ) (c : Bool) → c ≡ is_some rest → (b || c) ≡ is_some (if b then Some i else rest)
some_first true i rest c e = refl
some_first false i rest c e = e

pub among_placed : (name : Units) (xs : List Units) (i : ℕ) → among name xs ≡ is_some (first_place name xs i)
unfolding among first_place
among_placed name [] i = refl
among_placed name (x ∷ xs) i = some_first (same_units name x) i (first_place name xs (i + 1)) (among name xs) (among_placed name xs (i + 1))

placed : (b : Bool) (i : ℕ) → is_some (if b then Some i else None) ≡ b
placed true i = refl
placed false i = refl

-- what the map gives tells it
pub has_some : {S : Type 0} (m : IndexMap (Vec ℕ Global) ℕ S) (names : List Units) (name : Units) (i : ℕ) (b : Bool) → IsFirst m names → at_name m name ≡ Some i → b ≡ is_word name (slice_get names i) → b ≡ among name names
has_some m names name i b keeps e is = is ∙ (sym (placed (is_word name (slice_get names i)) i) ∙ (ap (λ z. is_some (held name names z)) (sym e) ∙ (ap is_some (keeps.gives name) ∙ sym (among_placed name names 0))))

pub has_none : {S : Type 0} (m : IndexMap (Vec ℕ Global) ℕ S) (names : List Units) (name : Units) → IsFirst m names → at_name m name ≡ None → false ≡ among name names
has_none m names name keeps e = ap (λ z. is_some (held name names z)) (sym e) ∙ (ap is_some (keeps.gives name) ∙ sym (among_placed name names 0))

-- ---- no names

held_nowhere : (name : Units) (y : Option ℕ) → held name [] y ≡ None
held_nowhere name None = refl
held_nowhere name (Some i) = refl

pub none_first : {S : Type 0} (m : IndexMap (Vec ℕ Global) ℕ S) → IsFirst m []
unfolding first_place
none_first m = record { gives = λ name. held_nowhere name (at_name m name) }

-- ---- items of lists

get-front : (xs ys : List Units) (i : ℕ) → i < length xs → slice_get (xs ++ ys) i ≡ slice_get xs i
get-front [] ys i h = absurd (omega (arith, h))
get-front (x ∷ xs) ys zero h = refl
get-front (x ∷ xs) ys (suc i) h = get-front xs ys i (omega (arith, h))

get-next : (xs : List Units) (x : Units) → slice_get (xs ++ x ∷ []) (length xs) ≡ Some x
get-next [] x = refl
get-next (y ∷ xs) x = get-next xs x

get-take : (c : ℕ) (xs : List Units) (i : ℕ) → i < c → slice_get (take c xs) i ≡ slice_get xs i
get-take zero xs i h = absurd (omega (arith, h))
get-take (suc c) [] i h = ap (λ (z : List Units). slice_get z i) (take-nil (suc c))
get-take (suc c) (x ∷ xs) zero h = refl
get-take (suc c) (x ∷ xs) (suc i) h = get-take c xs i (omega (arith, h))

get-taken : (c : ℕ) (xs : List Units) (i : ℕ) → c ≤ i → slice_get (take c xs) i ≡ None
get-taken c xs i h = slice_get_past (take c xs) i (omega (arith, h, length-take c xs))

-- ---- a list that is cut

abbrev cut : ℕ → Option ℕ → Option ℕ
cut c None = None
cut c (Some i) = if nat_lt i c then Some i else None

cut-within : (c i : ℕ) → i < c → cut c (Some i) ≡ Some i
cut-within c i h = ap (λ (z : Bool). if z then Some i else None) (lt-ltb i c h)

not-below : (c i : ℕ) → c ≤ i → nat_lt i c ≡ false
not-below c i h = grind (arith, nat_tests)

cut-past : (c i : ℕ) → c ≤ i → cut c (Some i) ≡ None
cut-past c i h = ap (λ (z : Bool). if z then Some i else None) (not-below c i h)

cut-held : (b : Bool) (c i : ℕ) → i < c → cut c (if b then Some i else None) ≡ (if b then Some i else None)
cut-held true c i h = cut-within c i h
cut-held false c i h = refl

cut-lost : (b : Bool) (c i : ℕ) → c ≤ i → cut c (if b then Some i else None) ≡ None
cut-lost true c i h = cut-past c i h
cut-lost false c i h = refl

held-cut : (name : Units) (c : ℕ) (xs : List Units) (y : Option ℕ) → held name (take c xs) y ≡ cut c (held name xs y)
held-cut name c xs None = refl
held-cut name c xs (Some i) = elim (cases_lt i c) [
  | inl h ↦ ap (λ z. if is_word name z then Some i else None) (get-take c xs i h) ∙ sym (cut-held (is_word name (slice_get xs i)) c i h)
  | inr h ↦ ap (λ z. if is_word name z then Some i else None) (get-taken c xs i h) ∙ sym (cut-lost (is_word name (slice_get xs i)) c i h)
]

-- no first place lies before the first item
lost_if : (b : Bool) (c i : ℕ) (rest : Option ℕ) → c ≤ i → cut c rest ≡ None → cut c (if b then Some i else rest) ≡ None
lost_if true c i rest h e = cut-past c i h
lost_if false c i rest h e = e

first-past : (name : Units) (xs : List Units) (i c : ℕ) → c ≤ i → cut c (first_place name xs i) ≡ None
unfolding first_place
first-past name [] i c h = refl
first-past name (x ∷ xs) i c h = lost_if (same_units name x) c i (first_place name xs (i + 1)) h (first-past name xs (i + 1) c (omega (arith, h)))

kept_if : (b : Bool) (c i : ℕ) (left rest : Option ℕ) → i < c → left ≡ cut c rest → (if b then Some i else left) ≡ cut c (if b then Some i else rest)
kept_if true c i left rest h e = sym (cut-within c i h)
kept_if false c i left rest h e = e

first-cut : (name : Units) (c : ℕ) (xs : List Units) (i n : ℕ) → n ≡ i + c → first_place name (take c xs) i ≡ cut n (first_place name xs i)
unfolding first_place
first-cut name zero xs i n h = sym (first-past name xs i n (omega (arith, h)))
first-cut name (suc c) [] i n h = ap (λ (z : List Units). first_place name z i) (take-nil (suc c))
first-cut name (suc c) (x ∷ xs) i n h = kept_if (same_units name x) n i (first_place name (take c xs) (i + 1)) (first_place name xs (i + 1)) (omega (arith, h)) (first-cut name c xs (i + 1) n (omega (arith, h)))

pub cut_first : {S : Type 0} (m : IndexMap (Vec ℕ Global) ℕ S) (names left : List Units) (c : ℕ) → IsFirst m names → left ≡ take c names → IsFirst m left
cut_first m names left c keeps e = subst (λ z. IsFirst m z) (sym e) (record { gives = λ name. held-cut name c names (at_name m name) ∙ (ap (λ z. cut c z) (keeps.gives name) ∙ sym (first-cut name c names 0 c (omega arith))) })

-- ---- a list that grows

abbrev or_then : Option ℕ → Option ℕ → Option ℕ
or_then None y = y
or_then (Some x) y = Some x

then_if : (b : Bool) (i : ℕ) (rest more : Option ℕ) (whole : Option ℕ) → whole ≡ or_then rest more → (if b then Some i else whole) ≡ or_then (if b then Some i else rest) more
then_if true i rest more whole e = refl
then_if false i rest more whole e = e

first-more : (name : Units) (xs : List Units) (x : Units) (i n : ℕ) → n ≡ i + length xs → first_place name (xs ++ x ∷ []) i ≡ or_then (first_place name xs i) (if same_units name x then Some n else None)
unfolding first_place
first-more name [] x i n h = let e : i ≡ n = omega (arith, h) in ap (λ z. if same_units name x then Some z else None) e
first-more name (y ∷ xs) x i n h = then_if (same_units name y) i (first_place name xs (i + 1)) (if same_units name x then Some n else None) (first_place name (xs ++ x ∷ []) (i + 1)) (first-more name xs x (i + 1) n (omega (arith, h)))

or_then-none : (x : Option ℕ) → or_then x None ≡ x
or_then-none None = refl
or_then-none (Some i) = refl

lone : (xs : List Units) (x : Units) (i : ℕ) → length xs < i → slice_get (xs ++ x ∷ []) i ≡ None
lone xs x i h = slice_get_past (xs ++ x ∷ []) i (omega (arith, h, length-append xs (x ∷ [])))

other_past : (name : Units) (xs : List Units) (x : Units) (i : ℕ) → same_units name x ≡ false → length xs ≤ i → (length xs < i) ⊎ (i ≤ length xs) → (if is_word name (slice_get (xs ++ x ∷ []) i) then Some i else None) ≡ None
other_past name xs x i e h (inl k) = ap (λ z. if is_word name z then Some i else None) (lone xs x i k)
other_past name xs x i e h (inr k) = let at : length xs ≡ i = omega (arith, h, k) in
    ap (λ z. if is_word name z then Some i else None) (sym (ap (λ z. slice_get (xs ++ x ∷ []) z) at) ∙ get-next xs x) ∙ ap (λ (z : Bool). if z then Some i else None) e

other_at : (name : Units) (xs : List Units) (x : Units) (i : ℕ) → same_units name x ≡ false → (i < length xs) ⊎ (length xs ≤ i) → held name (xs ++ x ∷ []) (Some i) ≡ held name xs (Some i)
other_at name xs x i e (inl h) = ap (λ z. if is_word name z then Some i else None) (get-front xs (x ∷ []) i h)
other_at name xs x i e (inr h) = other_past name xs x i e h (cases_lt (length xs) i) ∙ sym (ap (λ z. if is_word name z then Some i else None) (slice_get_past xs i h))

-- another name: nothing changes
held-other : (name : Units) (xs : List Units) (x : Units) (y : Option ℕ) → same_units name x ≡ false → held name (xs ++ x ∷ []) y ≡ held name xs y
held-other name xs x None e = refl
held-other name xs x (Some i) e = other_at name xs x i e (cases_lt i (length xs))

lost : (name : Units) (xs : List Units) (i : ℕ) → length xs ≤ i → held name xs (Some i) ≡ None
lost name xs i h = ap (λ z. if is_word name z then Some i else None) (slice_get_past xs i h)

-- a name that stands here stands here still
still_at : (name : Units) (xs : List Units) (x : Units) (i : ℕ) → is_some (held name xs (Some i)) ≡ true → (i < length xs) ⊎ (length xs ≤ i) → held name (xs ++ x ∷ []) (Some i) ≡ held name xs (Some i)
still_at name xs x i e (inl h) = ap (λ z. if is_word name z then Some i else None) (get-front xs (x ∷ []) i h)
still_at name xs x i e (inr h) = absurd (false≢true (sym (ap is_some (lost name xs i h)) ∙ e))

still : (name : Units) (xs : List Units) (x : Units) (y : Option ℕ) → is_some (held name xs y) ≡ true → held name (xs ++ x ∷ []) y ≡ held name xs y
still name xs x None e = refl
still name xs x (Some i) e = still_at name xs x i e (cases_lt i (length xs))

or_then-some : (o more : Option ℕ) → is_some o ≡ true → or_then o more ≡ o
or_then-some None more e = absurd (false≢true e)
or_then-some (Some i) more e = refl

none_of : (o : Option ℕ) → is_some o ≡ false → o ≡ None
none_of None e = refl
none_of (Some i) e = absurd (false≢true (sym e))

-- the first place of a name behind one more name
first_behind : (name : Units) (xs : List Units) (x : Units) (b : Bool) → same_units name x ≡ b → first_place name (xs ++ x ∷ []) 0 ≡ or_then (first_place name xs 0) (if b then Some (length xs) else None)
first_behind name xs x b s = first-more name xs x 0 (length xs) (omega arith) ∙ ap (λ (z : Bool). or_then (first_place name xs 0) (if z then Some (length xs) else None)) s

-- whether a name has a first place, from another of the same units
as_among : (name : Units) (xs : List Units) (x : Units) (b : Bool) → same_units name x ≡ true → b ≡ among x xs → is_some (first_place name xs 0) ≡ b
as_among name xs x b s e = sym (among_placed name xs 0) ∙ (ap (λ z. among z xs) (same_units-true name x s) ∙ sym e)

module _ {S : Type 0} where
  known_at : (m : IndexMap (Vec ℕ Global) ℕ S) (xs : List Units) (x name : Units) → IsFirst m xs → true ≡ among x xs → (same_units name x ≡ true) ⊎ (same_units name x ≡ false)
      → held name (xs ++ x ∷ []) (at_name m name) ≡ first_place name (xs ++ x ∷ []) 0
  known_at m xs x name keeps e (inl s) = let is : is_some (first_place name xs 0) ≡ true = as_among name xs x true s e in
      still name xs x (at_name m name) (ap is_some (keeps.gives name) ∙ is) ∙ (keeps.gives name ∙ sym (first_behind name xs x true s ∙ or_then-some (first_place name xs 0) (Some (length xs)) is))
  known_at m xs x name keeps e (inr s) = held-other name xs x (at_name m name) s ∙ (keeps.gives name ∙ sym (first_behind name xs x false s ∙ or_then-none (first_place name xs 0)))

  -- a name that is among these stands behind them too
  pub known_first : (m : IndexMap (Vec ℕ Global) ℕ S) (xs : List Units) (x : Units) → IsFirst m xs → true ≡ among x xs → IsFirst m (xs ++ x ∷ [])
  known_first m xs x keeps e = record { gives = λ name. known_at m xs x name keeps e (cases_Bool (same_units name x)) }

  at_put : (m n : IndexMap (Vec ℕ Global) ℕ S) (key : Vec ℕ Global) (x name : Units) (i : ℕ) (b : Bool) → key.items ≡ x → n.entries ≡ put m.entries key i → same_units name x ≡ b → at_name n name ≡ cond b (Some i) (at_name m name)
  at_put m n key x name i b k e s = ap (λ z. found name z) e ∙ (put_found m.entries key i name ∙ ap (λ z. cond z (Some i) (found name m.entries)) (ap (λ z. same name z) k ∙ (pointwise-same name x ∙ s)))

  same_at : (m n : IndexMap (Vec ℕ Global) ℕ S) (xs : List Units) (x name : Units) (key : Vec ℕ Global) → IsFirst m xs → false ≡ among x xs → key.items ≡ x → n.entries ≡ put m.entries key (length xs)
      → (same_units name x ≡ true) ⊎ (same_units name x ≡ false) → held name xs (at_name n name) ≡ first_place name xs 0
  same_at m n xs x name key keeps e k p (inl s) = ap (λ z. held name xs z) (at_put m n key x name (length xs) true k p s)
      ∙ (lost name xs (length xs) (omega arith) ∙ sym (none_of (first_place name xs 0) (as_among name xs x false s e)))
  same_at m n xs x name key keeps e k p (inr s) = ap (λ z. held name xs z) (at_put m n key x name (length xs) false k p s) ∙ keeps.gives name

  -- the place behind these is put at a name that isn't among them
  pub put_same : (m n : IndexMap (Vec ℕ Global) ℕ S) (xs : List Units) (x : Units) (key : Vec ℕ Global) → IsFirst m xs → false ≡ among x xs → key.items ≡ x → n.entries ≡ put m.entries key (length xs) → IsFirst n xs
  put_same m n xs x key keeps e k p = record { gives = λ name. same_at m n xs x name key keeps e k p (cases_Bool (same_units name x)) }

  more_at : (m n : IndexMap (Vec ℕ Global) ℕ S) (xs : List Units) (x name : Units) (key : Vec ℕ Global) → IsFirst m xs → false ≡ among x xs → key.items ≡ x → n.entries ≡ put m.entries key (length xs)
      → (same_units name x ≡ true) ⊎ (same_units name x ≡ false) → held name (xs ++ x ∷ []) (at_name n name) ≡ first_place name (xs ++ x ∷ []) 0
  more_at m n xs x name key keeps e k p (inl s) = ap (λ z. held name (xs ++ x ∷ []) z) (at_put m n key x name (length xs) true k p s)
      ∙ (ap (λ z. if is_word name z then Some (length xs) else None) (get-next xs x)
      ∙ (ap (λ (z : Bool). if z then Some (length xs) else None) s
      ∙ sym (first_behind name xs x true s ∙ ap (λ z. or_then z (Some (length xs))) (none_of (first_place name xs 0) (as_among name xs x false s e)))))
  more_at m n xs x name key keeps e k p (inr s) = ap (λ z. held name (xs ++ x ∷ []) z) (at_put m n key x name (length xs) false k p s)
      ∙ (held-other name xs x (at_name m name) s ∙ (keeps.gives name ∙ sym (first_behind name xs x false s ∙ or_then-none (first_place name xs 0))))

  -- and the name stands there
  pub put_more : (m n : IndexMap (Vec ℕ Global) ℕ S) (xs : List Units) (x : Units) (key : Vec ℕ Global) → IsFirst m xs → false ≡ among x xs → key.items ≡ x → n.entries ≡ put m.entries key (length xs) → IsFirst n (xs ++ x ∷ [])
  put_more m n xs x key keeps e k p = record { gives = λ name. more_at m n xs x name key keeps e k p (cases_Bool (same_units name x)) }
