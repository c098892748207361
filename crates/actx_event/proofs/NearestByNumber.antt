-- The nearest binding by numbers is the nearest binding on fronts.
use Rattle.std.proofs.Common.{◌≡◌, ℕ, zero, suc, ◌<◌, ◌≤◌, ◌==◌, nat_le, Bool, true, false, ◌&&◌, ◌||◌, List, ◌++◌, length, Option, Some, None, option_to_list, if◌then◌else◌, refl, sym, ap, ap₂, ◌∙◌, subst, arith, eq-eqb}
use Rattle.std.proofs.lemmas.Bool.Decides.{nat_tests}
use Rattle.std.specs.Prelude.{slice_get, option_and_then, unwrap_or}
use Rattle.actx_event.specs.declared.value.Shown.TheVariants.{Undefined}
use Rattle.actx_event.specs.declared.event.Event.{Event}
use Rattle.actx_event.specs.Event.{is_number, switched_off}
use Rattle.actx_event.specs.Front.{Front, front}
use Rattle.actx_event.specs.Walk.{Met, met_binding, epoch, declaration, default_of, left_by_off, met_value, nearest_binding}
use Rattle.actx_event.specs.Numbers.{met_number, is_off_between, value_at, nearest_at}
use Rattle.actx_event.specs.Agreement.{BothOrNeither}
use Rattle.actx_event.proofs.ByNumber.{front_suc, declaration_number}
use Rattle.actx_event.proofs.WalkByNumber.{MetAt, met_agrees}

-- where an off stands between, the later epoch is greater; else both are the same
abbrev Compares : Bool → ℕ → ℕ → Type 0
Compares true m n = m < n
Compares false m n = m ≡ n

or_false : (a b : Bool) → a ≡ false → b ≡ false → (a || b) ≡ false
or_false false b h k = k
or_false true b h k = absurd cc

and_false : (a b : Bool) → a ≡ false → (a && b) ≡ false
and_false false b h = refl
and_false true b h = absurd cc

-- no event stands between a place and an earlier one
none_between : (v : ℕ) (log : List Event) (m p : ℕ) → p ≤ m → is_off_between v log m p ≡ false
none_between v log m zero h = refl
none_between v log m (suc n) h =
    or_false (is_off_between v log m n) _ (none_between v log m n (omega arith)) (and_false (nat_le m n) _ (grind (arith, nat_tests)))

epoch_option : (v : ℕ) (o : Option Event) (es : Front) → epoch v (option_to_list o ++ es) ≡ (if is_number v (option_and_then switched_off o) then suc (epoch v es) else epoch v es)
epoch_option v None es = refl
epoch_option v (Some e) es = refl

compares_next : (a t : Bool) (m n : ℕ) → Compares a m n → Compares (a || t) m (if t then suc n else n)
compares_next true true m n h = omega (arith, h)
compares_next true false m n h = h
compares_next false true m n h = omega (arith, h)
compares_next false false m n h = h

and_true : (a b : Bool) → a ≡ true → (a && b) ≡ b
and_true true b h = refl
and_true false b h = absurd cc

off_next : (t : Bool) (v : ℕ) (log : List Event) (m n : ℕ) → nat_le m n ≡ t → m ≤ suc n → (m ≤ n → Compares (is_off_between v log m n) (epoch v (front log m)) (epoch v (front log n))) → Compares (is_off_between v log m (suc n)) (epoch v (front log m)) (epoch v (front log (suc n)))
off_next true v log m n is h older =
    let le : m ≤ n = grind (arith, nat_tests) in
    let o = slice_get log n in
    let off = is_number v (option_and_then switched_off o) in
    let flag : is_off_between v log m (suc n) ≡ (is_off_between v log m n || off) = ap (λ b. is_off_between v log m n || b) (and_true (nat_le m n) off is) in
    let count : epoch v (front log (suc n)) ≡ (if off then suc (epoch v (front log n)) else epoch v (front log n)) = ap (epoch v) (front_suc log n) ∙ epoch_option v o (front log n) in
    subst (λ b. Compares b (epoch v (front log m)) (epoch v (front log (suc n)))) (sym flag)
    (subst (λ k. Compares (is_off_between v log m n || off) (epoch v (front log m)) k) (sym count) (compares_next (is_off_between v log m n) off _ _ (older le)))
off_next false v log m n is h older =
    let last : m ≡ suc n = grind (arith, nat_tests) in
    subst (λ b. Compares b (epoch v (front log m)) (epoch v (front log (suc n)))) (sym (none_between v log m (suc n) (omega arith))) (ap (λ k. epoch v (front log k)) last)

off_compares : (v : ℕ) (log : List Event) (m p : ℕ) → m ≤ p → Compares (is_off_between v log m p) (epoch v (front log m)) (epoch v (front log p))
off_compares v log m zero h = let start : m ≡ zero = omega arith in ap (λ k. epoch v (front log k)) start
off_compares v log m (suc n) h = off_next (nat_le m n) v log m n refl h (off_compares v log m n)

compares_if : {A : Type 0} (b : Bool) (m n : ℕ) (x y : A) → Compares b m n → (if m == n then x else y) ≡ (if b then y else x)
compares_if {A} true m n x y h = let other : m == n ≡ false = grind (arith, nat_tests) in ap (λ (t : Bool). if t then x else y) other
compares_if {A} false m n x y h = ap (λ (t : Bool). if t then x else y) (eq-eqb m n h)

value_number : (log : List Event) (p v : ℕ) (a : Option ℕ) (b : Option Met) → BothOrNeither (MetAt log v p) a b → met_value b v (front log p) ≡ value_at a log p v
value_number log p v None None h = ap default_of (sym (declaration_number v log p))
value_number log p v (Some n) (Some m) h =
    ap (λ q. if epoch v q == epoch v (front log p) then m.value else left_by_off (declaration v (front log p))) (sym h.place) ∙ (compares_if (is_off_between v log n p) (epoch v (front log n)) (epoch v (front log p)) m.value (left_by_off (declaration v (front log p))) (off_compares v log n p (omega (arith, h.below))) ∙ ap₂ (λ d o. if is_off_between v log n p then left_by_off d else unwrap_or o Undefined) (sym (declaration_number v log p)) (sym h.value))
value_number log p v None (Some m) h = absurd h
value_number log p v (Some n) None h = absurd h

-- the nearest binding, by numbers
pub nearest_agrees : (log : List Event) (p v : ℕ) → p ≤ length log → nearest_binding (front log p) v ≡ nearest_at log p v
nearest_agrees log p v h = value_number log p v (met_number log p v) (met_binding (front log p) v) (met_agrees log p v h)
