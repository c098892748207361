-- What a search finds at a place, it finds at each later one.
use Rattle.std.proofs.Common.{◌≡◌, ℕ, zero, suc, ◌<◌, ◌≤◌, ◌==◌, nat_le, Bool, true, false, ◌&&◌, ◌||◌, List, Option, Some, None, if◌then◌else◌, refl, sym, ap, ap₂, ◌∙◌, arith, eq-eqb}
use Rattle.std.proofs.lemmas.Bool.Decides.{nat_tests}
use Rattle.std.specs.Prelude.{slice_get, option_and_then, option_map, unwrap_or}
use Rattle.std.specs.Option.{option_or}
use Rattle.std.specs.Prelude.{IfOk}
use Rattle.std.specs.declared.result.Result.{Result}
use Rattle.std.specs.declared.result.Result.TheVariants.{Ok, Err}
use Rattle.actx_event.specs.declared.value.Shown.{Shown}
use Rattle.actx_event.specs.declared.event.Event.{Event}
use Rattle.actx_event.specs.Noted.{noted_under}
use Rattle.actx_event.specs.Event.{Declaration, is_number, switched_off, declaration_said}
use Rattle.actx_event.specs.Walk.{default_of}
use Rattle.actx_event.specs.Numbers.{first_made, is_off_between, declaration_at}

or_some : {A : Type 0} (a b : Option A) (x : A) → a ≡ Some x → option_or a b ≡ Some x
or_some None b x h = absurd cc
or_some (Some y) b x h = h

-- the first one found stays the first
made_stays : (makes : Event → Option ℕ) (i : ℕ) (log : List Event) (n p x : ℕ) → first_made makes i log n ≡ Some x → n ≤ p → first_made makes i log p ≡ Some x
made_stays makes i log n zero x h le = let start : n ≡ zero = omega arith in ap (first_made makes i log) (sym start) ∙ h
made_stays makes i log n (suc p) x h le = go (n == suc p) refl (made_stays makes i log n p x h)
  where
    go : (t : Bool) → n == suc p ≡ t → (n ≤ p → first_made makes i log p ≡ Some x) → first_made makes i log (suc p) ≡ Some x
    go true is older = let last : n ≡ suc p = grind (arith, nat_tests) in ap (first_made makes i log) (sym last) ∙ h
    go false is older = or_some (first_made makes i log p) _ x (older (grind (arith, nat_tests)))

pub made_found : (makes : Event → Option ℕ) (i j : ℕ) (log : List Event) (n p : ℕ) (e : Event) → slice_get log n ≡ Some e → first_made makes i log n ≡ None → makes e ≡ Some j → i ≡ j → n < p → first_made makes i log p ≡ Some n
made_found makes i j log n p e there none makes_it same lt =
    let here : first_made makes i log (suc n) ≡ Some n =
    ap₂ (λ a o. option_or a (if is_number i (option_and_then makes o) then Some n else None)) none there ∙ (ap (λ o. if is_number i o then Some n else None) makes_it ∙ ap (λ (t : Bool). if t then Some n else None) (eq-eqb i j same)) in
    made_stays makes i log (suc n) p n here lt

-- what is said first stays so
said_stays : (v : ℕ) (log : List Event) (n p : ℕ) (d : Declaration) → declaration_at v log n ≡ Some d → n ≤ p → declaration_at v log p ≡ Some d
said_stays v log n zero d h le = let start : n ≡ zero = omega arith in ap (declaration_at v log) (sym start) ∙ h
said_stays v log n (suc p) d h le = go (n == suc p) refl (said_stays v log n p d h)
  where
    go : (t : Bool) → n == suc p ≡ t → (n ≤ p → declaration_at v log p ≡ Some d) → declaration_at v log (suc p) ≡ Some d
    go true is older = let last : n ≡ suc p = grind (arith, nat_tests) in ap (declaration_at v log) (sym last) ∙ h
    go false is older = or_some (declaration_at v log p) _ d (older (grind (arith, nat_tests)))

pub default_found : (v : ℕ) (log : List Event) (n p : ℕ) (e : Event) (x : Shown) → slice_get log n ≡ Some e → declaration_at v log n ≡ None → option_map (λ d. d.default) (noted_under v (declaration_said e)) ≡ Some x → n < p → default_of (declaration_at v log p) ≡ x
default_found v log n p e x there none said lt = go (noted_under v (declaration_said e)) refl said
  where
    go : (o : Option Declaration) → noted_under v (declaration_said e) ≡ o → option_map (λ d. d.default) o ≡ Some x → default_of (declaration_at v log p) ≡ x
    go None is h = absurd cc
    go (Some d) is h =
        let here : declaration_at v log (suc n) ≡ Some d = ap₂ (λ a o. option_or a (noted_under v (option_and_then declaration_said o))) none there ∙ is in
        ap default_of (said_stays v log (suc n) p d here lt) ∙ ap (λ o. unwrap_or o x) h

-- an off stays between
off_stays : (v : ℕ) (log : List Event) (m n p : ℕ) → is_off_between v log m n ≡ true → n ≤ p → is_off_between v log m p ≡ true
off_stays v log m n zero h le = let start : n ≡ zero = omega arith in ap (is_off_between v log m) (sym start) ∙ h
off_stays v log m n (suc p) h le = go (n == suc p) refl (off_stays v log m n p h)
  where
    go : (t : Bool) → n == suc p ≡ t → (n ≤ p → is_off_between v log m p ≡ true) → is_off_between v log m (suc p) ≡ true
    go true is older = let last : n ≡ suc p = grind (arith, nat_tests) in ap (is_off_between v log m) (sym last) ∙ h
    go false is older = ap (λ t. t || nat_le m p && is_number v (option_and_then switched_off (slice_get log p))) (older (grind (arith, nat_tests)))

or_true : (t : Bool) → (t || true) ≡ true
or_true true = refl
or_true false = refl

pub off_found : (v : ℕ) (log : List Event) (m n p : ℕ) (e : Event) → slice_get log n ≡ Some e → m ≤ n → is_number v (switched_off e) ≡ true → n < p → is_off_between v log m p ≡ true
off_found v log m n p e there from off lt =
    let le : nat_le m n ≡ true = grind (arith, nat_tests) in
    let it : is_number v (option_and_then switched_off (slice_get log n)) ≡ true = ap (λ o. is_number v (option_and_then switched_off o)) there ∙ off in
    let here : is_off_between v log m (suc n) ≡ true = ap₂ (λ a b. is_off_between v log m n || a && b) le it ∙ or_true (is_off_between v log m n) in
    off_stays v log m (suc n) p here lt

-- a copy of a value that is this one
pub copy_along : {E : Type 0} (r : Result Shown E) (x y : Shown) → x ≡ y → IfOk r (λ z. z ≡ x) → IfOk r (λ z. z ≡ y)
copy_along (Ok z) x y e h = h ∙ e
copy_along (Err z) x y e h = h
