-- The test of values is equality.
use Rattle.std.proofs.Common.{◌≡◌, ℕ, ◌==◌, Bool, true, false, ◌&&◌, List, [], ◌∷◌, refl, sym, ap, ap₂, ◌∙◌, eqb-true, eq-eqb, pos, negsuc, ℤ}
use Rattle.actx_event.specs.declared.value.Shown.{Shown}
use Rattle.actx_event.specs.declared.value.Shown.TheVariants.{Undefined, Null, Bool as Truth, Num, Text, Made, Native}
use Rattle.actx_event.specs.Valid.{same_integer, same_truth, same_units, same_value}

and_both : (a b : Bool) → (a && b) ≡ true → (a ≡ true) × (b ≡ true)
and_both true b h = (refl, h)
and_both false b h = absurd cc

integer_is : (a b : ℤ) → same_integer a b ≡ true → a ≡ b
integer_is (pos m) (pos n) h = ap pos (eqb-true m n h)
integer_is (negsuc m) (negsuc n) h = ap negsuc (eqb-true m n h)
integer_is (pos m) (negsuc n) h = absurd cc
integer_is (negsuc m) (pos n) h = absurd cc

integer_self : (a : ℤ) → same_integer a a ≡ true
integer_self (pos m) = eq-eqb m m refl
integer_self (negsuc m) = eq-eqb m m refl

truth_is : (a b : Bool) → same_truth a b ≡ true → a ≡ b
truth_is true b h = sym h
truth_is false true h = absurd cc
truth_is false false h = refl

truth_self : (a : Bool) → same_truth a a ≡ true
truth_self true = refl
truth_self false = refl

units_are : (a b : List ℕ) → same_units a b ≡ true → a ≡ b
units_are [] [] h = refl
units_are (x ∷ xs) (y ∷ ys) h =
    let k = and_both (x == y) (same_units xs ys) h in
    ap₂ (λ z zs. z ∷ zs) (eqb-true x y k.0) (units_are xs ys k.1)
units_are [] (y ∷ ys) h = absurd cc
units_are (x ∷ xs) [] h = absurd cc

units_self : (a : List ℕ) → same_units a a ≡ true
units_self [] = refl
units_self (x ∷ xs) = ap₂ (λ a b. a && b) (eq-eqb x x refl) (units_self xs)

pub value_is : (x y : Shown) → same_value x y ≡ true → x ≡ y
value_is Undefined Undefined h = refl
value_is Null Null h = refl
value_is (Truth a) (Truth b) h = ap Truth (truth_is a b h)
value_is (Num a) (Num b) h = ap Num (integer_is a b h)
value_is (Text a) (Text b) h = ap Text (units_are a b h)
value_is (Made a) (Made b) h = ap Made (eqb-true a b h)
value_is (Native a) (Native b) h = ap Native (eqb-true a b h)
value_is x y h = absurd cc

pub value_self : (x : Shown) → same_value x x ≡ true
value_self Undefined = refl
value_self Null = refl
value_self (Truth a) = truth_self a
value_self (Num a) = integer_self a
value_self (Text a) = units_self a
value_self (Made a) = eq-eqb a a refl
value_self (Native a) = eq-eqb a a refl

-- a test that is true exactly where two values are the same is this test
pub value_test : (b : Bool) (x y : Shown) → (b ≡ true → x ≡ y) → (x ≡ y → b ≡ true) → b ≡ same_value x y
value_test b x y there back = go b (same_value x y) (λ h. ap (same_value x) (sym (there h)) ∙ value_self x) (λ h. back (value_is x y h))
  where
    go : (b c : Bool) → (b ≡ true → c ≡ true) → (c ≡ true → b ≡ true) → b ≡ c
    go true c f g = sym (f refl)
    go false true f g = g refl
    go false false f g = refl
