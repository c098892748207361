-- Values that compare as one are one.
use Rattle.std.proofs.Common.{◌≡◌, ℕ, true, false, nat_eq, refl, sym, ap, true≢false, arith}
use Rattle.std.proofs.lemmas.Bool.Decides.{nat_tests, Decides-int_eq}
use Rattle.actx_value.specs.declared.value.Value.{Value}
use Rattle.actx_value.specs.declared.value.Value.TheVariants.{Undefined, Null, Bool as Truth, Num, Text, Object, Scope, Mark}
use Rattle.actx_value.specs.declared.ids.TextId.{TextId}
use Rattle.actx_value.specs.declared.ids.ObjId.{ObjId}
use Rattle.actx_value.specs.declared.ids.ScopeId.{ScopeId}
use Rattle.actx_objects.specs.Keys.{value_eq}

numbers : (m n : ℕ) → nat_eq m n ≡ true → m ≡ n
numbers m n h = grind (arith, nat_tests)

reflexive : (n : ℕ) → nat_eq n n ≡ true
reflexive n = grind (arith, nat_tests)

pub value_is : (a b : Value) → value_eq a b ≡ true → a ≡ b
value_is Undefined Undefined h = refl
value_is Null Null h = refl
value_is (Truth true) (Truth true) h = refl
value_is (Truth true) (Truth false) h = absurd (true≢false (sym h))
value_is (Truth false) (Truth true) h = absurd (true≢false (sym h))
value_is (Truth false) (Truth false) h = refl
value_is (Num a) (Num b) h = ap Num ((Decides-int_eq a b).0 h)
value_is (Text a) (Text b) h = ap (λ (n : ℕ). let t : TextId = record { 0 = n } in Text t) (numbers a.0 b.0 h)
value_is (Object a) (Object b) h = ap (λ (n : ℕ). let t : ObjId = record { 0 = n } in Object t) (numbers a.0 b.0 h)
value_is (Scope a) (Scope b) h = ap (λ (n : ℕ). let t : ScopeId = record { 0 = n } in Scope t) (numbers a.0 b.0 h)
value_is Mark Mark h = refl
value_is a b h = absurd (true≢false (sym h))

pub value_self : (a : Value) → value_eq a a ≡ true
value_self Undefined = refl
value_self Null = refl
value_self (Truth true) = refl
value_self (Truth false) = refl
value_self (Num a) = (Decides-int_eq a a).1 refl
value_self (Text a) = reflexive a.0
value_self (Object a) = reflexive a.0
value_self (Scope a) = reflexive a.0
value_self Mark = refl
