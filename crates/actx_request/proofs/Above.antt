-- When a count goes above its limit.
use Rattle.std.proofs.Common.{◌≡◌, ℕ, ◌<◌, ◌≤◌, Bool, true, false, cond, length, Option, Some, None, refl, arith}
use Rattle.std.proofs.lemmas.Bool.Decides.{nat_tests}
use Rattle.actx_value.specs.Texts.{TextStore, units_of}
use Rattle.actx_value.specs.declared.end.Which.{Which}
use Rattle.actx_value.specs.declared.end.Which.TheVariants.{Properties, Cells, Text}
use Rattle.actx_cells.specs.Scopes.{ScopeStore, count_of}
use Rattle.actx_objects.specs.Objects.{ObjectStore, property_count}
use Rattle.actx_request.specs.Outcomes.{Stores, stores}
use Rattle.actx_request.specs.Limits.{goes_above, properties_above, cells_above, text_above, first_above}

-- a count that stays doesn't go above its limit
pub stays : (limit n : ℕ) → goes_above limit n n ≡ false
stays limit n = grind (arith, nat_tests)

-- one that falls or is within its limit doesn't either
pub kept : (limit m n : ℕ) → n ≤ m → goes_above limit m n ≡ false
kept limit m n h = grind (arith, nat_tests)

pub fits : (limit m n : ℕ) → n ≤ limit → goes_above limit m n ≡ false
fits limit m n h = grind (arith, nat_tests)

pub rises : (limit m n : ℕ) → m < n → limit < n → goes_above limit m n ≡ true
rises limit m n h j = grind (arith, nat_tests)

abbrev only : Bool → Which → Option Which
only b w = cond b (Some w) None

-- a request that leaves all but the scopes alone
pub cells_alone : (o : ObjectStore) (t : TextStore) (c d : ScopeStore) (b : Bool) → cells_above c d ≡ b → first_above (stores o t c) (stores o t d) ≡ cond b (Some Cells) None
cells_alone o t c d b h = rw (stays o.most_objects (length o.objects), stays o.most_properties (property_count o.objects), stays t.limit (units_of t.texts), h) refl

pub texts_alone : (o : ObjectStore) (c : ScopeStore) (t u : TextStore) (b : Bool) → text_above t u ≡ b → first_above (stores o t c) (stores o u c) ≡ cond b (Some Text) None
texts_alone o c t u b h = rw (stays o.most_objects (length o.objects), stays o.most_properties (property_count o.objects), stays c.limit (count_of c.scopes), h) refl

pub none_above : (s : Stores) → first_above s s ≡ None
none_above s = rw (stays s.objects.most_objects (length s.objects.objects), stays s.objects.most_properties (property_count s.objects.objects), stays s.cells.limit (count_of s.cells.scopes), stays s.texts.limit (units_of s.texts.texts)) refl

-- a request that changes properties alone
pub objects_alone : (t : TextStore) (c : ScopeStore) (o p : ObjectStore) (b : Bool) → length p.objects ≡ length o.objects → properties_above o p ≡ b → first_above (stores o t c) (stores p t c) ≡ cond b (Some Properties) None
objects_alone t c o p b long h = rw (kept o.most_objects (length o.objects) (length p.objects) (omega arith), h, stays c.limit (count_of c.scopes), stays t.limit (units_of t.texts)) (by b)
  where
    by : (b : Bool) → cond b (Some Properties) (cond false (Some Cells) (cond false (Some Text) None)) ≡ cond b (Some Properties) None
    by true = refl
    by false = refl
