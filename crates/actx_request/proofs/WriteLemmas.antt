-- Counts of properties after a write or the end of a property.
use Rattle.std.proofs.Common.{◌≡◌, ℕ, suc, ◌+◌, ◌≤◌, min, cond, Bool, true, false, not, ◌&&◌, nat_le, nat_lt, is_some, is_none, List, [], ◌∷◌, length, slice_set, take, length-take, Option, Some, None, option_and_then, refl, sym, ap, ◌∙◌, arith}
use Rattle.std.proofs.Math.ListN.{length-set}
use Rattle.std.proofs.lemmas.Bool.Decides.{nat_tests}
use Rattle.std.specs.Option.{option_map_or}
use Rattle.std.specs.declared.result.Result.TheVariants.{Err}
use Rattle.actx_value.specs.declared.ids.ObjId.{ObjId}
use Rattle.actx_value.specs.declared.value.Key.{Key}
use Rattle.actx_value.specs.declared.value.Key.TheVariants.{Index, Name}
use Rattle.actx_value.specs.declared.value.Value.{Value}
use Rattle.actx_objects.specs.declared.object.Object.{Object}
use Rattle.actx_objects.specs.declared.props.Prop.{Prop}
use Rattle.actx_objects.specs.declared.refusal.SetError.{SetError}
use Rattle.actx_objects.specs.declared.refusal.SetError.TheVariants.{Frozen, Gap, ArrayProperty, Full, Memory}
use Rattle.actx_objects.specs.Keys.{key_eq, normal_key, is_length}
use Rattle.actx_objects.specs.Kinds.{is_array}
use Rattle.actx_objects.specs.Pairs.{at_key, with_key, without_key}
use Rattle.actx_objects.specs.Properties.{with_value, mark_of}
use Rattle.actx_objects.specs.Objects.{ObjectStore, property_count, object_at, kind_of, is_frozen, width_of, is_array_length, prop_of, changed}
use Rattle.actx_objects.specs.Writes.{array_refusal, reaches, length_in, earlier, has_no_room, is_full_for, refusal_of, IsRefusedBy, cut, cut_to, with_property, written, has_own, removed, deleted}
use Rattle.actx_request.specs.Limits.{properties_above}
use Rattle.actx_request.proofs.Above.{kept, fits, rises, stays}
use Rattle.actx_request.proofs.Resets.{reset, changed_is_reset, count-reset}

module _ {K X : Type 0} (eq : K → K → Bool) (k : K) where
  -- a write adds one where nothing stands at the key
  pub length-with_key : (x : X) (es : List (K × X)) → length (with_key eq k x es) ≡ length es + cond (is_some (at_key eq k es)) 0 1
  length-with_key x [] = refl
  length-with_key x (e ∷ es) = by (eq k e.0) (length-with_key x es)
    where
      by : (b : Bool) → length (with_key eq k x es) ≡ length es + cond (is_some (at_key eq k es)) 0 1 → length (cond b ((e.0, x) ∷ es) (e ∷ with_key eq k x es)) ≡ suc (length es) + cond (is_some (cond b (Some e.1) (at_key eq k es))) 0 1
      by true more = omega arith
      by false more = omega arith

  -- a removal adds none
  pub length-without_key : (es : List (K × X)) → length (without_key eq k es) ≤ length es
  length-without_key [] = omega arith
  length-without_key (e ∷ es) = by (eq k e.0) (length-without_key es)
    where
      by : (b : Bool) → length (without_key eq k es) ≤ length es → length (cond b es (e ∷ without_key eq k es)) ≤ suc (length es)
      by true fewer = omega arith
      by false fewer = omega arith

abbrev one_unless : Bool → ℕ
one_unless b = cond b 0 1

-- a change leaves as many objects
pub length-changed : (s : ObjectStore) (o : ObjId) (f : Object → Object) → length (changed s o f).objects ≡ length s.objects
length-changed s o f = by (object_at s o)
  where
    by : (w : Option Object) → length (option_map_or (λ x. record s { objects = slice_set s.objects o.0 (f x) }) w s).objects ≡ length s.objects
    by None = refl
    by (Some x) = length-set s.objects o.0 (f x)

-- an object that isn't frozen is there
pub thawed_is_there : (s : ObjectStore) (o : ObjId) → is_frozen s o ≡ false → (x : Object) × (object_at s o ≡ Some x)
thawed_is_there s o h = by (object_at s o) refl
  where
    by : (w : Option Object) → object_at s o ≡ w → (x : Object) × (object_at s o ≡ Some x)
    by (Some x) e = (x, e)
    by None e = absurd (let j : true ≡ false = sym (ap (λ w. option_map_or (λ x. x.frozen) w true) e) ∙ h in cc)

module _ (s : ObjectStore) (o : ObjId) (x : Object) (at : object_at s o ≡ Some x) where
  -- a value at a normal key adds one where nothing stands there
  pub count-with_property : (k : Key) (v : Value) (hidden : Bool) → property_count (with_property s o k v hidden).objects ≡ property_count s.objects + cond (is_some (prop_of s o k)) 0 1
  count-with_property k v hidden =
      let f : List (Key × Prop) → List (Key × Prop) = with_value k v hidden in
      let e : property_count (with_property s o k v hidden).objects ≡ property_count (reset s o x at (f x.props)).objects = ap (λ (t : ObjectStore). property_count t.objects) (changed_is_reset s o x at f) in
      let n : length (f x.props) ≡ length x.props + cond (is_some (at_key key_eq k x.props)) 0 1 = length-with_key key_eq k (record { value = v; hidden = mark_of (at_key key_eq k x.props) hidden }) x.props in
      let p : one_unless (is_some (prop_of s o k)) ≡ one_unless (is_some (at_key key_eq k x.props)) = ap (λ (w : Option Object). one_unless (is_some (option_and_then (λ (y : Object). at_key key_eq k y.props) w))) at in
      omega (arith, count-reset s o x at (f x.props))

  count-cut : (n : ℕ) → property_count (cut s o n).objects ≤ property_count s.objects
  count-cut n =
      let e : property_count (cut s o n).objects ≡ property_count (reset s o x at (take n x.props)).objects = ap (λ (t : ObjectStore). property_count t.objects) (changed_is_reset s o x at (take n)) in
      let m : length (take n x.props) ≡ min n (length x.props) = length-take n x.props in
      omega (arith, count-reset s o x at (take n x.props))

  pub count-cut_to : (w : Option ℕ) → property_count (cut_to s o w).objects ≤ property_count s.objects
  count-cut_to None = omega arith
  count-cut_to (Some n) = count-cut n

  pub count-removed : (k : Key) → property_count (removed s o k).objects ≤ property_count s.objects
  count-removed k =
      let f : List (Key × Prop) → List (Key × Prop) = without_key key_eq k in
      let e : property_count (removed s o k).objects ≡ property_count (reset s o x at (f x.props)).objects = ap (λ (t : ObjectStore). property_count t.objects) (changed_is_reset s o x at f) in
      omega (arith, count-reset s o x at (f x.props), length-without_key key_eq k x.props)

-- ---- what a refusal says

-- an array refuses nothing for want of room
array_room : (texts : List (List ℕ)) (n : ℕ) (k : Key) (v : Value) → array_refusal texts n k v ≡ Some Full → ⊥
array_room texts n (Index i) v h = by (nat_lt n i) h
  where
    by : (b : Bool) → cond b (Some Gap) None ≡ Some Full → ⊥
    by true e = cc
    by false e = cc
array_room texts n (Name t) v h = by (is_length texts (Name t)) (reaches n (length_in v)) h
  where
    by : (b c : Bool) → cond b (cond c None (Some Gap)) (Some ArrayProperty) ≡ Some Full → ⊥
    by true true e = cc
    by true false e = cc
    by false c e = cc

of_array : (texts : List (List ℕ)) (n : ℕ) (k : Key) (v : Value) (a : Bool) → cond a (array_refusal texts n k v) None ≡ Some Full → ⊥
of_array texts n k v true h = array_room texts n k v h
of_array texts n k v false h = cc

by_none : (frozen : Bool) (a : Option SetError) (full : Bool) → cond frozen (Some Frozen) (earlier a (cond full (Some Full) None)) ≡ None → (frozen ≡ false) × (full ≡ false)
by_none true a full h = absurd (cc)
by_none false (Some e) full h = absurd (cc)
by_none false None true h = absurd (cc)
by_none false None false h = (refl, refl)

by_full : (frozen : Bool) (a : Option SetError) (full : Bool) → (a ≡ Some Full → ⊥) → cond frozen (Some Frozen) (earlier a (cond full (Some Full) None)) ≡ Some Full → (frozen ≡ false) × (full ≡ true)
by_full true a full j h = absurd (cc)
by_full false (Some e) full j h = absurd (j h)
by_full false None true j h = (refl, refl)
by_full false None false j h = absurd (cc)

module _ (texts : List (List ℕ)) (s : ObjectStore) (o : ObjId) (k : Key) (v : Value) where
  pub not_refused : refusal_of texts s o k v ≡ None → (is_frozen s o ≡ false) × (is_full_for texts s o k ≡ false)
  not_refused h = by_none (is_frozen s o) (cond (is_array (kind_of s o)) (array_refusal texts (width_of s o) k v) None) (is_full_for texts s o k) h

  pub refused_full : refusal_of texts s o k v ≡ Some Full → (is_frozen s o ≡ false) × (is_full_for texts s o k ≡ true)
  refused_full h = by_full (is_frozen s o) (cond (is_array (kind_of s o)) (array_refusal texts (width_of s o) k v) None) (is_full_for texts s o k) (of_array texts (width_of s o) k v (is_array (kind_of s o))) h

  module _ (hidden : Bool) where
    -- the objects after a write, by whether the key is the `length` of an array
    abbrev pub by_length : Bool → ObjectStore
    by_length b = cond b (cut_to s o (length_in v)) (with_property s o (normal_key texts k) v hidden)

    pub length-written : length (written texts s o k v hidden).objects ≡ length s.objects
    length-written = by (is_array_length texts s o k) (length_in v)
      where
        by : (b : Bool) (w : Option ℕ) → length (cond b (cut_to s o w) (with_property s o (normal_key texts k) v hidden)).objects ≡ length s.objects
        by true None = refl
        by true (Some n) = length-changed s o _
        by false w = length-changed s o _

    -- a write that isn't refused stays within the limit
    pub written_fits : refusal_of texts s o k v ≡ None → properties_above s (written texts s o k v hidden) ≡ false
    written_fits h =
        let r = not_refused h in
        let there = thawed_is_there s o r.0 in
        by there.0 there.1 (is_array_length texts s o k) (has_no_room s o (normal_key texts k)) r.1 refl
      where
        by : (x : Object) → object_at s o ≡ Some x → (b c : Bool) → (not b && c) ≡ false → has_no_room s o (normal_key texts k) ≡ c → properties_above s (by_length b) ≡ false
        by x at true c e j = kept s.most_properties (property_count s.objects) (property_count (cut_to s o (length_in v)).objects) (count-cut_to s o x at (length_in v))
        by x at false true e j = absurd (cc)
        by x at false false e j = room (prop_of s o (normal_key texts k)) j (count-with_property s o x at (normal_key texts k) v hidden)
          where
            room : (w : Option Prop) → (nat_le s.most_properties (property_count s.objects) && is_none w) ≡ false → property_count (with_property s o (normal_key texts k) v hidden).objects ≡ property_count s.objects + cond (is_some w) 0 1 → properties_above s (with_property s o (normal_key texts k) v hidden) ≡ false
            room (Some p) j n = kept s.most_properties (property_count s.objects) (property_count (with_property s o (normal_key texts k) v hidden).objects) (omega arith)
            room None j n = fits s.most_properties (property_count s.objects) (property_count (with_property s o (normal_key texts k) v hidden).objects) (grind (arith, nat_tests))

    -- a write that the limit refuses would go above it
    pub written_above : refusal_of texts s o k v ≡ Some Full → properties_above s (written texts s o k v hidden) ≡ true
    written_above h =
        let r = refused_full h in
        let there = thawed_is_there s o r.0 in
        by there.0 there.1 (is_array_length texts s o k) (has_no_room s o (normal_key texts k)) r.1 refl
      where
        by : (x : Object) → object_at s o ≡ Some x → (b c : Bool) → (not b && c) ≡ true → has_no_room s o (normal_key texts k) ≡ c → properties_above s (by_length b) ≡ true
        by x at true c e j = absurd (cc)
        by x at false false e j = absurd (cc)
        by x at false true e j = room (prop_of s o (normal_key texts k)) j (count-with_property s o x at (normal_key texts k) v hidden)
          where
            room : (w : Option Prop) → (nat_le s.most_properties (property_count s.objects) && is_none w) ≡ true → property_count (with_property s o (normal_key texts k) v hidden).objects ≡ property_count s.objects + cond (is_some w) 0 1 → properties_above s (with_property s o (normal_key texts k) v hidden) ≡ true
            room (Some p) j n = absurd (grind (arith, nat_tests))
            room None j n = rises s.most_properties (property_count s.objects) (property_count (with_property s o (normal_key texts k) v hidden).objects) (omega arith) (grind (arith, nat_tests))

-- the refusal that a call gives
pub refusal_is : (T : Type 0) (r : Option SetError) (e : SetError) → (e ≡ Memory → ⊥) → IsRefusedBy {T = T} r (Err e) → r ≡ Some e
refusal_is T None e other h = absurd (other h)
refusal_is T (Some f) e other h = ap Some (sym h)

-- a property that ends adds none
module _ (texts : List (List ℕ)) (s : ObjectStore) (o : ObjId) (k : Key) where
  pub length-deleted : length (deleted texts s o k).objects ≡ length s.objects
  length-deleted = by (has_own texts s o k)
    where
      by : (b : Bool) → length (cond b (removed s o (normal_key texts k)) s).objects ≡ length s.objects
      by true = length-changed s o _
      by false = refl

  pub deleted_fits : properties_above s (deleted texts s o k) ≡ false
  deleted_fits = by (has_own texts s o k) (object_at s o) refl
    where
      by : (b : Bool) (w : Option Object) → object_at s o ≡ w → properties_above s (cond b (removed s o (normal_key texts k)) s) ≡ false
      by false w e = stays s.most_properties (property_count s.objects)
      by true (Some x) e = kept s.most_properties (property_count s.objects) (property_count (removed s o (normal_key texts k)).objects) (count-removed s o x e (normal_key texts k))
      by true None e =
          let same : removed s o (normal_key texts k) ≡ s = ap (λ w. option_map_or (λ x. record s { objects = slice_set s.objects o.0 (record x { props = without_key key_eq (normal_key texts k) x.props }) }) w s) e in
          ap (λ t. properties_above s t) same ∙ stays s.most_properties (property_count s.objects)
