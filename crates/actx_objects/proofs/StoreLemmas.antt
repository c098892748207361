-- What a change at one object does to the whole list.
use Rattle.std.proofs.Common.{◌≡◌, ℕ, suc, ◌+◌, ◌<◌, ◌≤◌, ◌⊎◌, min, take, length-take, Bool, true, false, cond, ◌&&◌, nat_le, is_some, is_none, List, length, get_or, slice_get, slice_set, Option, Some, None, refl, sym, ap, ◌∙◌, arith, inl, inr, true≢false}
use Rattle.std.proofs.lemmas.Bool.Decides.{nat_tests}
use Rattle.std.proofs.lemmas.List.Sums.{sum_by-set, get_or-le-sum_by}
use Rattle.actx_objects.specs.Entries.{EntryList, entry_in, with_entry}
use Rattle.actx_objects.specs.declared.entries.Placed.{Placed}
use Rattle.std.proofs.lemmas.Option.{get_or_from_slice_get, slice_get_within, slice_get_cases, slice_get_read}
use Rattle.std.specs.Option.{option_map, option_map_or, option_and_then}
use Rattle.actx_value.specs.declared.value.Key.{Key}
use Rattle.actx_value.specs.declared.value.Value.{Value}
use Rattle.actx_value.specs.declared.ids.ObjId.{ObjId}
use Rattle.actx_objects.specs.declared.object.Object.{Object}
use Rattle.actx_objects.specs.declared.props.Prop.{Prop}
use Rattle.actx_objects.specs.Keys.{key_eq}
use Rattle.actx_objects.specs.Pairs.{at_key, without_key}
use Rattle.actx_objects.specs.Properties.{with_value}
use Rattle.actx_objects.specs.Objects.{ObjectStore, weight_of, property_count, object_at, changed, prop_of, own_of, proto_of, walk, placed_of, has_no_place}
use Rattle.actx_objects.specs.Writes.{has_no_room}
use Rattle.actx_objects.proofs.PairLemmas.{length-with_key, length-without_key}

-- the count changes by what the one object gains or loses
pub property_count-set : (os : List Object) (i : ℕ) (x y : Object) → slice_get os i ≡ Some x → property_count (slice_set os i y) + weight_of x ≡ property_count os + weight_of y
property_count-set os i x y h =
    rw (← get_or_from_slice_get os i x x h) (sum_by-set weight_of os i y x (slice_get_within os i x h))

-- a change at an object that is there
pub changed_there : (s : ObjectStore) (o : ObjId) (f : Object → Object) (x : Object) → object_at s o ≡ Some x → changed s o f ≡ record s { objects = slice_set s.objects o.0 (f x) }
changed_there s o f x h = ap (λ w. option_map_or (λ x. record s { objects = slice_set s.objects o.0 (f x) }) w s) h

-- what stands at a key of an object that is there
pub prop_of_there : (s : ObjectStore) (o : ObjId) (k : Key) (x : Object) → object_at s o ≡ Some x → prop_of s o k ≡ at_key key_eq k x.props
prop_of_there s o k x h = ap (λ w. option_and_then (λ x. at_key key_eq k x.props) w) h

module _ (n m : ℕ) (texts : List (List ℕ)) (s : ObjectStore) (o : ObjId) (k : Key) (more : m ≡ suc n) where
  pub walk_found : (v : Value) → own_of texts s o k ≡ Some v → walk m texts s o k ≡ Some v
  walk_found v h = rw more (ap (λ w. option_map_or Some w (option_map_or (λ q. walk n texts s q k) (proto_of s o) None)) h)

  pub walk_on : (p : ObjId) → own_of texts s o k ≡ None → proto_of s o ≡ Some p → walk m texts s o k ≡ walk n texts s p k
  walk_on p h j = rw more (ap (λ w. option_map_or Some w (option_map_or (λ q. walk n texts s q k) (proto_of s o) None)) h ∙ ap (λ w. option_map_or (λ q. walk n texts s q k) w None) j)

  pub walk_ends : own_of texts s o k ≡ None → proto_of s o ≡ None → walk m texts s o k ≡ None
  walk_ends h j = rw more (ap (λ w. option_map_or Some w (option_map_or (λ q. walk n texts s q k) (proto_of s o) None)) h ∙ ap (λ w. option_map_or (λ q. walk n texts s q k) w None) j)

-- the element that an index reads is the one that stands there
pub there_at : (os : List Object) (i : ℕ) (x : Object) → is_some (slice_get os i) ≡ true → x ≡ get_or os i x → slice_get os i ≡ Some x
there_at os i x h e = elim (slice_get_cases os i).1 [ inl w ↦ slice_get_read os (length os) i x refl w.1 e | inr w ↦ absurd (true≢false (sym h ∙ ap is_some w.1)) ]

module _ (s : ObjectStore) (o : ObjId) (k : Key) (x : Object) (at : object_at s o ≡ Some x) where
  -- where there is room, a write keeps the limit
  pub room_for : property_count s.objects ≤ s.most_properties → has_no_room s o k ≡ false → property_count s.objects + cond (is_some (at_key key_eq k x.props)) 0 1 ≤ s.most_properties
  room_for h r = by (at_key key_eq k x.props) (prop_of_there s o k x at) r
    where
      by : (p : Option Prop) → prop_of s o k ≡ p → has_no_room s o k ≡ false → property_count s.objects + cond (is_some p) 0 1 ≤ s.most_properties
      by (Some p) e r = omega arith
      by None e r = let q : (nat_le s.most_properties (property_count s.objects) && true) ≡ false = sym (ap (λ w. nat_le s.most_properties (property_count s.objects) && is_none w) e) ∙ r in grind (arith, nat_tests)

-- the properties of an object after a write
pub grown : (k : Key) (v : Value) (hidden : Bool) (ps qs : List (Key × Prop)) → qs ≡ with_value k v hidden ps → length qs ≡ length ps + cond (is_some (at_key key_eq k ps)) 0 1
grown k v hidden ps qs e = ap length e ∙ length-with_key key_eq k _ ps

-- what a write keeps: the object does not shrink, the limit stands, and the count is that of the new list
pub write_keeps : (s : ObjectStore) (o : ObjId) (k : Key) (v : Value) (hidden : Bool) (x y : Object) → is_some (object_at s o) ≡ true → x ≡ get_or s.objects o.0 x → has_no_room s o k ≡ false → property_count s.objects ≤ s.most_properties
    → y.props ≡ with_value k v hidden x.props → y.entries ≡ x.entries
    → (length x.props ≤ length y.props) × (property_count s.objects + length y.props ≤ s.most_properties + length x.props) × (property_count (slice_set s.objects o.0 y) + length x.props ≡ property_count s.objects + length y.props) × (object_at s o ≡ Some x)
write_keeps s o k v hidden x y there read room most e same =
    let at : object_at s o ≡ Some x = there_at s.objects o.0 x there read in
    let g : length y.props ≡ length x.props + cond (is_some (at_key key_eq k x.props)) 0 1 = grown k v hidden x.props y.props e in
    let r : property_count s.objects + cond (is_some (at_key key_eq k x.props)) 0 1 ≤ s.most_properties = room_for s o k x at most room in
    let places : y.entries.places ≡ x.entries.places = ap (λ (es : EntryList). es.places) same in
    (omega arith, omega arith, omega (arith, property_count-set s.objects o.0 x y at, places), at)

-- what a cut keeps
pub cut_keeps : (s : ObjectStore) (o : ObjId) (n : ℕ) (x y : Object) → is_some (object_at s o) ≡ true → x ≡ get_or s.objects o.0 x → y.props ≡ take n x.props → y.entries ≡ x.entries
    → (length y.props ≤ length x.props) × (length x.props ≤ property_count s.objects) × (property_count (slice_set s.objects o.0 y) + length x.props ≡ property_count s.objects + length y.props) × (object_at s o ≡ Some x)
cut_keeps s o n x y there read e same =
    let at : object_at s o ≡ Some x = there_at s.objects o.0 x there read in
    let g : length y.props ≡ min n (length x.props) = ap length e ∙ length-take n x.props in
    let places : y.entries.places ≡ x.entries.places = ap (λ (es : EntryList). es.places) same in
    let within : weight_of (get_or s.objects o.0 x) ≤ property_count s.objects = get_or-le-sum_by weight_of s.objects o.0 x (slice_get_within s.objects o.0 x at) in
    let mine : weight_of x ≡ weight_of (get_or s.objects o.0 x) = ap weight_of read in
    (omega arith, omega arith, omega (arith, property_count-set s.objects o.0 x y at, places), at)

-- what a removal keeps
pub removal_keeps : (s : ObjectStore) (o : ObjId) (k : Key) (x y : Object) → is_some (prop_of s o k) ≡ true → x ≡ get_or s.objects o.0 x → y.props ≡ without_key key_eq k x.props → y.entries ≡ x.entries
    → (property_count (slice_set s.objects o.0 y) + 1 ≡ property_count s.objects) × (object_at s o ≡ Some x)
removal_keeps s o k x y there read e same = by (slice_get_cases s.objects o.0).1
  where
    by : ((z : Object) × (o.0 < length s.objects) × (slice_get s.objects o.0 ≡ Some z) × (get_or s.objects o.0 z ≡ z)) ⊎ ((length s.objects ≤ o.0) × (slice_get s.objects o.0 ≡ None))
        → (property_count (slice_set s.objects o.0 y) + 1 ≡ property_count s.objects) × (object_at s o ≡ Some x)
    by (inl w) =
        let at : object_at s o ≡ Some x = slice_get_read s.objects (length s.objects) o.0 x refl w.1 read in
        let h : is_some (at_key key_eq k x.props) ≡ true = ap is_some (sym (prop_of_there s o k x at)) ∙ there in
        let g : length y.props + 1 ≡ length x.props = ap (λ ps. length ps + 1) e ∙ length-without_key key_eq k x.props h in
        let places : y.entries.places ≡ x.entries.places = ap (λ (es : EntryList). es.places) same in
        (omega (arith, property_count-set s.objects o.0 x y at, places), at)
    by (inr w) = absurd (true≢false (sym there ∙ ap (λ z. is_some (option_and_then (λ x. at_key key_eq k x.props) z)) w.1))

module _ (s : ObjectStore) (o : ObjId) (key : Value) (x : Object) (at : object_at s o ≡ Some x) where
  -- what stands under a key of an object that is there
  pub placed_of_there : placed_of s o key ≡ option_map (λ e. e.value) (entry_in key x.entries)
  placed_of_there = ap (λ w. option_map (λ e. e.value) (option_and_then (λ x. entry_in key x.entries) w)) at

  -- where there is room, an entry keeps the limit
  pub place_for : property_count s.objects ≤ s.most_properties → has_no_place s o key ≡ false → property_count s.objects + cond (is_some (entry_in key x.entries)) 0 1 ≤ s.most_properties
  place_for h r = by (entry_in key x.entries) placed_of_there r
    where
      by : (p : Option Placed) → placed_of s o key ≡ option_map (λ e. e.value) p → has_no_place s o key ≡ false → property_count s.objects + cond (is_some p) 0 1 ≤ s.most_properties
      by (Some p) e r = omega arith
      by None e r = let q : (nat_le s.most_properties (property_count s.objects) && true) ≡ false = sym (ap (λ w. nat_le s.most_properties (property_count s.objects) && is_none w) e) ∙ r in grind (arith, nat_tests)

-- how many places an entry adds
pub places_grown : (key v : Value) (es : EntryList) → (with_entry key v es).places ≡ es.places + cond (is_some (entry_in key es)) 0 1
places_grown key v es = by (is_some (entry_in key es))
  where
    by : (b : Bool) → cond b es.places (suc es.places) ≡ es.places + cond b 0 1
    by true = omega arith
    by false = omega arith

-- what an entry keeps
pub entry_keeps : (s : ObjectStore) (o : ObjId) (key v : Value) (x y : Object) → is_some (object_at s o) ≡ true → x ≡ get_or s.objects o.0 x → has_no_place s o key ≡ false → property_count s.objects ≤ s.most_properties
    → y.entries ≡ with_entry key v x.entries → y.props ≡ x.props
    → (x.entries.places ≤ y.entries.places) × (property_count s.objects + y.entries.places ≤ s.most_properties + x.entries.places) × (property_count (slice_set s.objects o.0 y) + x.entries.places ≡ property_count s.objects + y.entries.places) × (object_at s o ≡ Some x)
entry_keeps s o key v x y there read room most e same =
    let at : object_at s o ≡ Some x = there_at s.objects o.0 x there read in
    let g : y.entries.places ≡ x.entries.places + cond (is_some (entry_in key x.entries)) 0 1 = ap (λ (es : EntryList). es.places) e ∙ places_grown key v x.entries in
    let r : property_count s.objects + cond (is_some (entry_in key x.entries)) 0 1 ≤ s.most_properties = place_for s o key x at most room in
    let long : length y.props ≡ length x.props = ap length same in
    (omega arith, omega arith, omega (arith, property_count-set s.objects o.0 x y at, long), at)

-- an object has no more places than all count
pub places_within : (s : ObjectStore) (o : ObjId) (x : Object) → is_some (object_at s o) ≡ true → x ≡ get_or s.objects o.0 x → x.entries.places ≤ property_count s.objects
places_within s o x there read =
    let at : object_at s o ≡ Some x = there_at s.objects o.0 x there read in
    let within : weight_of (get_or s.objects o.0 x) ≤ property_count s.objects = get_or-le-sum_by weight_of s.objects o.0 x (slice_get_within s.objects o.0 x at) in
    let mine : weight_of x ≡ weight_of (get_or s.objects o.0 x) = ap weight_of read in
    omega arith
