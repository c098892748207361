-- How many objects there are after each step.
use Rattle.std.proofs.Common.{◌≡◌, ℕ, zero, suc, ◌+◌, cond, Bool, true, false, List, [], ◌∷◌, length, slice_set, Option, Some, None, refl, ◌∙◌, arith}
use Rattle.std.proofs.Math.ListN.{length-set}
use Rattle.std.proofs.lemmas.List.{length-append}
use Rattle.std.specs.List.{fold}
use Rattle.std.specs.Option.{option_map_or}
use Rattle.actx_value.specs.declared.ids.ObjId.{ObjId}
use Rattle.actx_value.specs.declared.value.Key.{Key}
use Rattle.actx_value.specs.declared.value.Key.TheVariants.{Name}
use Rattle.actx_value.specs.declared.value.Value.{Value}
use Rattle.actx_objects.specs.declared.object.Object.{Object}
use Rattle.actx_objects.specs.Keys.{normal_key}
use Rattle.actx_objects.specs.Objects.{ObjectStore, object_at, changed, with_proto, is_array_length}
use Rattle.actx_objects.specs.Writes.{cut_to, length_in, with_property, written}
use Rattle.actx_table.specs.Table.{count}
use Rattle.actx_opening.specs.declared.start.Start.{Start}
use Rattle.actx_opening.specs.declared.member.Member.{Member}
use Rattle.actx_opening.specs.Starts.{starts, started, with_its_proto, with_protos}
use Rattle.actx_opening.specs.Members.{members, with_member, value_from}
use Rattle.actx_opening.specs.Opening.{frozen_to, filled, objects_in}

length-changed : (s : ObjectStore) (o : ObjId) (f : Object → Object) → length (changed s o f).objects ≡ length s.objects
length-changed s o f = by (object_at s o)
  where
    by : (w : Option Object) → length (option_map_or (λ x. record s { objects = slice_set s.objects o.0 (f x) }) w s).objects ≡ length s.objects
    by None = refl
    by (Some x) = length-set s.objects o.0 (f x)

length-written : (texts : List (List ℕ)) (s : ObjectStore) (o : ObjId) (k : Key) (v : Value) (hidden : Bool) → length (written texts s o k v hidden).objects ≡ length s.objects
length-written texts s o k v hidden = by (is_array_length texts s o k) (length_in v)
  where
    by : (b : Bool) (w : Option ℕ) → length (cond b (cut_to s o w) (with_property s o (normal_key texts k) v hidden)).objects ≡ length s.objects
    by true None = refl
    by true (Some n) = length-changed s o _
    by false w = length-changed s o _

length-started : (s : ObjectStore) (x : Start) → length (started s x).objects ≡ length s.objects + 1
unfolding started
length-started s x = length-append s.objects _

length-all-started : (xs : List Start) (s : ObjectStore) → length (fold started s xs).objects ≡ length s.objects + length xs
length-all-started [] s = omega arith
length-all-started (x ∷ xs) s =
    let one : length (started s x).objects ≡ length s.objects + 1 = length-started s x in
    let more : length (fold started (started s x) xs).objects ≡ length (started s x).objects + length xs = length-all-started xs (started s x) in
    omega arith

length-with_its_proto : (s : ObjectStore) (o : ObjId) (x : Start) → length (with_its_proto s o x).objects ≡ length s.objects
unfolding with_its_proto
length-with_its_proto s o x = by x.1
  where
    by : (w : Option ObjId) → length (option_map_or (λ p. with_proto s o p) w s).objects ≡ length s.objects
    by None = refl
    by (Some p) = length-changed s o _

length-with_protos : (o : ℕ) (xs : List Start) (s : ObjectStore) → length (with_protos o xs s).objects ≡ length s.objects
unfolding with_protos
length-with_protos o [] s = refl
length-with_protos o (x ∷ xs) s = length-with_protos (suc o) xs (with_its_proto s (record { 0 = o }) x) ∙ length-with_its_proto s (record { 0 = o }) x

length-with_member : (texts : List (List ℕ)) (first : ℕ) (s : ObjectStore) (m : Member) → length (with_member texts first s m).objects ≡ length s.objects
unfolding with_member
length-with_member texts first s m = length-written texts s m.0 (Name (record { 0 = first + m.1 })) (value_from first m.2) true

length-with_members : (texts : List (List ℕ)) (first : ℕ) (ms : List Member) (s : ObjectStore) → length (fold (with_member texts first) s ms).objects ≡ length s.objects
length-with_members texts first [] s = refl
length-with_members texts first (m ∷ ms) s = length-with_members texts first ms (with_member texts first s m) ∙ length-with_member texts first s m

length-frozen_to : (n : ℕ) (s : ObjectStore) → length (frozen_to n s).objects ≡ length s.objects
unfolding frozen_to
length-frozen_to zero s = refl
length-frozen_to (suc n) s = length-changed (frozen_to n s) _ _ ∙ length-frozen_to n s

length-starts : length starts ≡ count
unfolding starts
length-starts = refl

length-filled : (texts : List (List ℕ)) (first : ℕ) (s : ObjectStore) → length (filled texts first s).objects ≡ length s.objects + length starts
unfolding filled
length-filled texts first s =
    length-with_members texts first members (with_protos 0 starts (fold started s starts))
    ∙ length-with_protos 0 starts (fold started s starts)
    ∙ length-all-started starts s

pub as_many : (texts : List (List ℕ)) (first objects properties : ℕ) → length (objects_in texts first objects properties).objects ≡ count
as_many texts first objects properties =
    let s : ObjectStore = record { objects = []; most_objects = objects; most_properties = properties } in
    let f : length (filled texts first s).objects ≡ 0 + length starts = length-filled texts first s in
    let n : length starts ≡ count = length-starts in
    length-frozen_to count (filled texts first s) ∙ (let e : length (filled texts first s).objects ≡ count = omega arith in e)
