-- The kinds of the objects after each step.
use Rattle.std.proofs.Common.{◌≡◌, ℕ, zero, suc, ◌+◌, cond, Bool, true, false, List, [], ◌∷◌, ◌++◌, map, slice_get, slice_set, Option, Some, None, refl, sym, ap, ◌∙◌, append_assoc}
use Rattle.std.proofs.lemmas.List.{append-nil}
use Rattle.std.specs.List.{fold}
use Rattle.std.specs.Option.{option_map_or}
use Rattle.actx_value.specs.declared.ids.ObjId.{ObjId}
use Rattle.actx_value.specs.declared.value.Key.{Key}
use Rattle.actx_value.specs.declared.value.Key.TheVariants.{Name}
use Rattle.actx_value.specs.declared.value.Value.{Value}
use Rattle.actx_objects.specs.declared.object.Object.{Object}
use Rattle.actx_objects.specs.Keys.{normal_key}
use Rattle.actx_objects.specs.Objects.{ObjectStore, object_at, changed, with_proto, is_array_length}
use Rattle.actx_objects.specs.Writes.{cut_to, length_in, with_property, written}
use Rattle.actx_table.specs.Table.{rows}
use Rattle.actx_opening.specs.declared.start.Start.{Start}
use Rattle.actx_opening.specs.declared.member.Member.{Member}
use Rattle.actx_opening.specs.Starts.{kind_in, starts, started, with_its_proto, with_protos}
use Rattle.actx_opening.specs.Members.{members, with_member, value_from}
use Rattle.actx_opening.specs.Opening.{frozen_to, filled, objects_in, kinds_of}

-- a setting that keeps what g reads there
map-set_same : {A B : Type 0} (g : A → B) (xs : List A) (i : ℕ) (x y : A) → slice_get xs i ≡ Some x → g y ≡ g x → map g (slice_set xs i y) ≡ map g xs
map-set_same g [] i x y h e = refl
map-set_same g (z ∷ zs) zero x y h e = let k : z ≡ x = cc in ap (λ b. b ∷ map g zs) (e ∙ sym (ap g k))
map-set_same g (z ∷ zs) (suc i) x y h e = ap (λ bs. g z ∷ bs) (map-set_same g zs i x y h e)

kinds-changed : (s : ObjectStore) (o : ObjId) (f : Object → Object) → ((x : Object) → (f x).kind ≡ x.kind) → kinds_of (changed s o f) ≡ kinds_of s
kinds-changed s o f same = by (object_at s o) refl
  where
    by : (w : Option Object) → object_at s o ≡ w → kinds_of (option_map_or (λ x. record s { objects = slice_set s.objects o.0 (f x) }) w s) ≡ kinds_of s
    by None e = refl
    by (Some x) e = map-set_same (λ (y : Object). y.kind) s.objects o.0 x (f x) e (same x)

kinds-written : (texts : List (List ℕ)) (s : ObjectStore) (o : ObjId) (k : Key) (v : Value) (hidden : Bool) → kinds_of (written texts s o k v hidden) ≡ kinds_of s
kinds-written texts s o k v hidden = by (is_array_length texts s o k) (length_in v)
  where
    by : (b : Bool) (w : Option ℕ) → kinds_of (cond b (cut_to s o w) (with_property s o (normal_key texts k) v hidden)) ≡ kinds_of s
    by true None = refl
    by true (Some n) = kinds-changed s o _ (λ x. refl)
    by false w = kinds-changed s o _ (λ x. refl)

map-append : {A B : Type 0} (g : A → B) (xs ys : List A) → map g (xs ++ ys) ≡ map g xs ++ map g ys
map-append g [] ys = refl
map-append g (x ∷ xs) ys = ap (λ zs. g x ∷ zs) (map-append g xs ys)

kinds-all_started : (xs : List Start) (s : ObjectStore) → kinds_of (fold started s xs) ≡ kinds_of s ++ map (λ x. x.0) xs
unfolding started
kinds-all_started [] s = sym (append-nil (kinds_of s))
kinds-all_started (x ∷ xs) s =
    kinds-all_started xs (started s x)
    ∙ ap (λ ks. ks ++ map (λ (y : Start). y.0) xs) (map-append (λ (y : Object). y.kind) s.objects _)
    ∙ append_assoc (kinds_of s) (x.0 ∷ []) (map (λ (y : Start). y.0) xs)

kinds-with_its_proto : (s : ObjectStore) (o : ObjId) (x : Start) → kinds_of (with_its_proto s o x) ≡ kinds_of s
unfolding with_its_proto
kinds-with_its_proto s o x = by x.1
  where
    by : (w : Option ObjId) → kinds_of (option_map_or (λ p. with_proto s o p) w s) ≡ kinds_of s
    by None = refl
    by (Some p) = kinds-changed s o _ (λ x. refl)

kinds-with_protos : (o : ℕ) (xs : List Start) (s : ObjectStore) → kinds_of (with_protos o xs s) ≡ kinds_of s
unfolding with_protos
kinds-with_protos o [] s = refl
kinds-with_protos o (x ∷ xs) s = kinds-with_protos (suc o) xs (with_its_proto s (record { 0 = o }) x) ∙ kinds-with_its_proto s (record { 0 = o }) x

kinds-with_member : (texts : List (List ℕ)) (first : ℕ) (s : ObjectStore) (m : Member) → kinds_of (with_member texts first s m) ≡ kinds_of s
unfolding with_member
kinds-with_member texts first s m = kinds-written texts s m.0 (Name (record { 0 = first + m.1 })) (value_from first m.2) true

kinds-with_members : (texts : List (List ℕ)) (first : ℕ) (ms : List Member) (s : ObjectStore) → kinds_of (fold (with_member texts first) s ms) ≡ kinds_of s
kinds-with_members texts first [] s = refl
kinds-with_members texts first (m ∷ ms) s = kinds-with_members texts first ms (with_member texts first s m) ∙ kinds-with_member texts first s m

kinds-frozen_to : (n : ℕ) (s : ObjectStore) → kinds_of (frozen_to n s) ≡ kinds_of s
unfolding frozen_to
kinds-frozen_to zero s = refl
kinds-frozen_to (suc n) s = kinds-changed (frozen_to n s) _ _ (λ x. refl) ∙ kinds-frozen_to n s

kinds-starts : map (λ x. x.0) starts ≡ map kind_in rows
unfolding starts
kinds-starts = refl

pub kinds_are : (texts : List (List ℕ)) (first objects properties : ℕ) → kinds_of (objects_in texts first objects properties) ≡ map kind_in rows
unfolding filled
kinds_are texts first objects properties =
    let s : ObjectStore = record { objects = []; most_objects = objects; most_properties = properties } in
    kinds-frozen_to 161 (filled texts first s)
    ∙ kinds-with_members texts first members (with_protos 0 starts (fold started s starts))
    ∙ kinds-with_protos 0 starts (fold started s starts)
    ∙ kinds-all_started starts s
    ∙ kinds-starts
