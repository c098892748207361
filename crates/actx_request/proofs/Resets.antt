-- Objects where the properties of one are others.
use Rattle.std.proofs.Common.{◌≡◌, ℕ, zero, suc, ◌+◌, List, [], ◌∷◌, length, get_or, slice_get, slice_set, Some, refl, ap, ◌∙◌, arith}
use Rattle.std.proofs.Math.ListN.{length-set}
use Rattle.std.proofs.lemmas.Option.{get_or_from_slice_get, slice_get_within}
use Rattle.std.proofs.lemmas.List.Sums.{sum_by-set}
use Rattle.std.specs.Option.{option_map_or}
use Rattle.actx_value.specs.declared.ids.ObjId.{ObjId}
use Rattle.actx_value.specs.declared.value.Key.{Key}
use Rattle.actx_objects.specs.declared.object.Object.{Object}
use Rattle.actx_objects.specs.declared.props.Prop.{Prop}
use Rattle.actx_objects.specs.Objects.{ObjectStore, weight_of, property_count, object_at, changed}

-- what stands at a place that was set
pub slice_get-set : {X : Type 0} → (xs : List X) (i : ℕ) (x y : X) → slice_get xs i ≡ Some x → slice_get (slice_set xs i y) i ≡ Some y
slice_get-set [] i x y h = absurd (cc)
slice_get-set (z ∷ zs) zero x y h = refl
slice_get-set (z ∷ zs) (suc i) x y h = slice_get-set zs i x y h

-- the later of two settings
pub slice_set-twice : {X : Type 0} → (xs : List X) (i : ℕ) (y z : X) → slice_set (slice_set xs i y) i z ≡ slice_set xs i z
slice_set-twice [] i y z = refl
slice_set-twice (x ∷ xs) zero y z = refl
slice_set-twice (x ∷ xs) (suc i) y z = ap (λ zs. x ∷ zs) (slice_set-twice xs i y z)

-- a change at an object that is there
pub changed_there : (s : ObjectStore) (o : ObjId) (f : Object → Object) (x : Object) → object_at s o ≡ Some x → changed s o f ≡ record s { objects = slice_set s.objects o.0 (f x) }
changed_there s o f x h = ap (λ w. option_map_or (λ x. record s { objects = slice_set s.objects o.0 (f x) }) w s) h

module _ (s : ObjectStore) (o : ObjId) (x : Object) (at : object_at s o ≡ Some x) where
  -- the object with other properties, and the objects with it
  abbrev pub with_props : List (Key × Prop) → Object
  with_props ps = record x { props = ps }

  abbrev pub reset : List (Key × Prop) → ObjectStore
  reset ps = record s { objects = slice_set s.objects o.0 (with_props ps) }

  pub changed_is_reset : (f : List (Key × Prop) → List (Key × Prop)) → changed s o (λ y. record y { props = f y.props }) ≡ reset (f x.props)
  changed_is_reset f = changed_there s o (λ y. record y { props = f y.props }) x at

  pub object-reset : (ps : List (Key × Prop)) → object_at (reset ps) o ≡ Some (with_props ps)
  object-reset ps = slice_get-set s.objects o.0 x (with_props ps) at

  pub length-reset : (ps : List (Key × Prop)) → length (reset ps).objects ≡ length s.objects
  length-reset ps = length-set s.objects o.0 (with_props ps)

  pub count-reset : (ps : List (Key × Prop)) → property_count (reset ps).objects + length x.props ≡ property_count s.objects + length ps
  count-reset ps =
      let read : weight_of (get_or s.objects o.0 x) ≡ weight_of x = ap weight_of (get_or_from_slice_get s.objects o.0 x x at) in
      omega (arith, sum_by-set weight_of s.objects o.0 (with_props ps) x (slice_get_within s.objects o.0 x at))

  pub changed-reset : (ps : List (Key × Prop)) (f : List (Key × Prop) → List (Key × Prop)) → changed (reset ps) o (λ y. record y { props = f y.props }) ≡ reset (f ps)
  changed-reset ps f =
      changed_there (reset ps) o (λ y. record y { props = f y.props }) (with_props ps) (object-reset ps)
      ∙ ap (λ (os : List Object). record s { objects = os }) (slice_set-twice s.objects o.0 (with_props ps) (with_props (f ps)))
