-- An array that is filled with values.
use Rattle.std.proofs.Common.{◌≡◌, ℕ, suc, ◌+◌, ◌<◌, ◌≤◌, cond, Bool, true, false, ◌&&◌, nat_eq, nat_le, is_none, List, [], ◌∷◌, ◌++◌, length, slice_set, Option, Some, None, option_and_then, refl, sym, ap, ◌∙◌, arith, length-append}
use Rattle.std.proofs.lemmas.List.{set-get_or}
use Rattle.std.proofs.lemmas.Option.{get_or_from_slice_get}
use Rattle.std.proofs.lemmas.Bool.Decides.{nat_tests}
use Rattle.std.specs.Option.{option_map_or}
use Rattle.actx_value.specs.declared.ids.ObjId.{ObjId}
use Rattle.actx_value.specs.declared.value.Key.{Key}
use Rattle.actx_value.specs.declared.value.Key.TheVariants.{Index}
use Rattle.actx_value.specs.declared.value.Value.{Value}
use Rattle.actx_objects.specs.declared.kind.Kind.TheVariants.{Plain}
use Rattle.actx_objects.specs.declared.object.Object.{Object}
use Rattle.actx_objects.specs.declared.props.Prop.{Prop}
use Rattle.actx_objects.specs.declared.refusal.SetError.{SetError}
use Rattle.actx_objects.specs.declared.refusal.SetError.TheVariants.{Frozen, Full}
use Rattle.actx_objects.specs.Keys.{key_eq}
use Rattle.actx_objects.specs.Pairs.{at_key, with_key}
use Rattle.actx_objects.specs.Properties.{with_value, mark_of}
use Rattle.actx_objects.specs.Objects.{ObjectStore, property_count, object_at, kind_of, is_frozen, width_of, prop_of, changed}
use Rattle.actx_objects.specs.Writes.{has_no_room, pushed, push_refusal}
use Rattle.actx_request.specs.Limits.{properties_above}
use Rattle.actx_request.specs.Lists.{elements, filled}
use Rattle.actx_request.proofs.Above.{fits, rises}
use Rattle.actx_request.proofs.Resets.{reset, with_props, changed_is_reset, changed-reset, object-reset, count-reset}

length-elements : (i : ℕ) (vs : List Value) → length (elements i vs) ≡ length vs
length-elements i [] = refl
length-elements i (v ∷ vs) = ap suc (length-elements (suc i) vs)

-- nothing stands behind the last element
past_elements : (i n : ℕ) (vs : List Value) → i + length vs ≤ n → at_key key_eq (Index n) (elements i vs) ≡ None
past_elements i n [] h = refl
past_elements i n (v ∷ vs) h =
    let other : nat_eq n i ≡ false = grind (arith, nat_tests) in
    ap (λ b. cond b (Some (record { value = v; hidden = false })) (at_key key_eq (Index n) (elements (suc i) vs))) other ∙ past_elements (suc i) n vs (omega arith)

-- a value there is one element more
element_more : (i n : ℕ) (vs : List Value) (x : Prop) → n ≡ i + length vs → with_key key_eq (Index n) x (elements i vs) ≡ elements i vs ++ (Index n, x) ∷ []
element_more i n [] x h = refl
element_more i n (v ∷ vs) x h =
    let other : nat_eq n i ≡ false = grind (arith, nat_tests) in
    let p : Prop = record { value = v; hidden = false } in
    ap (λ b. cond b ((Index i, x) ∷ elements (suc i) vs) ((Index i, p) ∷ with_key key_eq (Index n) x (elements (suc i) vs))) other
    ∙ ap (λ es. (Index i, p) ∷ es) (element_more (suc i) n vs x (omega arith))

elements-push : (i n : ℕ) (vs : List Value) (v : Value) → n ≡ i + length vs → elements i (vs ++ v ∷ []) ≡ elements i vs ++ (Index n, record { value = v; hidden = false }) ∷ []
elements-push i n [] v h = ap (λ m. (Index m, record { value = v; hidden = false }) ∷ []) (let e : i ≡ n = omega arith in e)
elements-push i n (w ∷ vs) v h = ap (λ es. (Index i, record { value = w; hidden = false }) ∷ es) (elements-push (suc i) n vs v (omega arith))

with_value_past : (vs : List Value) (v : Value) (n : ℕ) → n ≡ length vs → with_value (Index n) v false (elements 0 vs) ≡ elements 0 (vs ++ v ∷ [])
with_value_past vs v n h =
    let at : n ≡ 0 + length vs = omega arith in
    ap (λ w. with_key key_eq (Index n) (record { value = v; hidden = mark_of w false }) (elements 0 vs)) (past_elements 0 n vs (omega arith))
    ∙ element_more 0 n vs (record { value = v; hidden = false }) at
    ∙ sym (elements-push 0 n vs v at)

module _ (s : ObjectStore) (o : ObjId) (x : Object) (at : object_at s o ≡ Some x) (thawed : is_frozen s o ≡ false) (empty : width_of s o ≡ 0) where
  no_props : length x.props ≡ 0
  no_props = sym (ap (λ (w : Option Object). option_map_or (λ (y : Object). length y.props) w 0) at) ∙ empty

  none : (ps : List (Key × Prop)) → length ps ≡ 0 → ps ≡ []
  none [] h = refl
  none (p ∷ ps) h = absurd (omega arith)

  is_reset : (vs : List Value) → filled vs o s ≡ reset s o x at (elements 0 vs)
  is_reset vs = changed_is_reset s o x at (λ _. elements 0 vs)

  pub fill_start : s ≡ filled [] o s
  fill_start =
      let same : with_props s o x at [] ≡ x = ap (λ (ps : List (Key × Prop)). record x { props = ps }) (sym (none x.props no_props)) in
      let back : slice_set s.objects o.0 x ≡ s.objects = ap (λ (y : Object). slice_set s.objects o.0 y) (sym (get_or_from_slice_get s.objects o.0 x x at)) ∙ set-get_or s.objects o.0 x in
      sym (is_reset [] ∙ ap (λ (y : Object). record s { objects = slice_set s.objects o.0 y }) same ∙ ap (λ (os : List Object). record s { objects = os }) back)

  filled_at : (vs : List Value) → object_at (filled vs o s) o ≡ Some (with_props s o x at (elements 0 vs))
  filled_at vs = ap (λ (t : ObjectStore). object_at t o) (is_reset vs) ∙ object-reset s o x at (elements 0 vs)

  pub fill_kind : (vs : List Value) → kind_of (filled vs o s) o ≡ kind_of s o
  fill_kind vs = ap (λ (w : Option Object). option_map_or (λ (y : Object). y.kind) w Plain) (filled_at vs) ∙ sym (ap (λ (w : Option Object). option_map_or (λ (y : Object). y.kind) w Plain) at)

  fill_thawed : (vs : List Value) → is_frozen (filled vs o s) o ≡ false
  fill_thawed vs = ap (λ (w : Option Object). option_map_or (λ (y : Object). y.frozen) w true) (filled_at vs) ∙ sym (ap (λ (w : Option Object). option_map_or (λ (y : Object). y.frozen) w true) at) ∙ thawed

  fill_width : (vs : List Value) → width_of (filled vs o s) o ≡ length vs
  fill_width vs = ap (λ (w : Option Object). option_map_or (λ (y : Object). length y.props) w 0) (filled_at vs) ∙ length-elements 0 vs

  pub fill_step : (vs : List Value) (v : Value) → pushed (filled vs o s) o v ≡ filled (vs ++ v ∷ []) o s
  fill_step vs v =
      ap (λ (t : ObjectStore). changed t o (λ y. record y { props = with_value (Index (width_of (filled vs o s) o)) v false y.props })) (is_reset vs)
      ∙ changed-reset s o x at (elements 0 vs) (with_value (Index (width_of (filled vs o s) o)) v false)
      ∙ ap (reset s o x at) (with_value_past vs v (width_of (filled vs o s) o) (fill_width vs))
      ∙ sym (is_reset (vs ++ v ∷ []))

  fill_count : (vs : List Value) → property_count (filled vs o s).objects ≡ property_count s.objects + length vs
  fill_count vs =
      let e : property_count (filled vs o s).objects ≡ property_count (reset s o x at (elements 0 vs)).objects = ap (λ (t : ObjectStore). property_count t.objects) (is_reset vs) in
      omega (arith, count-reset s o x at (elements 0 vs), length-elements 0 vs, no_props)

  fill_vacant : (vs : List Value) → prop_of (filled vs o s) o (Index (width_of (filled vs o s) o)) ≡ None
  fill_vacant vs =
      ap (λ (w : Option Object). option_and_then (λ (y : Object). at_key key_eq (Index (width_of (filled vs o s) o)) y.props) w) (filled_at vs)
      ∙ past_elements 0 (width_of (filled vs o s) o) vs (let e : width_of (filled vs o s) o ≡ length vs = fill_width vs in omega arith)

  -- what a push says of the room
  room : (vs : List Value) → has_no_room (filled vs o s) o (Index (width_of (filled vs o s) o)) ≡ (nat_le s.most_properties (property_count s.objects + length vs) && true)
  room vs =
      let same : (filled vs o s).most_properties ≡ s.most_properties = ap (λ (t : ObjectStore). t.most_properties) (is_reset vs) in
      ap (λ w. nat_le (filled vs o s).most_properties (property_count (filled vs o s).objects) && is_none w) (fill_vacant vs)
      ∙ ap (λ m. nat_le m (property_count (filled vs o s).objects) && true) same
      ∙ ap (λ n. nat_le s.most_properties n && true) (fill_count vs)

  pub fill_fits : (vs : List Value) (v : Value) → push_refusal (filled vs o s) o ≡ None → properties_above s (filled (vs ++ v ∷ []) o s) ≡ false
  fill_fits vs v h = by (is_frozen (filled vs o s) o) (has_no_room (filled vs o s) o (Index (width_of (filled vs o s) o))) refl h
    where
      by : (a b : Bool) → has_no_room (filled vs o s) o (Index (width_of (filled vs o s) o)) ≡ b → cond a (Some Frozen) (cond b (Some Full) None) ≡ None → properties_above s (filled (vs ++ v ∷ []) o s) ≡ false
      by true b e h = absurd (cc)
      by false true e h = absurd (cc)
      by false false e h =
          let tight : (nat_le s.most_properties (property_count s.objects + length vs) && true) ≡ false = sym (room vs) ∙ e in
          let few : property_count s.objects + length vs < s.most_properties = grind (arith, nat_tests) in
          fits s.most_properties (property_count s.objects) (property_count (filled (vs ++ v ∷ []) o s).objects) (omega (arith, fill_count (vs ++ v ∷ []), length-append vs (v ∷ [])))

  pub fill_full : (vs list : List Value) (e : SetError) → push_refusal (filled vs o s) o ≡ Some e → length vs < length list → properties_above s (filled list o s) ≡ true
  fill_full vs list f h less = by (is_frozen (filled vs o s) o) (has_no_room (filled vs o s) o (Index (width_of (filled vs o s) o))) (fill_thawed vs) refl h
    where
      by : (a b : Bool) → a ≡ false → has_no_room (filled vs o s) o (Index (width_of (filled vs o s) o)) ≡ b → cond a (Some Frozen) (cond b (Some Full) None) ≡ Some f → properties_above s (filled list o s) ≡ true
      by true b i e h = absurd (cc)
      by false false i e h = absurd (cc)
      by false true i e h =
          let tight : (nat_le s.most_properties (property_count s.objects + length vs) && true) ≡ true = sym (room vs) ∙ e in
          let many : s.most_properties ≤ property_count s.objects + length vs = grind (arith, nat_tests) in
          rises s.most_properties (property_count s.objects) (property_count (filled list o s).objects) (omega (arith, fill_count list)) (omega (arith, fill_count list))
