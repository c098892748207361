-- An object that gets what is copied.
use Rattle.std.proofs.Common.{◌≡◌, ℕ, ◌+◌, ◌<◌, ◌≤◌, cond, Bool, true, false, ◌&&◌, is_some, List, [], ◌∷◌, ◌++◌, length, slice_set, Option, Some, None, refl, sym, ap, ◌∙◌, arith}
use Rattle.std.proofs.lemmas.Bool.Decides.{nat_tests}
use Rattle.std.proofs.lemmas.List.{set-get_or}
use Rattle.std.proofs.lemmas.Option.{get_or_from_slice_get}
use Rattle.std.specs.Option.{option_map_or}
use Rattle.actx_value.specs.declared.ids.ObjId.{ObjId}
use Rattle.actx_value.specs.declared.value.Key.{Key}
use Rattle.actx_value.specs.declared.value.Value.{Value}
use Rattle.actx_objects.specs.declared.kind.Kind.TheVariants.{Plain}
use Rattle.actx_objects.specs.declared.object.Object.{Object}
use Rattle.actx_objects.specs.declared.props.Prop.{Prop}
use Rattle.actx_objects.specs.declared.refusal.SetError.{SetError}
use Rattle.actx_objects.specs.declared.refusal.SetError.TheVariants.{Frozen, Full}
use Rattle.actx_objects.specs.Keys.{key_eq, normal_key, is_length}
use Rattle.actx_objects.specs.Kinds.{is_array}
use Rattle.actx_objects.specs.Pairs.{at_key}
use Rattle.actx_objects.specs.Properties.{with_value, mark_of}
use Rattle.actx_objects.specs.Objects.{ObjectStore, property_count, object_at, kind_of, is_frozen, width_of, changed}
use Rattle.actx_objects.specs.Writes.{array_refusal, earlier, is_full_for, refusal_of, with_property, cut_to, length_in, written}
use Rattle.actx_request.specs.Limits.{goes_above, properties_above}
use Rattle.actx_request.specs.Copies.{with_pairs, with_pairs_at}
use Rattle.actx_request.proofs.Above.{rises}
use Rattle.actx_request.proofs.Resets.{reset, with_props, changed_is_reset, changed-reset, object-reset, count-reset}
use Rattle.actx_request.proofs.WriteLemmas.{length-with_key, written_fits, written_above}

-- two steps that stay within a limit
pub chain : (limit a b c : ℕ) → goes_above limit a b ≡ false → goes_above limit b c ≡ false → goes_above limit a c ≡ false
chain limit a b c h j = grind (arith, nat_tests)

-- a step above a limit, and no fall before or after
pub over : (limit a b c d : ℕ) → a ≤ b → goes_above limit b c ≡ true → c ≤ d → goes_above limit a d ≡ true
over limit a b c d less h more =
    let up : b < c = grind (arith, nat_tests) in
    let high : limit < c = grind (arith, nat_tests) in
    rises limit a d (omega arith) (omega arith)

module _ (texts : List (List ℕ)) where
  pub pairs-append : (es fs : List (Key × Value)) (ps : List (Key × Prop)) → with_pairs texts (es ++ fs) ps ≡ with_pairs texts fs (with_pairs texts es ps)
  pairs-append [] fs ps = refl
  pairs-append (e ∷ es) fs ps = pairs-append es fs (with_value (normal_key texts e.0) e.1 false ps)

  pub pairs_grow : (es : List (Key × Value)) (ps : List (Key × Prop)) → length ps ≤ length (with_pairs texts es ps)
  pairs_grow [] ps = omega arith
  pairs_grow (e ∷ es) ps =
      let k : Key = normal_key texts e.0 in
      let one : length (with_value k e.1 false ps) ≡ length ps + cond (is_some (at_key key_eq k ps)) 0 1 = length-with_key key_eq k (record { value = e.1; hidden = mark_of (at_key key_eq k ps) false }) ps in
      let rest : length (with_value k e.1 false ps) ≤ length (with_pairs texts es (with_value k e.1 false ps)) = pairs_grow es (with_value k e.1 false ps) in
      omega arith

  module _ (s : ObjectStore) (o : ObjId) (x : Object) (at : object_at s o ≡ Some x) (thawed : is_frozen s o ≡ false) where
    is_reset : (es : List (Key × Value)) → with_pairs_at texts es o s ≡ reset s o x at (with_pairs texts es x.props)
    is_reset es = changed_is_reset s o x at (with_pairs texts es)

    pub put_start : s ≡ with_pairs_at texts [] o s
    put_start =
        let back : slice_set s.objects o.0 x ≡ s.objects = ap (λ (y : Object). slice_set s.objects o.0 y) (sym (get_or_from_slice_get s.objects o.0 x x at)) ∙ set-get_or s.objects o.0 x in
        sym (is_reset [] ∙ ap (λ (os : List Object). record s { objects = os }) back)

    put_at : (es : List (Key × Value)) → object_at (with_pairs_at texts es o s) o ≡ Some (with_props s o x at (with_pairs texts es x.props))
    put_at es = ap (λ (t : ObjectStore). object_at t o) (is_reset es) ∙ object-reset s o x at (with_pairs texts es x.props)

    put_kind : (es : List (Key × Value)) → kind_of (with_pairs_at texts es o s) o ≡ kind_of s o
    put_kind es = ap (λ (w : Option Object). option_map_or (λ (y : Object). y.kind) w Plain) (put_at es) ∙ sym (ap (λ (w : Option Object). option_map_or (λ (y : Object). y.kind) w Plain) at)

    put_thawed : (es : List (Key × Value)) → is_frozen (with_pairs_at texts es o s) o ≡ false
    put_thawed es = ap (λ (w : Option Object). option_map_or (λ (y : Object). y.frozen) w true) (put_at es) ∙ sym (ap (λ (w : Option Object). option_map_or (λ (y : Object). y.frozen) w true) at) ∙ thawed

    pub put_count : (es : List (Key × Value)) → property_count (with_pairs_at texts es o s).objects + length x.props ≡ property_count s.objects + length (with_pairs texts es x.props)
    put_count es =
        let e : property_count (with_pairs_at texts es o s).objects ≡ property_count (reset s o x at (with_pairs texts es x.props)).objects = ap (λ (t : ObjectStore). property_count t.objects) (is_reset es) in
        omega (arith, count-reset s o x at (with_pairs texts es x.props))

    put_limit : (es : List (Key × Value)) → (with_pairs_at texts es o s).most_properties ≡ s.most_properties
    put_limit es = ap (λ (t : ObjectStore). t.most_properties) (is_reset es)

    -- more pairs are no fewer properties
    put_more : (es fs : List (Key × Value)) → property_count (with_pairs_at texts es o s).objects ≤ property_count (with_pairs_at texts (es ++ fs) o s).objects
    put_more es fs =
        let e : length (with_pairs texts (es ++ fs) x.props) ≡ length (with_pairs texts fs (with_pairs texts es x.props)) = ap length (pairs-append es fs x.props) in
        omega (arith, put_count es, put_count (es ++ fs), pairs_grow fs (with_pairs texts es x.props))

    module _ (plain : is_array (kind_of s o) ≡ false) where
      put_plain : (es : List (Key × Value)) → is_array (kind_of (with_pairs_at texts es o s) o) ≡ false
      put_plain es = ap is_array (put_kind es) ∙ plain

      pub put_step : (es : List (Key × Value)) (k : Key) (v : Value) → written texts (with_pairs_at texts es o s) o k v false ≡ with_pairs_at texts (es ++ (k, v) ∷ []) o s
      put_step es k v =
          let t : ObjectStore = with_pairs_at texts es o s in
          ap (λ b. cond (b && is_length texts k) (cut_to t o (length_in v)) (with_property t o (normal_key texts k) v false)) (put_plain es)
          ∙ ap (λ (u : ObjectStore). changed u o (λ y. record y { props = with_value (normal_key texts k) v false y.props })) (is_reset es)
          ∙ changed-reset s o x at (with_pairs texts es x.props) (with_value (normal_key texts k) v false)
          ∙ ap (reset s o x at) (sym (pairs-append es ((k, v) ∷ []) x.props))
          ∙ sym (is_reset (es ++ (k, v) ∷ []))

      pub put_fits : (es : List (Key × Value)) (k : Key) (v : Value) → properties_above s (with_pairs_at texts es o s) ≡ false → refusal_of texts (with_pairs_at texts es o s) o k v ≡ None → properties_above s (written texts (with_pairs_at texts es o s) o k v false) ≡ false
      put_fits es k v h free =
          let t : ObjectStore = with_pairs_at texts es o s in
          let next : properties_above t (written texts t o k v false) ≡ false = written_fits texts t o k v false free in
          let next' : goes_above s.most_properties (property_count t.objects) (property_count (written texts t o k v false).objects) ≡ false = ap (λ m. goes_above m (property_count t.objects) (property_count (written texts t o k v false).objects)) (sym (put_limit es)) ∙ next in
          chain s.most_properties (property_count s.objects) (property_count t.objects) (property_count (written texts t o k v false).objects) h next'

      only_full : (es : List (Key × Value)) (k : Key) (v : Value) (f : SetError) → refusal_of texts (with_pairs_at texts es o s) o k v ≡ Some f → refusal_of texts (with_pairs_at texts es o s) o k v ≡ Some Full
      only_full es k v f h =
          by (is_frozen t o) (is_array (kind_of t o)) (is_full_for texts t o k) (put_thawed es) (put_plain es) h
        where
          t : ObjectStore
          t = with_pairs_at texts es o s

          by : (a b c : Bool) → a ≡ false → b ≡ false → cond a (Some Frozen) (earlier (cond b (array_refusal texts (width_of (with_pairs_at texts es o s) o) k v) None) (cond c (Some Full) None)) ≡ Some f
              → cond a (Some Frozen) (earlier (cond b (array_refusal texts (width_of (with_pairs_at texts es o s) o) k v) None) (cond c (Some Full) None)) ≡ Some Full
          by true b c i j h = absurd (cc)
          by false true c i j h = absurd (cc)
          by false false true i j h = refl
          by false false false i j h = absurd (cc)

      pub put_full : (es rest : List (Key × Value)) (k : Key) (v : Value) (f : SetError) → refusal_of texts (with_pairs_at texts es o s) o k v ≡ Some f → properties_above s (with_pairs_at texts (es ++ (k, v) ∷ rest) o s) ≡ true
      put_full es rest k v f refused =
          let t : ObjectStore = with_pairs_at texts es o s in
          let u : ObjectStore = written texts t o k v false in
          let whole : ObjectStore = with_pairs_at texts (es ++ (k, v) ∷ rest) o s in
          let next : properties_above t u ≡ true = written_above texts t o k v false (only_full es k v f refused) in
          let next' : goes_above s.most_properties (property_count t.objects) (property_count u.objects) ≡ true = ap (λ m. goes_above m (property_count t.objects) (property_count u.objects)) (sym (put_limit es)) ∙ next in
          let less : property_count s.objects ≤ property_count t.objects = omega (arith, put_count es, pairs_grow es x.props) in
          let step : property_count u.objects ≡ property_count (with_pairs_at texts (es ++ (k, v) ∷ []) o s).objects = ap (λ (w : ObjectStore). property_count w.objects) (put_step es k v) in
          let grown : length (with_pairs texts (es ++ (k, v) ∷ []) x.props) ≤ length (with_pairs texts (es ++ (k, v) ∷ rest) x.props) =
          rw (pairs-append es ((k, v) ∷ []) x.props, pairs-append es ((k, v) ∷ rest) x.props) (pairs_grow rest (with_value (normal_key texts k) v false (with_pairs texts es x.props))) in
          let more : property_count u.objects ≤ property_count whole.objects = omega (arith, put_count (es ++ (k, v) ∷ []), put_count (es ++ (k, v) ∷ rest)) in
          over s.most_properties (property_count s.objects) (property_count t.objects) (property_count u.objects) (property_count whole.objects) less next' more
