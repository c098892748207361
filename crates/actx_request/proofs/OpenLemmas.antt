-- The first write of a copy.
use Rattle.std.proofs.Common.{◌≡◌, ℕ, ◌+◌, ◌≤◌, cond, Bool, true, false, ◌&&◌, is_some, List, [], ◌∷◌, length, Option, Some, None, refl, sym, ap, ◌∙◌, subst, arith}
use Rattle.std.proofs.lemmas.Bool.Decides.{nat_tests}
use Rattle.std.specs.Option.{option_map_or}
use Rattle.actx_value.specs.Texts.{TextStore}
use Rattle.actx_value.specs.declared.ids.ObjId.{ObjId}
use Rattle.actx_value.specs.declared.value.Key.{Key}
use Rattle.actx_value.specs.declared.value.Key.TheVariants.{Index, Name}
use Rattle.actx_value.specs.declared.value.Value.{Value}
use Rattle.actx_value.specs.declared.value.Value.TheVariants.{Undefined}
use Rattle.actx_value.specs.declared.value.Answer.TheVariants.{Go}
use Rattle.actx_value.specs.declared.error_kind.ErrorKind.TheVariants.{TypeError}
use Rattle.actx_value.specs.declared.end.Reason.TheVariants.{ArrayProperty as NotElement}
use Rattle.actx_value.specs.declared.end.Which.{Which}
use Rattle.actx_value.specs.declared.end.Which.TheVariants.{Properties, Text}
use Rattle.actx_cells.specs.Scopes.{ScopeStore, count_of}
use Rattle.actx_objects.specs.declared.object.Object.{Object}
use Rattle.actx_objects.specs.declared.props.Prop.{Prop}
use Rattle.actx_objects.specs.declared.kind.Kind.TheVariants.{Plain}
use Rattle.actx_objects.specs.declared.refusal.SetError.{SetError}
use Rattle.actx_objects.specs.declared.refusal.SetError.TheVariants.{Frozen, Gap, ArrayProperty, Full}
use Rattle.actx_objects.specs.Keys.{key_eq, normal_key, is_length}
use Rattle.actx_objects.specs.Kinds.{is_array}
use Rattle.actx_objects.specs.Pairs.{at_key, with_key}
use Rattle.actx_objects.specs.Properties.{with_value, mark_of}
use Rattle.actx_objects.specs.Objects.{ObjectStore, property_count, object_at, kind_of, is_frozen, width_of}
use Rattle.actx_objects.specs.Writes.{array_refusal, earlier, is_full_for, refusal_of, with_property, cut_to, length_in, written}
use Rattle.actx_request.specs.declared.given.Given.{Given}
use Rattle.actx_request.specs.declared.given.Given.TheVariants.{Answer, Throw, OutOfProfile, Limit}
use Rattle.actx_request.specs.Outcomes.{Stores, stores, gives, throws, leaves_profile}
use Rattle.actx_request.specs.Limits.{goes_above, properties_above, objects_above, text_above, first_above, within, IsMet}
use Rattle.actx_request.specs.Copies.{Source, with_pairs, with_pairs_at, copied_to, copy_some}
use Rattle.actx_request.specs.Puts.{IsOpened, IsShut}
use Rattle.actx_request.proofs.Above.{kept, stays}
use Rattle.actx_request.proofs.Resets.{reset, with_props, changed_is_reset, changed-reset, object-reset, count-reset}
use Rattle.actx_request.proofs.WriteLemmas.{length-with_key, length-changed, written_fits, written_above, refused_full, not_refused, thawed_is_there}
use Rattle.actx_request.proofs.PairLemmas.{chain, over, pairs_grow}

-- a key is itself
key_itself : (k : Key) → key_eq k k ≡ true
key_itself (Index i) = grind (arith, nat_tests)
key_itself (Name t) = grind (arith, nat_tests)

module _ (k : Key) where
  -- what stands at a key after a write there
  at-with_key : (x : Prop) (ps : List (Key × Prop)) → at_key key_eq k (with_key key_eq k x ps) ≡ Some x
  at-with_key x [] = ap (λ (b : Bool). cond b (Some x) None) (key_itself k)
  at-with_key x (p ∷ ps) = by (key_eq k p.0) refl (at-with_key x ps)
    where
      by : (b : Bool) → key_eq k p.0 ≡ b → at_key key_eq k (with_key key_eq k x ps) ≡ Some x → at_key key_eq k (cond b ((p.0, x) ∷ ps) (p ∷ with_key key_eq k x ps)) ≡ Some x
      by true e rest = ap (λ (b : Bool). cond b (Some x) (at_key key_eq k ps)) e
      by false e rest = ap (λ (b : Bool). cond b (Some p.1) (at_key key_eq k (with_key key_eq k x ps))) e ∙ rest

  -- the later of two writes at a key
  with_key-twice : (x y : Prop) (ps : List (Key × Prop)) → with_key key_eq k y (with_key key_eq k x ps) ≡ with_key key_eq k y ps
  with_key-twice x y [] = ap (λ (b : Bool). cond b ((k, y) ∷ []) ((k, x) ∷ with_key key_eq k y [])) (key_itself k)
  with_key-twice x y (p ∷ ps) = by (key_eq k p.0) refl (with_key-twice x y ps)
    where
      by : (b : Bool) → key_eq k p.0 ≡ b → with_key key_eq k y (with_key key_eq k x ps) ≡ with_key key_eq k y ps
          → with_key key_eq k y (cond b ((p.0, x) ∷ ps) (p ∷ with_key key_eq k x ps)) ≡ cond b ((p.0, y) ∷ ps) (p ∷ with_key key_eq k y ps)
      by true e rest = ap (λ (b : Bool). cond b ((p.0, y) ∷ ps) ((p.0, x) ∷ with_key key_eq k y ps)) e
      by false e rest = ap (λ (b : Bool). cond b ((p.0, y) ∷ with_key key_eq k x ps) (p ∷ with_key key_eq k y (with_key key_eq k x ps))) e ∙ ap (λ (qs : List (Key × Prop)). p ∷ qs) rest

  with_value-twice : (u v : Value) (ps : List (Key × Prop)) → with_value k v false (with_value k u false ps) ≡ with_value k v false ps
  with_value-twice u v ps =
      let x : Prop = record { value = u; hidden = mark_of (at_key key_eq k ps) false } in
      ap (λ (w : Option Prop). with_key key_eq k (record { value = v; hidden = mark_of w false }) (with_key key_eq k x ps)) (at-with_key x ps)
      ∙ with_key-twice x (record { value = v; hidden = mark_of (at_key key_eq k ps) false }) ps

-- a count that is looked at in two steps
pub same_above : (limit a b c : ℕ) → goes_above limit a b ≡ false → a ≤ b → b ≤ c → goes_above limit a c ≡ goes_above limit b c
same_above limit a b c h less more = by (goes_above limit b c) refl
  where
    by : (w : Bool) → goes_above limit b c ≡ w → goes_above limit a c ≡ w
    by true e = over limit a b c c less e (omega arith)
    by false e = chain limit a b c h e

module _ (texts : TextStore) (s : ObjectStore) (o : ObjId) (k : Key) where
  -- a copy by whether the object is an array and whether it is frozen
  abbrev by_kind : Source → ScopeStore → Given → ObjectStore → Bool → Bool → Type 0
  by_kind c cells g t a f =
      IsMet
      (cond a (leaves_profile NotElement (stores s texts cells)) (cond f (throws (TypeError 4) (stores s texts cells)) (gives Undefined (copied_to o s c (stores s texts cells)))))
      (stores s texts cells) g (stores t texts cells)

  kinds : (c : Source) (cells : ScopeStore) (g : Given) (t : ObjectStore) (a f : Bool) → is_array (kind_of s o) ≡ a → is_frozen s o ≡ f → by_kind c cells g t a f → IsMet (copy_some o c (stores s texts cells)) (stores s texts cells) g (stores t texts cells)
  kinds c cells g t a f i j m =
      subst (λ (b : Bool). by_kind c cells g t b (is_frozen s o)) (sym i) (subst (λ (b : Bool). by_kind c cells g t a b) (sym j) m)

  kinds' : (c : Source) (cells : ScopeStore) (g : Given) (after : Stores) → is_array (kind_of s o) ≡ false → is_frozen s o ≡ false → IsMet (gives Undefined (copied_to o s c (stores s texts cells))) (stores s texts cells) g after → IsMet (copy_some o c (stores s texts cells)) (stores s texts cells) g after
  kinds' c cells g after i j m =
      let P : Bool → Bool → Type 0 = λ a f. IsMet (cond a (leaves_profile NotElement (stores s texts cells)) (cond f (throws (TypeError 4) (stores s texts cells)) (gives Undefined (copied_to o s c (stores s texts cells))))) (stores s texts cells) g after in
      subst (λ (b : Bool). P b (is_frozen s o)) (sym i) (subst (λ (b : Bool). P false b) (sym j) m)

  pub shut_array : (t : ObjectStore) → is_array (kind_of s o) ≡ true → IsShut o k s texts (OutOfProfile NotElement) t
  shut_array t h v rest more same cells = kinds (record { pairs = (k, v) ∷ rest; texts = more }) cells (OutOfProfile NotElement) t true (is_frozen s o) h refl (refl, tt)

  pub shut_frozen : (t : ObjectStore) → is_array (kind_of s o) ≡ false → is_frozen s o ≡ true → t ≡ s → IsShut o k s texts (Throw (TypeError 4)) t
  shut_frozen t h j is v rest more same cells =
      kinds (record { pairs = (k, v) ∷ rest; texts = more }) cells (Throw (TypeError 4)) t false true h j (refl, ap (λ (p : ObjectStore). stores p texts cells) is)

  plain_write : is_array (kind_of s o) ≡ false → written texts.texts s o k Undefined false ≡ with_property s o (normal_key texts.texts k) Undefined false
  plain_write h = ap (λ (b : Bool). cond (b && is_length texts.texts k) (cut_to s o (length_in Undefined)) (with_property s o (normal_key texts.texts k) Undefined false)) h

  module _ (x : Object) (at : object_at s o ≡ Some x) (more : List (List ℕ)) (same : normal_key more k ≡ normal_key texts.texts k) (v : Value) (rest : List (Key × Value)) where
    -- the first write leaves as many properties as with its value, and those after it leave no fewer
    first_least : property_count (with_property s o (normal_key texts.texts k) Undefined false).objects ≤ property_count (with_pairs_at more ((k, v) ∷ rest) o s).objects
    first_least =
        let j : Key = normal_key texts.texts k in
        let ps : List (Key × Prop) = with_value j Undefined false x.props in
        let qs : List (Key × Prop) = with_value j v false x.props in
        let a : property_count (with_property s o j Undefined false).objects ≡ property_count (reset s o x at ps).objects = ap (λ (t : ObjectStore). property_count t.objects) (changed_is_reset s o x at (with_value j Undefined false)) in
        let b : property_count (with_pairs_at more ((k, v) ∷ rest) o s).objects ≡ property_count (reset s o x at (with_pairs more ((k, v) ∷ rest) x.props)).objects = ap (λ (t : ObjectStore). property_count t.objects) (changed_is_reset s o x at (with_pairs more ((k, v) ∷ rest))) in
        let d : length (with_pairs more ((k, v) ∷ rest) x.props) ≡ length (with_pairs more rest qs) = ap (λ (i : Key). length (with_pairs more rest (with_value i v false x.props))) same in
        let m : length ps ≡ length x.props + cond (is_some (at_key key_eq j x.props)) 0 1 = length-with_key key_eq j (record { value = Undefined; hidden = mark_of (at_key key_eq j x.props) false }) x.props in
        let n : length qs ≡ length x.props + cond (is_some (at_key key_eq j x.props)) 0 1 = length-with_key key_eq j (record { value = v; hidden = mark_of (at_key key_eq j x.props) false }) x.props in
        omega (arith, count-reset s o x at ps, count-reset s o x at (with_pairs more ((k, v) ∷ rest) x.props), pairs_grow more rest qs)

    -- after the first write, what is copied from that key on leaves what it leaves without it
    pub opened_same : with_pairs_at more ((k, v) ∷ rest) o (with_property s o (normal_key texts.texts k) Undefined false) ≡ with_pairs_at more ((k, v) ∷ rest) o s
    opened_same =
        let j : Key = normal_key texts.texts k in
        ap (λ (t : ObjectStore). with_pairs_at more ((k, v) ∷ rest) o t) (changed_is_reset s o x at (with_value j Undefined false))
        ∙ changed-reset s o x at (with_value j Undefined false x.props) (with_pairs more ((k, v) ∷ rest))
        ∙ ap (λ (i : Key). reset s o x at (with_pairs more rest (with_value i v false (with_value j Undefined false x.props)))) same
        ∙ ap (λ (ps : List (Key × Prop)). reset s o x at (with_pairs more rest ps)) (with_value-twice j Undefined v x.props)
        ∙ sym (ap (λ (i : Key). reset s o x at (with_pairs more rest (with_value i v false x.props))) same)
        ∙ sym (changed_is_reset s o x at (with_pairs more ((k, v) ∷ rest)))

    pub opened_above : properties_above s (with_property s o (normal_key texts.texts k) Undefined false) ≡ false
        → properties_above s (with_pairs_at more ((k, v) ∷ rest) o s) ≡ properties_above (with_property s o (normal_key texts.texts k) Undefined false) (with_pairs_at more ((k, v) ∷ rest) o (with_property s o (normal_key texts.texts k) Undefined false))
    opened_above fit =
        let j : Key = normal_key texts.texts k in
        let t : ObjectStore = with_property s o j Undefined false in
        let is : t ≡ reset s o x at (with_value j Undefined false x.props) = changed_is_reset s o x at (with_value j Undefined false) in
        let limit : t.most_properties ≡ s.most_properties = ap (λ (u : ObjectStore). u.most_properties) is in
        let a : property_count t.objects ≡ property_count (reset s o x at (with_value j Undefined false x.props)).objects = ap (λ (u : ObjectStore). property_count u.objects) is in
        let m : length (with_value j Undefined false x.props) ≡ length x.props + cond (is_some (at_key key_eq j x.props)) 0 1 = length-with_key key_eq j (record { value = Undefined; hidden = mark_of (at_key key_eq j x.props) false }) x.props in
        let less : property_count s.objects ≤ property_count t.objects = omega (arith, count-reset s o x at (with_value j Undefined false x.props)) in
        same_above s.most_properties (property_count s.objects) (property_count t.objects) (property_count (with_pairs_at more ((k, v) ∷ rest) o s).objects) fit less first_least
        ∙ ap (λ (m : ℕ). goes_above m (property_count t.objects) (property_count (with_pairs_at more ((k, v) ∷ rest) o s).objects)) (sym limit)
        ∙ sym (ap (λ (u : ObjectStore). properties_above t u) opened_same)

  pub shut_full : (t : ObjectStore) → is_array (kind_of s o) ≡ false → refusal_of texts.texts s o k Undefined ≡ Some Full → IsShut o k s texts (Limit Properties) t
  shut_full t h full v rest more same cells =
      let thawed : is_frozen s o ≡ false = (refused_full texts.texts s o k Undefined full).0 in
      let there = thawed_is_there s o thawed in
      let c : Source = record { pairs = (k, v) ∷ rest; texts = more } in
      let whole : ObjectStore = with_pairs_at more ((k, v) ∷ rest) o s in
      let one : properties_above s (with_property s o (normal_key texts.texts k) Undefined false) ≡ true = ap (λ (u : ObjectStore). properties_above s u) (sym (plain_write h)) ∙ written_above texts.texts s o k Undefined false full in
      let many : properties_above s whole ≡ true =
      over s.most_properties (property_count s.objects) (property_count s.objects) (property_count (with_property s o (normal_key texts.texts k) Undefined false).objects) (property_count whole.objects) (omega arith) one (first_least there.0 there.1 more same v rest) in
      let few : objects_above s whole ≡ false = kept s.most_objects (length s.objects) (length whole.objects) (let e : length whole.objects ≡ length s.objects = length-changed s o (λ (y : Object). record y { props = with_pairs more ((k, v) ∷ rest) y.props }) in omega arith) in
      let above : first_above (stores s texts cells) (copied_to o s c (stores s texts cells)) ≡ Some Properties = rw (few, many) refl in
      kinds c cells (Limit Properties) t false false h thawed (sym (ap (within (Answer (Go Undefined))) above), tt)

  pub is_opened : (t : ObjectStore) → is_array (kind_of s o) ≡ false → refusal_of texts.texts s o k Undefined ≡ None → t ≡ written texts.texts s o k Undefined false → IsOpened texts.texts o k s t
  is_opened t h free is = record {
    plain = h;
    thawed = (not_refused texts.texts s o k Undefined free).0;
    opened = is ∙ plain_write h;
    fits = ap (λ (u : ObjectStore). properties_above s u) is ∙ written_fits texts.texts s o k Undefined false free;
  }

  -- an object that is no array refuses no gap and no key
  no_other : (r : SetError) → (r ≡ Frozen → ⊥) → (r ≡ Full → ⊥) → is_array (kind_of s o) ≡ false → refusal_of texts.texts s o k Undefined ≡ Some r → ⊥
  no_other r a b h e = by (is_frozen s o) (is_array (kind_of s o)) (is_full_for texts.texts s o k) h e
    where
      by : (f p q : Bool) → p ≡ false → cond f (Some Frozen) (earlier (cond p (array_refusal texts.texts (width_of s o) k Undefined) None) (cond q (Some Full) None)) ≡ Some r → ⊥
      by true p q h e = a (cc)
      by false true q h e = cc
      by false false true h e = b (cc)
      by false false false h e = cc

  pub no_gap : is_array (kind_of s o) ≡ false → refusal_of texts.texts s o k Undefined ≡ Some Gap → ⊥
  no_gap h e = no_other Gap (λ i. cc) (λ i. cc) h e

  pub no_key : is_array (kind_of s o) ≡ false → refusal_of texts.texts s o k Undefined ≡ Some ArrayProperty → ⊥
  no_key h e = no_other ArrayProperty (λ i. cc) (λ i. cc) h e

  pub frozen_is : is_array (kind_of s o) ≡ false → refusal_of texts.texts s o k Undefined ≡ Some Frozen → is_frozen s o ≡ true
  frozen_is h e = by (is_frozen s o) (is_array (kind_of s o)) (is_full_for texts.texts s o k) h e
    where
      by : (f p q : Bool) → p ≡ false → cond f (Some Frozen) (earlier (cond p (array_refusal texts.texts (width_of s o) k Undefined) None) (cond q (Some Full) None)) ≡ Some Frozen → f ≡ true
      by true p q h e = refl
      by false true q h e = absurd (cc)
      by false false true h e = absurd (cc)
      by false false false h e = absurd (cc)

  -- an object that took the first key is as before, but for it
  module _ (t : ObjectStore) (opened : IsOpened texts.texts o k s t) where
    opened_at : object_at t o ≡ Some (with_props s o (thawed_is_there s o opened.thawed).0 (thawed_is_there s o opened.thawed).1 (with_value (normal_key texts.texts k) Undefined false (thawed_is_there s o opened.thawed).0.props))
    opened_at =
        let there = thawed_is_there s o opened.thawed in
        let j : Key = normal_key texts.texts k in
        ap (λ (u : ObjectStore). object_at u o) (opened.opened ∙ changed_is_reset s o there.0 there.1 (with_value j Undefined false)) ∙ object-reset s o there.0 there.1 (with_value j Undefined false there.0.props)

    pub opened_plain : is_array (kind_of t o) ≡ false
    opened_plain =
        let there = thawed_is_there s o opened.thawed in
        ap (λ (w : Option Object). is_array (option_map_or (λ (y : Object). y.kind) w Plain)) opened_at ∙ sym (ap (λ (w : Option Object). is_array (option_map_or (λ (y : Object). y.kind) w Plain)) there.1) ∙ opened.plain

    pub opened_thawed : is_frozen t o ≡ false
    opened_thawed =
        let there = thawed_is_there s o opened.thawed in
        ap (λ (w : Option Object). option_map_or (λ (y : Object). y.frozen) w true) opened_at ∙ sym (ap (λ (w : Option Object). option_map_or (λ (y : Object). y.frozen) w true) there.1) ∙ opened.thawed

    module _ (v : Value) (rest : List (Key × Value)) (more : TextStore) (same : normal_key more.texts k ≡ normal_key texts.texts k) where
      -- which count goes above its limit, by what the writes after the first one say
      pub opened_first : (cells : ScopeStore) (p q : Bool) → properties_above t (with_pairs_at more.texts ((k, v) ∷ rest) o t) ≡ p → text_above texts (record { texts = more.texts; limit = texts.limit }) ≡ q
          → first_above (stores s texts cells) (copied_to o s (record { pairs = (k, v) ∷ rest; texts = more.texts }) (stores s texts cells)) ≡ cond p (Some Properties) (cond q (Some Text) None)
      opened_first cells p q i j =
          let there = thawed_is_there s o opened.thawed in
          let whole : ObjectStore = with_pairs_at more.texts ((k, v) ∷ rest) o s in
          let fit : properties_above s (with_property s o (normal_key texts.texts k) Undefined false) ≡ false = sym (ap (λ (u : ObjectStore). properties_above s u) opened.opened) ∙ opened.fits in
          let many : properties_above s whole ≡ p =
          opened_above there.0 there.1 more.texts same v rest fit
          ∙ sym (ap (λ (u : ObjectStore). properties_above u (with_pairs_at more.texts ((k, v) ∷ rest) o u)) opened.opened)
          ∙ i in
          let few : objects_above s whole ≡ false = kept s.most_objects (length s.objects) (length whole.objects) (let e : length whole.objects ≡ length s.objects = length-changed s o (λ (y : Object). record y { props = with_pairs more.texts ((k, v) ∷ rest) y.props }) in omega arith) in
          rw (few, many, stays cells.limit (count_of cells.scopes), j) refl

      -- the copy is done
      pub copy_done : (cells : ScopeStore) (u : ObjectStore) → properties_above t (with_pairs_at more.texts ((k, v) ∷ rest) o t) ≡ false → text_above texts (record { texts = more.texts; limit = texts.limit }) ≡ false → u ≡ with_pairs_at more.texts ((k, v) ∷ rest) o t
          → IsMet (copy_some o (record { pairs = (k, v) ∷ rest; texts = more.texts }) (stores s texts cells)) (stores s texts cells) (Answer (Go Undefined)) (stores u (record { texts = more.texts; limit = texts.limit }) cells)
      copy_done cells u i j is =
          let there = thawed_is_there s o opened.thawed in
          let c : Source = record { pairs = (k, v) ∷ rest; texts = more.texts } in
          let left : u ≡ with_pairs_at more.texts ((k, v) ∷ rest) o s = is ∙ ap (λ (w : ObjectStore). with_pairs_at more.texts ((k, v) ∷ rest) o w) opened.opened ∙ opened_same there.0 there.1 more.texts same v rest in
          kinds' c cells (Answer (Go Undefined)) (stores u (record { texts = more.texts; limit = texts.limit }) cells) opened.plain opened.thawed
          (sym (ap (within (Answer (Go Undefined))) (opened_first cells false false i j)), ap (λ (w : ObjectStore). stores w (record { texts = more.texts; limit = texts.limit }) cells) left)

      -- a count goes above its limit
      pub copy_stopped : (cells : ScopeStore) (after : Stores) (p q : Bool) (w : Which) → properties_above t (with_pairs_at more.texts ((k, v) ∷ rest) o t) ≡ p → text_above texts (record { texts = more.texts; limit = texts.limit }) ≡ q → cond p (Some Properties) (cond q (Some Text) None) ≡ Some w
          → IsMet (copy_some o (record { pairs = (k, v) ∷ rest; texts = more.texts }) (stores s texts cells)) (stores s texts cells) (Limit w) after
      copy_stopped cells after p q w i j e =
          kinds' (record { pairs = (k, v) ∷ rest; texts = more.texts }) cells (Limit w) after opened.plain opened.thawed
          (sym (ap (within (Answer (Go Undefined))) (opened_first cells p q i j ∙ e)), tt)
