-- Units that are added as texts.
use Rattle.std.proofs.Common.{◌≡◌, ℕ, suc, ◌+◌, ◌<◌, ◌≤◌, Bool, true, false, not, cond, Some, None, List, [], ◌∷◌, ◌++◌, length, map, refl, sym, ap, ◌∙◌, arith}
use Rattle.std.proofs.lemmas.List.Sums.{sum_by-append, sum_by-cons}
use Rattle.actx_value.specs.Texts.{TextStore, units_of}
use Rattle.actx_value.specs.declared.value.Key.{Key}
use Rattle.actx_value.specs.declared.value.Key.TheVariants.{Index}
use Rattle.actx_value.specs.declared.value.Value.{Value}
use Rattle.actx_value.specs.declared.value.Value.TheVariants.{Text, Undefined}
use Rattle.actx_objects.specs.declared.props.Prop.{Prop}
use Rattle.actx_objects.specs.Keys.{key_eq}
use Rattle.actx_objects.specs.Pairs.{with_key}
use Rattle.actx_objects.specs.Properties.{with_value}
use Rattle.actx_value.specs.declared.ids.ObjId.{ObjId}
use Rattle.actx_value.specs.declared.end.Which.TheVariants.{Properties, Text as Above}
use Rattle.actx_objects.specs.declared.object.Object.{Object}
use Rattle.actx_objects.specs.Objects.{ObjectStore, object_at, property_count}
use Rattle.actx_request.specs.Limits.{goes_above, properties_above, text_above}
use Rattle.actx_request.specs.Puts.{with_units_at, units_above}
use Rattle.actx_request.proofs.Resets.{reset, changed_is_reset, count-reset}
use Rattle.actx_request.specs.Copies.{unit_texts, numbered, blank_pairs, with_units, with_pairs, with_pairs_at}
use Rattle.actx_request.proofs.Above.{fits, rises}

units-units : (es : List (ℕ × ℕ)) → units_of (unit_texts es) ≡ length es
units-units [] = refl
units-units (e ∷ es) =
    let rest : units_of (unit_texts es) ≡ length es = units-units es in
    let one : units_of ((e.1 ∷ []) ∷ unit_texts es) ≡ suc 0 + units_of (unit_texts es) = sum_by-cons length (e.1 ∷ []) (unit_texts es) in
    omega arith

pub units-with_units : (es : List (ℕ × ℕ)) (t : TextStore) → units_of (with_units es t).texts ≡ units_of t.texts + length es
units-with_units es t = omega (arith, sum_by-append length t.texts (unit_texts es), units-units es)

unit_texts-push : (es : List (ℕ × ℕ)) (e : ℕ × ℕ) → unit_texts (es ++ e ∷ []) ≡ unit_texts es ++ (e.1 ∷ []) ∷ []
unit_texts-push [] e = refl
unit_texts-push (d ∷ es) e = ap (λ (ts : List (List ℕ)). (d.1 ∷ []) ∷ ts) (unit_texts-push es e)

append-assoc : {X : Type 0} (ws bs cs : List X) → ws ++ (bs ++ cs) ≡ (ws ++ bs) ++ cs
append-assoc [] bs cs = refl
append-assoc (w ∷ ws) bs cs = ap (λ xs. w ∷ xs) (append-assoc ws bs cs)

-- one unit more
pub with_units-push : (es : List (ℕ × ℕ)) (e : ℕ × ℕ) (t : TextStore) → with_units (es ++ e ∷ []) t ≡ record { texts = (with_units es t).texts ++ (e.1 ∷ []) ∷ []; limit = t.limit }
with_units-push es e t =
    ap (λ (ts : List (List ℕ)). let u : TextStore = record { texts = ts; limit = t.limit } in u)
    (ap (λ (us : List (List ℕ)). t.texts ++ us) (unit_texts-push es e) ∙ append-assoc t.texts (unit_texts es) ((e.1 ∷ []) ∷ []))

pub numbered-push : (n m : ℕ) (es : List (ℕ × ℕ)) (e : ℕ × ℕ) → m ≡ n + length es → numbered n (es ++ e ∷ []) ≡ numbered n es ++ (Index e.0, Text (record { 0 = m })) ∷ []
numbered-push n m [] e h = ap (λ (k : ℕ). (Index e.0, Text (record { 0 = k })) ∷ []) (let j : n ≡ m = omega arith in j)
numbered-push n m (d ∷ es) e h = ap (λ (ps : List (Key × Value)). (Index d.0, Text (record { 0 = n })) ∷ ps) (numbered-push (suc n) m es e (omega arith))

length-unit_texts : (es : List (ℕ × ℕ)) → length (unit_texts es) ≡ length es
length-unit_texts [] = refl
length-unit_texts (e ∷ es) = ap suc (length-unit_texts es)

length-append' : {X : Type 0} (ws bs : List X) → length (ws ++ bs) ≡ length ws + length bs
length-append' [] bs = omega arith
length-append' (w ∷ ws) bs = let h : length (ws ++ bs) ≡ length ws + length bs = length-append' ws bs in omega arith

pub length-with_units : (es : List (ℕ × ℕ)) (t : TextStore) → length (with_units es t).texts ≡ length t.texts + length es
length-with_units es t = omega (arith, length-append' t.texts (unit_texts es), length-unit_texts es)

-- a unit that the limit refuses, and one that it takes
pub units_full : (es : List (ℕ × ℕ)) (i : ℕ) (t : TextStore) (some : List (ℕ × ℕ)) → length some ≡ i → i < length es → t.limit < units_of (with_units some t).texts + 1 → text_above t (with_units es t) ≡ true
units_full es i t some long less high =
    rises t.limit (units_of t.texts) (units_of (with_units es t).texts) (omega (arith, units-with_units es t)) (omega (arith, units-with_units es t, units-with_units some t))

pub units_fit : (es : List (ℕ × ℕ)) (e : ℕ × ℕ) (t : TextStore) → units_of (with_units es t).texts + 1 ≤ t.limit → text_above t (with_units (es ++ e ∷ []) t) ≡ false
units_fit es e t room =
    fits t.limit (units_of t.texts) (units_of (with_units (es ++ e ∷ []) t).texts) (omega (arith, units-with_units (es ++ e ∷ []) t, units-with_units es t, length-append' es (e ∷ [])))

-- ---- keys without values

-- keys with one more where it isn't there
abbrev with_one : Key → List Key → List Key
with_one k [] = k ∷ []
with_one k (j ∷ js) = cond (key_eq k j) (j ∷ js) (j ∷ with_one k js)

abbrev keys : List (Key × Prop) → List Key
keys ps = map (λ p. p.0) ps

keys-with_key : (k : Key) (x : Prop) (ps : List (Key × Prop)) → keys (with_key key_eq k x ps) ≡ with_one k (keys ps)
keys-with_key k x [] = refl
keys-with_key k x (p ∷ ps) = by (key_eq k p.0) (keys-with_key k x ps)
  where
    by : (b : Bool) → keys (with_key key_eq k x ps) ≡ with_one k (keys ps) → keys (cond b ((p.0, x) ∷ ps) (p ∷ with_key key_eq k x ps)) ≡ cond b (p.0 ∷ keys ps) (p.0 ∷ with_one k (keys ps))
    by true h = refl
    by false h = ap (λ (js : List Key). p.0 ∷ js) h

keys-blank : (ts us : List (List ℕ)) (es : List (ℕ × ℕ)) (n : ℕ) (ps qs : List (Key × Prop)) → keys ps ≡ keys qs → keys (with_pairs ts (blank_pairs es) ps) ≡ keys (with_pairs us (numbered n es) qs)
keys-blank ts us [] n ps qs h = h
keys-blank ts us (e ∷ es) n ps qs h =
    keys-blank ts us es (suc n) (with_value (Index e.0) Undefined false ps) (with_value (Index e.0) (Text (record { 0 = n })) false qs)
    (keys-with_key (Index e.0) _ ps ∙ ap (with_one (Index e.0)) h ∙ sym (keys-with_key (Index e.0) _ qs))

length-keys : (ps : List (Key × Prop)) → length (keys ps) ≡ length ps
length-keys [] = refl
length-keys (p ∷ ps) = ap suc (length-keys ps)

-- as many properties as with values
pub length-blank : (ts us : List (List ℕ)) (es : List (ℕ × ℕ)) (n : ℕ) (ps : List (Key × Prop)) → length (with_pairs ts (blank_pairs es) ps) ≡ length (with_pairs us (numbered n es) ps)
length-blank ts us es n ps = sym (length-keys (with_pairs ts (blank_pairs es) ps)) ∙ ap length (keys-blank ts us es n ps ps refl) ∙ length-keys (with_pairs us (numbered n es) ps)

-- ---- which count goes above its limit first

-- as many properties as with values, whatever the texts are
pub blank_above : (s : ObjectStore) (o : ObjId) (x : Object) → object_at s o ≡ Some x → (ts : List (List ℕ)) (es : List (ℕ × ℕ)) (t : TextStore) → properties_above s (with_pairs_at ts (blank_pairs es) o s) ≡ properties_above s (with_units_at es o s t)
blank_above s o x at ts es t =
    let us : List (List ℕ) = (with_units es t).texts in
    let n : ℕ = length t.texts in
    let a : property_count (with_pairs_at ts (blank_pairs es) o s).objects ≡ property_count (reset s o x at (with_pairs ts (blank_pairs es) x.props)).objects = ap (λ (u : ObjectStore). property_count u.objects) (changed_is_reset s o x at (with_pairs ts (blank_pairs es))) in
    let b : property_count (with_units_at es o s t).objects ≡ property_count (reset s o x at (with_pairs us (numbered n es) x.props)).objects = ap (λ (u : ObjectStore). property_count u.objects) (changed_is_reset s o x at (with_pairs us (numbered n es))) in
    let same : length (with_pairs ts (blank_pairs es) x.props) ≡ length (with_pairs us (numbered n es) x.props) = length-blank ts us es n x.props in
    ap (λ (m : ℕ). goes_above s.most_properties (property_count s.objects) m) (let e : property_count (with_pairs_at ts (blank_pairs es) o s).objects ≡ property_count (with_units_at es o s t).objects = omega (arith, count-reset s o x at (with_pairs ts (blank_pairs es) x.props), count-reset s o x at (with_pairs us (numbered n es) x.props)) in e)

pub not_true : (p : Bool) → true ≡ not p → p ≡ false
not_true true h = absurd (cc)
not_true false h = refl

pub not_false : (p : Bool) → false ≡ not p → p ≡ true
not_false true h = refl
not_false false h = absurd (cc)

pub above_by : (es : List (ℕ × ℕ)) (o : ObjId) (s : ObjectStore) (t : TextStore) (p q : Bool) → properties_above s (with_units_at es o s t) ≡ p → text_above t (with_units es t) ≡ q → cond p (Some Properties) (cond q (Some Above) None) ≡ units_above es o s t
above_by es o s t p q i j = sym (rw (i, j) refl)
