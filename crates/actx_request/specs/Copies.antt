-- Requests that copy the visible properties of a value (CopyDataProperties, ECMA-262 §7.3.25).
use Rattle.std.specs.Prelude.{ℕ, suc, Bool, true, false, not, List, [], ◌∷◌, ◌++◌, map, length, Some, unwrap_or, if◌then◌else◌}
use Rattle.std.specs.List.{filter, list_any, enumerate_from}
use Rattle.actx_value.specs.Texts.{TextStore, text_at}
use Rattle.actx_value.specs.declared.ids.ObjId.{ObjId}
use Rattle.actx_value.specs.declared.value.Key.{Key}
use Rattle.actx_value.specs.declared.value.Key.TheVariants.{Index}
use Rattle.actx_value.specs.declared.value.Value.{Value}
use Rattle.actx_value.specs.declared.value.Value.TheVariants.{Undefined, Null, Text, Object, Scope, Mark}
use Rattle.actx_value.specs.declared.error_kind.ErrorKind.TheVariants.{TypeError}
use Rattle.actx_value.specs.declared.end.Reason.TheVariants.{ArrayProperty}
use Rattle.actx_ops.specs.Conversions.{key_of_value}
use Rattle.actx_objects.specs.declared.props.Prop.{Prop}
use Rattle.actx_objects.specs.declared.kind.Kind.TheVariants.{Plain}
use Rattle.actx_objects.specs.Kinds.{is_array}
use Rattle.actx_objects.specs.Keys.{normal_key}
use Rattle.actx_objects.specs.Properties.{with_value}
use Rattle.actx_objects.specs.Objects.{ObjectStore, kind_of, is_frozen, keys_of, own_of, made, changed}
use Rattle.actx_request.specs.declared.home.Home.{Home}
use Rattle.actx_request.specs.Outcomes.{Stores, Outcome, gives, throws, leaves_profile, stores}
use Rattle.actx_request.specs.Lists.{next_object}
use Rattle.actx_request.specs.Members.{same_key}
use Rattle.actx_request.specs.Writes.{takes_none}

-- ---- what is copied

-- keys with their values, and the texts, to which each unit that is read was added
pub record Source : Type 0 where
  pub pairs : List (Key × Value)
  pub texts : List (List ℕ)

-- whether a key is none of the excluded ones
abbrev pub is_kept : List (List ℕ) → List Value → Key → Bool
is_kept texts excluded k = not (list_any (λ v. same_key texts (key_of_value texts v) k) excluded)

-- the visible properties of an object, in the order of its keys
abbrev pub pair_at : List (List ℕ) → ObjectStore → ObjId → Key → Key × Value
pair_at texts objects o k = (k, unwrap_or (own_of texts objects o k) Undefined)

abbrev pub pairs_of : List (List ℕ) → ObjectStore → List Value → ObjId → List (Key × Value)
pairs_of texts objects excluded o = map (pair_at texts objects o) (filter (is_kept texts excluded) (keys_of objects o))

-- the units of a text with their indices
abbrev pub units_of : List (List ℕ) → List Value → List ℕ → List (ℕ × ℕ)
units_of texts excluded text = filter (λ e. is_kept texts excluded (Index e.0)) (enumerate_from 0 text)

-- each unit as a text of its own, and its number; n texts stand before
abbrev pub unit_texts : List (ℕ × ℕ) → List (List ℕ)
unit_texts es = map (λ e. e.1 ∷ []) es

abbrev pub numbered : ℕ → List (ℕ × ℕ) → List (Key × Value)
numbered n [] = []
numbered n (e ∷ es) = (Index e.0, Text (record { 0 = n })) ∷ numbered (suc n) es

abbrev pub source_of_units : List (List ℕ) → List (ℕ × ℕ) → Source
source_of_units texts es = record { pairs = numbered (length texts) es; texts = texts ++ unit_texts es }

-- the texts to which each unit was added
abbrev pub with_units : List (ℕ × ℕ) → TextStore → TextStore
with_units es t = record { texts = t.texts ++ unit_texts es; limit = t.limit }

-- the keys of units, where their values aren't looked at
abbrev pub blank_pairs : List (ℕ × ℕ) → List (Key × Value)
blank_pairs es = map (λ e. (Index e.0, Undefined)) es

-- objects have properties and texts have units; other values have nothing
abbrev pub source_of : List Value → Value → Stores → Source
source_of excluded (Object o) s = record { pairs = pairs_of s.texts.texts s.objects excluded o; texts = s.texts.texts }
source_of excluded (Text t) s = source_of_units s.texts.texts (units_of s.texts.texts excluded (text_at s.texts.texts t.0))
source_of excluded v s = record { pairs = []; texts = s.texts.texts }

-- ---- what is left

-- properties after visible values were written to their keys, first to last
abbrev pub with_pairs : List (List ℕ) → List (Key × Value) → List (Key × Prop) → List (Key × Prop)
with_pairs texts [] ps = ps
with_pairs texts (e ∷ es) ps = with_pairs texts es (with_value (normal_key texts e.0) e.1 false ps)

abbrev pub with_pairs_at : List (List ℕ) → List (Key × Value) → ObjId → ObjectStore → ObjectStore
with_pairs_at texts pairs o objects = changed objects o (λ x. record x { props = with_pairs texts pairs x.props })

-- the stores where an object got what is copied
abbrev pub copied_to : ObjId → ObjectStore → Source → Stores → Stores
copied_to o objects c s =
    stores (with_pairs_at c.texts c.pairs o objects) (record { texts = c.texts; limit = s.texts.limit }) s.cells

-- ---- Copy (PropertyDefinitionEvaluation of `...`, §13.2.5.5)

abbrev pub is_empty : List (Key × Value) → Bool
is_empty [] = true
is_empty (e ∷ es) = false

-- something is copied to an object that is being written down, which is neither an array nor frozen
abbrev pub copy_some : ObjId → Source → Stores → Outcome
copy_some o c s =
    if is_array (kind_of s.objects o) then leaves_profile ArrayProperty s
    else if is_frozen s.objects o then throws (TypeError 4) s
    else gives Undefined (copied_to o s.objects c s)

abbrev pub copy_to : ObjId → Source → Stores → Outcome
copy_to o c s = if is_empty c.pairs then gives Undefined s else copy_some o c s

-- what is copied from an object, and from a text
abbrev pub copy_pairs : ObjId → List (Key × Value) → Stores → Outcome
copy_pairs o pairs s = copy_to o (record { pairs = pairs; texts = s.texts.texts }) s

abbrev pub copy_units : ObjId → List (ℕ × ℕ) → Stores → Outcome
copy_units o es s = copy_to o (source_of_units s.texts.texts es) s

abbrev pub copy_of : Value → Value → Stores → Outcome
copy_of (Object o) from s = copy_to o (source_of [] from s) s
copy_of target from s = takes_none target s

-- ---- Rest (RestBindingInitialization, §14.3.3.2)

abbrev pub rest_new : Home → Source → Stores → Outcome
rest_new home c s =
    gives (Object (next_object s.objects)) (copied_to (next_object s.objects) (made s.objects Plain (Some home.object)) c s)

abbrev pub rest_pairs : Home → List (Key × Value) → Stores → Outcome
rest_pairs home pairs s = rest_new home (record { pairs = pairs; texts = s.texts.texts }) s

abbrev pub rest_units : Home → List (ℕ × ℕ) → Stores → Outcome
rest_units home es s = rest_new home (source_of_units s.texts.texts es) s

-- `undefined` and `null` are TypeError 3
abbrev pub rest_of : Home → Value → List Value → Stores → Outcome
rest_of home Undefined list s = throws (TypeError 3) s
rest_of home Null list s = throws (TypeError 3) s
rest_of home (Scope x) list s = throws (TypeError 3) s
rest_of home Mark list s = throws (TypeError 3) s
rest_of home v list s = rest_new home (source_of list v s) s
