-- What the parts of a copy are to do: the first key, and all pairs.
use Rattle.std.specs.Prelude.{◌≡◌, ℕ, false, List, [], ◌∷◌, length, Option, Some, None, if◌then◌else◌}
use Rattle.actx_value.specs.Texts.{TextStore}
use Rattle.actx_value.specs.declared.ids.ObjId.{ObjId}
use Rattle.actx_value.specs.declared.value.Key.{Key}
use Rattle.actx_value.specs.declared.value.Key.TheVariants.{Index}
use Rattle.actx_value.specs.declared.value.Value.{Value}
use Rattle.actx_value.specs.declared.value.Value.TheVariants.{Undefined}
use Rattle.actx_value.specs.declared.end.Which.{Which}
use Rattle.actx_value.specs.declared.end.Which.TheVariants.{Properties, Text}
use Rattle.actx_objects.specs.Kinds.{is_array}
use Rattle.actx_objects.specs.Keys.{normal_key}
use Rattle.actx_objects.specs.Objects.{ObjectStore, kind_of, is_frozen}
use Rattle.actx_objects.specs.Writes.{with_property}
use Rattle.actx_request.specs.declared.given.Given.{Given}
use Rattle.actx_request.specs.Limits.{MeetsObjects, properties_above, text_above}
use Rattle.actx_request.specs.Copies.{with_pairs_at, with_units, numbered, copy_some}

-- the first key
abbrev pub first_key : List (Key × Value) → Option Key
first_key [] = None
first_key (e ∷ es) = Some e.0

abbrev pub first_index : List (ℕ × ℕ) → Option Key
first_index [] = None
first_index (e ∷ es) = Some (Index e.0)

-- an object took the first key, without its value
pub record IsOpened (texts : List (List ℕ)) (o : ObjId) (k : Key) (before after : ObjectStore) : Type 0 where
  pub plain : is_array (kind_of before o) ≡ false
  pub thawed : is_frozen before o ≡ false
  pub opened : after ≡ with_property before o (normal_key texts k) Undefined false
  pub fits : properties_above before after ≡ false

-- it took none: whatever is copied from that key on, the request gives this. `more` are the texts after it, where the key is
-- the same
abbrev pub IsShut : ObjId → Key → ObjectStore → TextStore → Given → ObjectStore → Type 0
IsShut o k before texts g after =
    (v : Value) (rest : List (Key × Value)) (more : List (List ℕ)) → normal_key more k ≡ normal_key texts.texts k → MeetsObjects (copy_some o (record { pairs = (k, v) ∷ rest; texts = more })) before texts g after texts

-- the objects after units were copied, and the first count that goes above its limit then
abbrev pub with_units_at : List (ℕ × ℕ) → ObjId → ObjectStore → TextStore → ObjectStore
with_units_at es o objects texts = with_pairs_at (with_units es texts).texts (numbered (length texts.texts) es) o objects

abbrev pub units_above : List (ℕ × ℕ) → ObjId → ObjectStore → TextStore → Option Which
units_above es o objects texts =
    if properties_above objects (with_units_at es o objects texts) then Some Properties
    else if text_above texts (with_units es texts) then Some Text
    else None
