-- Calls on the entries of Maps and Sets. Keys are equal as by `===`, so texts are equal by their units.
use Rattle.std.specs.Prelude.{ℕ, Bool, List, Option, Some, None, if◌then◌else◌, is_some}
use Rattle.actx_value.specs.declared.value.Value.{Value}
use Rattle.actx_value.specs.declared.ids.ObjId.{ObjId}
use Rattle.actx_objects.specs.declared.refusal.SetError.{SetError}
use Rattle.actx_objects.specs.declared.refusal.SetError.TheVariants.{Full}
use Rattle.actx_objects.specs.Keys.{normal_value}
use Rattle.actx_objects.specs.Entries.{none_standing}
use Rattle.actx_objects.specs.Objects.{ObjectStore, changed, entry_of, entry_put, entry_dropped, has_no_place}

abbrev pub has_entry : List (List ℕ) → ObjectStore → ObjId → Value → Bool
has_entry texts s o key = is_some (entry_of texts s o key)

-- what refuses an entry: the limit alone, since entries don't freeze
abbrev pub put_refusal : List (List ℕ) → ObjectStore → ObjId → Value → Option SetError
put_refusal texts s o key = if has_no_place s o (normal_value texts key) then Some Full else None

-- the objects with a value under the key (ECMA-262 §24.1.3.9, §24.2.4.1)
abbrev pub entry_written : List (List ℕ) → ObjectStore → ObjId → Value → Value → ObjectStore
entry_written texts s o key v = entry_put s o (normal_value texts key) v

-- the objects without the entry under the key (ECMA-262 §24.1.3.3, §24.2.4.4)
abbrev pub entry_left : List (List ℕ) → ObjectStore → ObjId → Value → ObjectStore
entry_left texts s o key = if has_entry texts s o key then entry_dropped s o (normal_value texts key) else s

-- the objects without the entries of one (ECMA-262 §24.1.3.1, §24.2.4.2)
abbrev pub entries_cleared : ObjectStore → ObjId → ObjectStore
entries_cleared s o = changed s o (λ x. record x { entries = none_standing x.entries })
