-- The entries of a Map or a Set: each with the place where it was put first. Places only grow, and
-- none is given twice.
use Rattle.std.specs.Prelude.{ℕ, suc, ◌≤◌, ◌<◌, nat_le, List, [], ◌∷◌, Option, is_some, All, ⊤, if◌then◌else◌}
use Rattle.std.specs.List.{find}
use Rattle.std.specs.Option.{option_map, option_map_or}
use Rattle.actx_value.specs.declared.value.Value.{Value}
use Rattle.actx_objects.specs.declared.entries.Placed.{Placed}
use Rattle.actx_objects.specs.Keys.{value_eq}
use Rattle.actx_objects.specs.Pairs.{at_key, with_key, without_key}

-- the entries that stand, in the order of their places, as keys with (place, value); and how many were put
-- under a new key, the dropped ones too, which is the next place
pub record EntryList : Type 0 where
  pub standing : List (Value × Placed)
  pub places : ℕ

abbrev pub entry_in : Value → EntryList → Option Placed
entry_in key es = at_key value_eq key es.standing

-- the place of an entry that is there, or that of a new one
abbrev pub place_in : Value → EntryList → ℕ
place_in key es = option_map_or (λ e. e.place) (entry_in key es) es.places

-- the entries with a value under the key: one that is there keeps its place, and a new one goes last
-- (ECMA-262 §24.1.3.9, §24.2.4.1)
abbrev pub with_entry : Value → Value → EntryList → EntryList
with_entry key v es = record {
  standing = with_key value_eq key (record { place = place_in key es; value = v }) es.standing;
  places = if is_some (entry_in key es) then es.places else suc es.places;
}

-- the entries without the one under the key (ECMA-262 §24.1.3.3, §24.2.4.4)
abbrev pub without_entry : Value → EntryList → EntryList
without_entry key es = record { standing = without_key value_eq key es.standing; places = es.places }

-- no entry stands; the places stay given (ECMA-262 §24.1.3.1, §24.2.4.2)
abbrev pub none_standing : EntryList → EntryList
none_standing es = record { standing = []; places = es.places }

-- the first entry whose place is at least this one, as (place, key, value)
abbrev pub triple_of : Value × Placed → ℕ × Value × Value
triple_of e = (e.1.place, e.0, e.1.value)

abbrev pub first_from : ℕ → EntryList → Option (ℕ × Value × Value)
first_from place es = option_map triple_of (find (λ e. nat_le place e.1.place) es.standing)

-- the places of these entries are at least this one, and each is greater than that of the entry before
abbrev pub AscendFrom : ℕ → List (Value × Placed) → Type 0
AscendFrom place [] = ⊤
AscendFrom place (e ∷ es) = (place ≤ e.1.place) × AscendFrom (suc e.1.place) es

-- the entries stand in the order of their places, each below the next place, which is in 31 bits
pub record StandInOrder (es : EntryList) : Type 0 where
  pub ascending : AscendFrom 0 es.standing
  pub below : All (λ e. e.1.place < es.places) es.standing
  pub few : es.places < 2147483648
