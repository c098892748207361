-- The opening store: the texts, and the built-in objects by number with their hidden properties, each frozen. Its limits are
-- those of the run, raised by what stands in it.
use Rattle.std.specs.Prelude.{ℕ, zero, suc, ◌+◌, Bool, true, not, ◌&&◌, nat_eq, List, [], ◌∷◌, map, length}
use Rattle.std.specs.List.{fold, list_any}
use Rattle.actx_value.specs.Texts.{TextStore, units_of}
use Rattle.actx_objects.specs.declared.kind.Kind.{Kind}
use Rattle.actx_objects.specs.Objects.{ObjectStore, property_count, frozen_by}
use Rattle.actx_table.specs.Table.{count}
use Rattle.actx_opening.specs.declared.member.Member.{Member}
use Rattle.actx_opening.specs.Starts.{starts, started, with_protos}
use Rattle.actx_opening.specs.Members.{members, with_member}
use Rattle.actx_opening.specs.Texts.{with_literals, opening_texts}

-- the objects, of which so many are frozen
unfoldable pub frozen_to : ℕ → ObjectStore → ObjectStore
frozen_to zero s = s
frozen_to (suc n) s = frozen_by (frozen_to n s) (record { 0 = n })

-- the built-in objects with their prototypes and properties, where `first` is the number of the first word
unfoldable pub filled : List (List ℕ) → ℕ → ObjectStore → ObjectStore
filled texts first s = fold (with_member texts first) (with_protos 0 starts (fold started s starts)) members

-- no two properties have the same holder and the same name
unfoldable pub is_apart : Member → List Member → Bool
is_apart m ms = not (list_any (λ n. nat_eq m.0.0 n.0.0 && nat_eq m.1 n.1) ms)

unfoldable pub are_apart : List Member → Bool
are_apart [] = true
are_apart (m ∷ ms) = is_apart m ms && are_apart ms

-- the built-in objects in an empty store with these limits, each frozen
abbrev pub objects_in : List (List ℕ) → ℕ → ℕ → ℕ → ObjectStore
objects_in texts first objects properties =
    frozen_to count (filled texts first (record { objects = []; most_objects = objects; most_properties = properties }))

-- the same with the greatest limits there are
abbrev pub unbounded : List (List ℕ) → ℕ → ObjectStore
unbounded texts first = objects_in texts first 2147483647 2147483647

-- the same with limits that are raised by what stands there
abbrev pub raised : List (List ℕ) → ℕ → ℕ → ℕ → ObjectStore
raised texts first objects properties =
    objects_in texts first (objects + length (unbounded texts first).objects) (properties + property_count (unbounded texts first).objects)

abbrev pub opening_objects : List (List ℕ) → ℕ → ℕ → ObjectStore
opening_objects literals objects properties =
    raised (opening_texts literals) (length (with_literals literals)) objects properties

-- the kinds of the objects, by number
abbrev pub kinds_of : ObjectStore → List Kind
kinds_of s = map (λ x. x.kind) s.objects

abbrev pub text_store : List (List ℕ) → ℕ → TextStore
text_store literals units = record { texts = opening_texts literals; limit = units + units_of (opening_texts literals) }
