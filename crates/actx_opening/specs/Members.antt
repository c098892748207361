-- The properties of the built-in objects. All are hidden.
use Rattle.std.specs.Prelude.{ℕ, ◌+◌, true, ◌==◌, pos, negsuc, List, [], ◌∷◌, ◌++◌, map, Option, Some, None, position, unwrap_or, codes, if◌then◌else◌}
use Rattle.std.specs.List.{filter_map}
use Rattle.std.specs.Option.{option_map, option_map_or, option_and_then}
use Rattle.actx_value.specs.Texts.{texts_eq}
use Rattle.actx_value.specs.declared.ids.ObjId.{ObjId}
use Rattle.actx_value.specs.declared.value.Key.TheVariants.{Name}
use Rattle.actx_value.specs.declared.value.Value.{Value}
use Rattle.actx_value.specs.declared.value.Value.TheVariants.{Num, Text, Object}
use Rattle.actx_objects.specs.Objects.{ObjectStore}
use Rattle.actx_objects.specs.Writes.{written}
use Rattle.actx_table.specs.Table.{Row, rows, number_at}
use Rattle.actx_opening.specs.Words.{words}
use Rattle.actx_opening.specs.declared.member.Given.{Given}
use Rattle.actx_opening.specs.declared.member.Given.TheVariants as given
use Rattle.actx_opening.specs.declared.member.Member.{Member}

-- the object with this path; each path below is one of the table
abbrev pub object : List ℕ → ObjId
object path = record { 0 = unwrap_or (number_at path) 0 }

-- the place of a word
abbrev pub place_of : List ℕ → ℕ
place_of word = unwrap_or (position (texts_eq word) words) 0

-- what is before the last dot of a path, and what is behind it, where there is a dot
abbrev pub parts : List ℕ → Option (List ℕ × List ℕ)
parts [] = None
parts (u ∷ us) = option_map_or (λ p. Some (u ∷ p.0, p.1)) (parts us) (if u == 0x2E then Some ([], us) else None)

-- a property whose value is the object with a path
abbrev pub holding : List ℕ → List ℕ → List ℕ → Member
holding holder name path = record { 0 = object holder; 1 = place_of name; 2 = given.Object (object path) }

abbrev pub text_given : List ℕ → Given
text_given [] = given.Empty
text_given (u ∷ us) = given.Text (place_of (u ∷ us))

-- a property whose value is a text
abbrev pub saying : List ℕ → List ℕ → List ℕ → Member
saying holder name text = record { 0 = object holder; 1 = place_of name; 2 = text_given text }

-- each object that is a member of another one of the table, by its path
abbrev pub member_in : List ℕ → List ℕ × List ℕ → Option Member
member_in path p = option_map (λ n. holding p.0 p.1 path) (number_at p.0)

abbrev pub member_of : Row → Option Member
member_of r = option_and_then (member_in r.path) (parts r.path)

-- the members of what `require` gives that stand elsewhere too, and the numbers of `Number` (ECMA-262 §21.1.2.6, §21.1.2.8)
abbrev pub further_members : List Member
further_members =
    holding (codes "async_hooks") (codes "AsyncLocalStorage") (codes "AsyncLocalStorage")
    ∷ holding (codes "async_hooks") (codes "AsyncResource") (codes "AsyncResource")
    ∷ holding (codes "events") (codes "EventEmitter") (codes "events")
    ∷ holding (codes "timers") (codes "setTimeout") (codes "setTimeout")
    ∷ holding (codes "timers") (codes "setInterval") (codes "setInterval")
    ∷ holding (codes "timers") (codes "setImmediate") (codes "setImmediate")
    ∷ holding (codes "timers") (codes "clearTimeout") (codes "clearTimeout")
    ∷ holding (codes "timers") (codes "clearInterval") (codes "clearInterval")
    ∷ holding (codes "timers") (codes "clearImmediate") (codes "clearImmediate")
    ∷ record { 0 = object (codes "Number"); 1 = place_of (codes "MAX_SAFE_INTEGER"); 2 = given.Number (pos 9007199254740991) }
    ∷ record { 0 = object (codes "Number"); 1 = place_of (codes "MIN_SAFE_INTEGER"); 2 = given.Number (negsuc 9007199254740990) }
    ∷ []

-- the name of a function: the last part of its path, but that of what `require('events')` gives is `EventEmitter` (§10.2.9)
abbrev pub last_part : List ℕ → List ℕ
last_part path = if texts_eq path (codes "events") then codes "EventEmitter" else option_map_or (λ p. p.1) (parts path) path

abbrev pub naming : Row → Option Member
naming r = option_map (λ b. saying r.path (codes "name") (last_part r.path)) r.built

-- the `constructor` of the prototype of a function of the table (§20.1.3.1 and so on)
abbrev pub constructor_in : List ℕ → List ℕ × List ℕ → Option Member
constructor_in path p = if texts_eq p.1 (codes "prototype") then option_map (λ n. holding path (codes "constructor") p.0) (number_at p.0) else None

abbrev pub constructor_of : Row → Option Member
constructor_of r = option_and_then (constructor_in r.path) (parts r.path)

-- the constructors of errors (§20.5)
abbrev pub error_names : List (List ℕ)
error_names = codes "Error" ∷ codes "TypeError" ∷ codes "RangeError" ∷ codes "ReferenceError" ∷ codes "AggregateError" ∷ []

-- `name` and `message` of their prototypes (§20.5.3.2, §20.5.3.3, §20.5.6.3.2, §20.5.6.3.3)
abbrev pub error_member : List ℕ → List ℕ → List ℕ → Member
error_member name text error = saying (error ++ codes ".prototype") name text

-- the objects that stand in others, and the two numbers
unfoldable pub held : List Member
held = filter_map member_of rows ++ further_members

-- the names of functions, the constructors of prototypes, and what stands on the prototypes of errors
unfoldable pub named : List Member
named = filter_map naming rows ++ filter_map constructor_of rows
    ++ map (λ error. error_member (codes "name") error error) error_names
    ++ map (λ error. error_member (codes "message") [] error) error_names

abbrev pub members : List Member
members = held ++ named

-- the value of a property, where `first` is the number of the first word
abbrev pub value_from : ℕ → Given → Value
value_from first (given.Object o) = Object o
value_from first (given.Text place) = Text (record { 0 = first + place })
value_from first given.Empty = Text (record { 0 = 0 })
value_from first (given.Number n) = Num n

-- the objects with one property more
unfoldable pub with_member : List (List ℕ) → ℕ → ObjectStore → Member → ObjectStore
with_member texts first s m = written texts s m.0 (Name (record { 0 = first + m.1 })) (value_from first m.2) true
