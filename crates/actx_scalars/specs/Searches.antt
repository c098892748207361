-- Where one text stands in another, and the methods of texts that look for one.
use Rattle.std.specs.Prelude.{ℕ, ℤ, pos, negsuc, ◌+◌, ◌-◌, Bool, List, length, take, drop, nat_eq, Option, Some, None, is_some}
use Rattle.std.specs.List.{find, starts_with, ends_with, range_with_len}
use Rattle.actx_value.specs.declared.value.Value.{Value}
use Rattle.actx_value.specs.declared.value.Value.TheVariants.{Bool as Truth, Num}
use Rattle.actx_ops.specs.declared.out.OpOut.{OpOut}
use Rattle.actx_ops.specs.declared.out.OpOut.TheVariants.{Value as Gives}
use Rattle.actx_ops.specs.Conversions.{text_of_value}
use Rattle.actx_scalars.specs.Arguments.{argument, integer_or, both, converted, receiver_text, received}
use Rattle.actx_scalars.specs.Places.{clamped}

-- whether `search` stands in the text at a place
abbrev pub stands_at : List ℕ → List ℕ → ℕ → Bool
stands_at text search i = starts_with nat_eq (drop i text) search

-- the first place at which it does, of those from `from` to the last that leaves room for it
-- (StringIndexOf, ECMA-262 §6.1.4.1)
abbrev pub first_place : List ℕ → List ℕ → ℕ → Option ℕ
first_place text search from =
    find (stands_at text search) (range_with_len from (length text + 1 - length search - from))

-- indexOf(searchString, position) (§22.1.3.9): −1 where it stands nowhere
abbrev pub place_number : Option ℕ → ℤ
place_number (Some i) = pos i
place_number None = negsuc 0

abbrev pub index_number : List ℕ → List ℕ → ℤ → ℤ
index_number text search position =
    place_number (first_place text search (clamped (length text) position))

-- includes(searchString, position) (§22.1.3.8)
abbrev pub is_included : List ℕ → List ℕ → ℤ → Bool
is_included text search position = is_some (first_place text search (clamped (length text) position))

-- startsWith(searchString, position) (§22.1.3.24)
abbrev pub starts_there : List ℕ → List ℕ → ℤ → Bool
starts_there text search position = stands_at text search (clamped (length text) position)

-- endsWith(searchString, endPosition) (§22.1.3.7)
abbrev pub ends_there : List ℕ → List ℕ → ℤ → Bool
ends_there text search end = ends_with nat_eq (take (clamped (length text) end) text) search

-- the text that is looked for, and the position, for which `missing` stands where it is `undefined`
abbrev pub search_arguments : List (List ℕ) → ℤ → List Value → Option (List ℕ × ℤ)
search_arguments texts missing args =
    both (text_of_value texts (argument args 0)) (integer_or texts missing (argument args 1))

-- such a method: what `go` makes of the receiver, the text and the position
abbrev pub searched : List (List ℕ) → Value → List Value → (ℕ → ℤ) → (List ℕ → List ℕ → ℤ → OpOut) → OpOut
searched texts this args missing go =
    received (receiver_text texts this) (λ text.
    converted (search_arguments texts (missing (length text)) args) (λ p. go text p.0 p.1))

abbrev pub index_value : List (List ℕ) → Value → List Value → OpOut
index_value texts this args =
    searched texts this args (λ len. pos 0) (λ text search p. Gives (Num (index_number text search p)))

abbrev pub includes_value : List (List ℕ) → Value → List Value → OpOut
includes_value texts this args =
    searched texts this args (λ len. pos 0) (λ text search p. Gives (Truth (is_included text search p)))

abbrev pub starts_value : List (List ℕ) → Value → List Value → OpOut
starts_value texts this args =
    searched texts this args (λ len. pos 0) (λ text search p. Gives (Truth (starts_there text search p)))

-- here a position that is `undefined` is the end of the text
abbrev pub ends_value : List (List ℕ) → Value → List Value → OpOut
ends_value texts this args =
    searched texts this args (λ len. pos len) (λ text search p. Gives (Truth (ends_there text search p)))
