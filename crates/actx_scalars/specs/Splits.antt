-- The pieces of a text between separators (split, ECMA-262 §22.1.3.23).
use Rattle.std.specs.Prelude.{ℕ, zero, suc, ◌+◌, ◌-◌, ◌%◌, ℤ, pos, negsuc, List, [], ◌∷◌, length, map, take, drop, slice_range, Option, Some, None}
use Rattle.std.specs.Option.{option_map, option_map_or}
use Rattle.actx_value.specs.declared.value.Value.{Value}
use Rattle.actx_value.specs.declared.value.Value.TheVariants.{Undefined}
use Rattle.actx_value.specs.declared.error_kind.ErrorKind.TheVariants.{TypeError}
use Rattle.actx_value.specs.declared.end.Reason.TheVariants.{Conversion}
use Rattle.actx_ops.specs.Conversions.{number_of_value, text_of_value}
use Rattle.actx_scalars.specs.Arguments.{argument, both, kept, receiver_text}
use Rattle.actx_scalars.specs.Searches.{first_place}
use Rattle.actx_scalars.specs.declared.split_out.SplitOut.{SplitOut}
use Rattle.actx_scalars.specs.declared.split_out.SplitOut.TheVariants.{Whole, Pieces, Throw, OutOfProfile}

-- an integer modulo 2^32 (ToUint32, §7.1.7); `negsuc n` is −(n + 1)
abbrev pub as_uint32 : ℤ → ℕ
as_uint32 (pos n) = n % 4294967296
as_uint32 (negsuc n) = 4294967295 - n % 4294967296

-- the most pieces; 2^32 − 1 where that is `undefined`
abbrev pub limit_of : List (List ℕ) → Value → Option ℕ
limit_of texts Undefined = Some 4294967295
limit_of texts v = option_map as_uint32 (number_of_value texts v)

-- each unit as a piece of its own
abbrev pub units_apart : List ℕ → List (List ℕ)
units_apart text = map (λ u. u ∷ []) text

-- at most so many pieces of the text from a place on: that before the next separator, and those behind
-- it; without one, all that is left
abbrev pub pieces_from : ℕ → List ℕ → List ℕ → ℕ → List (List ℕ)
pieces_from zero text separator i = []
pieces_from (suc most) text separator i =
    option_map_or (λ j. slice_range text i j ∷ pieces_from most text separator (j + length separator))
    (first_place text separator i)
    (drop i text ∷ [])

-- at most so many pieces of the text; the empty separator stands between any two units
abbrev pub pieces_of : ℕ → List ℕ → List ℕ → List (List ℕ)
pieces_of most text [] = take most (units_apart text)
pieces_of most text (u ∷ us) = pieces_from most text (u ∷ us) 0

-- the separator as a text; there is none where it is `undefined`
abbrev pub separator_of : List (List ℕ) → Value → Option (Option (List ℕ))
separator_of texts Undefined = Some None
separator_of texts v = option_map Some (text_of_value texts v)

-- the answer for a limit and a separator; without one, the text alone is handed on
abbrev pub split_with : Value → List ℕ → ℕ → Option (List ℕ) → SplitOut
split_with same text zero separator = Pieces []
split_with same text (suc most) None = Whole same
split_with same text (suc most) (Some separator) = Pieces (pieces_of (suc most) text separator)

abbrev pub split_after : Value → List ℕ → Option (ℕ × Option (List ℕ)) → SplitOut
split_after same text None = OutOfProfile Conversion
split_after same text (Some p) = split_with same text p.0 p.1

-- split(separator, limit): the limit is converted before the separator
abbrev pub split_arguments : List (List ℕ) → List Value → Option (ℕ × Option (List ℕ))
split_arguments texts args = both (limit_of texts (argument args 1)) (separator_of texts (argument args 0))

abbrev pub split_received : Value → Option (List ℕ) → Option (ℕ × Option (List ℕ)) → SplitOut
split_received same None arguments = Throw (TypeError 8)
split_received same (Some text) arguments = split_after same text arguments

abbrev pub split_value : List (List ℕ) → Value → List Value → SplitOut
split_value texts this args =
    split_received (kept texts this) (receiver_text texts this) (split_arguments texts args)
