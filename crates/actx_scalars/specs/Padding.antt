-- The methods of texts that fill a text up to a length (StringPaddingBuiltinsImpl, ECMA-262 §22.1.3.17.1).
use Rattle.std.specs.Prelude.{ℕ, ◌-◌, max, ℤ, pos, negsuc, List, [], ◌∷◌, ◌++◌, length, take, nat_le, Option, Some, if◌then◌else◌, option_and_then}
use Rattle.std.specs.List.{repeat}
use Rattle.std.specs.Option.{option_map}
use Rattle.actx_value.specs.declared.value.Value.{Value}
use Rattle.actx_value.specs.declared.value.Value.TheVariants.{Undefined}
use Rattle.actx_ops.specs.declared.out.OpOut.{OpOut}
use Rattle.actx_ops.specs.declared.out.OpOut.TheVariants.{Value as Gives, NewText}
use Rattle.actx_ops.specs.Conversions.{text_of_value}
use Rattle.actx_scalars.specs.Arguments.{argument, integer_or, converted, kept, receiver_text, received}
use Rattle.actx_scalars.specs.declared.padding.Side.{Side}
use Rattle.actx_scalars.specs.declared.padding.Side.TheVariants.{Start, End}

-- the first n units of copies of `fill`
abbrev pub filler : ℕ → List ℕ → List ℕ
filler n fill = take n (repeat n fill)

-- the text filled up to n units on one side (StringPad, §22.1.3.17.2)
abbrev pub padded : Side → ℕ → List ℕ → List ℕ → List ℕ
padded Start n fill text = filler (n - length text) fill ++ text
padded End n fill text = text ++ filler (n - length text) fill

-- how many units that has, where `fill` has some
abbrev pub padded_length : ℕ → List ℕ → ℕ
padded_length n text = max n (length text)

-- an integer as a length (ToLength, §7.1.20)
abbrev pub as_length : ℤ → ℕ
as_length (pos n) = n
as_length (negsuc n) = 0

-- the text that fills; a space where it is `undefined`
abbrev pub fill_text : List (List ℕ) → Value → Option (List ℕ)
fill_text texts Undefined = Some (32 ∷ [])
fill_text texts v = text_of_value texts v

-- the same; it isn't asked for, and is none, where the text is as long already
abbrev pub needed_fill : List (List ℕ) → ℕ → Value → ℕ → Option (ℕ × List ℕ)
needed_fill texts len v n =
    if nat_le n len then Some (n, []) else option_map (λ fill. (n, fill)) (fill_text texts v)

-- the length to fill up to, and with what, for a text of this length
abbrev pub pad_arguments : List (List ℕ) → ℕ → List Value → Option (ℕ × List ℕ)
pad_arguments texts len args =
    option_and_then (needed_fill texts len (argument args 1))
    (option_map as_length (integer_or texts (pos 0) (argument args 0)))

-- a text that isn't filled up is handed on
abbrev pub pad_out : Side → ℕ → List ℕ → List ℕ → OpOut → OpOut
pad_out side n [] text same = same
pad_out side n (u ∷ us) text same = NewText (padded side n (u ∷ us) text)

-- padStart(maxLength, fillString) (§22.1.3.17) and padEnd (§22.1.3.16)
abbrev pub pad_value : Side → List (List ℕ) → Value → List Value → OpOut
pad_value side texts this args =
    received (receiver_text texts this) (λ text.
    converted (pad_arguments texts (length text) args) (λ p. pad_out side p.0 p.1 text (Gives (kept texts this))))
