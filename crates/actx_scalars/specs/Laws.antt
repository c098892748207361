-- Laws of the definitions, in words of whole texts.
use Rattle.std.specs.Prelude.{◌≡◌, ◌↔◌, ℕ, ◌<◌, ◌≤◌, max, List, [], ◌∷◌, ◌++◌, length, Option, Some, None}
use Rattle.std.specs.List.{repeat}
use Rattle.actx_scalars.specs.Searches.{first_place}
use Rattle.actx_scalars.specs.Pieces.{repeated_length}
use Rattle.actx_scalars.specs.Padding.{padded, padded_length}
use Rattle.actx_scalars.specs.Splits.{pieces_of}
use Rattle.actx_scalars.specs.declared.padding.Side.{Side}

-- the text is so many units, then `search`, and then a rest
abbrev pub StandsAt : List ℕ → List ℕ → ℕ → Type 0
StandsAt text search i = (front : List ℕ) × (rest : List ℕ) × (text ≡ front ++ (search ++ rest)) × (length front ≡ i)

-- it stands here, and nowhere from `from` on before
abbrev pub IsFirstPlace : List ℕ → List ℕ → ℕ → ℕ → Type 0
IsFirstPlace text search from i =
    (from ≤ i) × StandsAt text search i × ((j : ℕ) → from ≤ j → j < i → StandsAt text search j → ⊥)

-- the place that is found is the first one, and none is found exactly where there is none
abbrev pub PlacesAreFirst : Type 0
PlacesAreFirst = (text search : List ℕ) (from : ℕ)
    → ((i : ℕ) → (first_place text search from ≡ Some i) ↔ IsFirstPlace text search from i)
    × ((first_place text search from ≡ None) ↔ ((j : ℕ) → from ≤ j → StandsAt text search j → ⊥))

-- the pieces in a row, with the separator between each two
abbrev pub joined : List ℕ → List (List ℕ) → List ℕ
joined separator [] = []
joined separator (p ∷ []) = p
joined separator (p ∷ q ∷ ps) = p ++ (separator ++ joined separator (q ∷ ps))

-- pieces that no limit cuts off give the text again
abbrev pub PiecesJoin : Type 0
PiecesJoin = (most : ℕ) (text separator : List ℕ)
    → length text < most → joined separator (pieces_of most text separator) ≡ text

-- how long new texts are
abbrev pub LengthsAreTold : Type 0
LengthsAreTold =
    ((n : ℕ) (text : List ℕ) → length (repeat n text) ≡ repeated_length text n)
    × ((side : Side) (n : ℕ) (fill text : List ℕ) → 0 < length fill → length (padded side n fill text) ≡ padded_length n text)
