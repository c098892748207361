-- The texts of a run, by number.
use Rattle.std.specs.Prelude.{◌≡◌, ℕ, Bool, List, [], ◌∷◌, ◌++◌, Option, Some, length, nat_eq, position, slice_get, slice_index_or, sum_by, unwrap_or}
use Rattle.std.specs.Cmp.Lexicographic.{pointwise}

-- the texts from number 0 on, and the most units that they may have in all
pub record TextStore : Type 0 where
  pub texts : List (List ℕ)
  pub limit : ℕ

-- how many units the texts have in all
abbrev pub units_of : List (List ℕ) → ℕ
units_of texts = sum_by length texts

-- the text of a number; a number that isn't there counts as that of the empty text
abbrev pub text_at : List (List ℕ) → ℕ → List ℕ
text_at texts t = slice_index_or texts t []

-- the texts with one more: the empty text stands already, any other goes last
abbrev pub with_text : List (List ℕ) → List ℕ → List (List ℕ)
with_text texts [] = texts
with_text texts (u ∷ us) = texts ++ (u ∷ us) ∷ []

-- the number of a text that is added
abbrev pub added_number : List (List ℕ) → List ℕ → ℕ
added_number texts [] = 0
added_number texts (u ∷ us) = length texts

-- whether two texts have the same units
abbrev pub texts_eq : List ℕ → List ℕ → Bool
texts_eq a b = pointwise nat_eq a b

-- the least number of a text, where it is there
abbrev pub number_of : List (List ℕ) → List ℕ → Option ℕ
number_of texts text = position (texts_eq text) texts

-- the least number that has the same text as this number
abbrev pub least_number : List (List ℕ) → ℕ → ℕ
least_number texts t = unwrap_or (number_of texts (text_at texts t)) 0

-- number 0 is the empty text, and no other number is
pub record HasOneEmptyText (texts : List (List ℕ)) : Type 0 where
  pub first : slice_get texts 0 ≡ Some []
  pub others : (t : ℕ) → slice_get texts t ≡ Some [] → t ≡ 0
