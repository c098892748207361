-- The texts of the opening store: the empty text, then the literals of the code in their order, then the words.
use Rattle.std.specs.Prelude.{ℕ, List, [], ◌∷◌}
use Rattle.std.specs.List.{fold}
use Rattle.actx_value.specs.Texts.{with_text}
use Rattle.actx_opening.specs.Words.{words}

-- the texts with one more
unfoldable pub added : List (List ℕ) → List ℕ → List (List ℕ)
added texts t = with_text texts t

abbrev pub with_literals : List (List ℕ) → List (List ℕ)
with_literals literals = fold added ([] ∷ []) literals

abbrev pub opening_texts : List (List ℕ) → List (List ℕ)
opening_texts literals = fold added (with_literals literals) words
