-- Laws of texts and their numbers.
use Rattle.std.specs.Prelude.{◌≡◌, ◌<◌, ◌↔◌, ℕ, List, [], ◌∷◌, ◌++◌, length}
use Rattle.actx_value.specs.Texts.{text_at, least_number, HasOneEmptyText}

-- two numbers have the same least number exactly where they have the same text, which is its text
pub record TellsTexts (texts : List (List ℕ)) : Type 0 where
  pub same : (a b : ℕ) → (least_number texts a ≡ least_number texts b) ↔ (text_at texts a ≡ text_at texts b)
  pub text : (a : ℕ) → text_at texts (least_number texts a) ≡ text_at texts a

abbrev pub EqualTextsShareTheirLeastNumber : Type 0
EqualTextsShareTheirLeastNumber = (texts : List (List ℕ)) → HasOneEmptyText texts → TellsTexts texts

-- a number keeps its text and its least number where a text is added
pub record Keeps (texts more : List (List ℕ)) (t : ℕ) : Type 0 where
  pub text : text_at more t ≡ text_at texts t
  pub least : least_number more t ≡ least_number texts t

abbrev pub NumbersOutlastAdditions : Type 0
NumbersOutlastAdditions = (texts : List (List ℕ)) (text : List ℕ) (t : ℕ) → t < length texts → Keeps texts (texts ++ text ∷ []) t
