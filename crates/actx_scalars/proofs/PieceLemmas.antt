-- Pieces of a text, one at a time.
use Rattle.std.proofs.Common.{◌≡◌, ℕ, suc, ◌<◌, ◌+◌, ◌-◌, List, [], ◌∷◌, ◌++◌, length, take, drop, get_or, Option, Some, None, sym, ap, ◌∙◌, arith}
use Rattle.std.proofs.lemmas.List.{length-map, take_more, take_rest, get_or-map, drop_more, append_assoc}
use Rattle.std.specs.List.{slice_range}
use Rattle.std.specs.Option.{option_map_or}
use Rattle.actx_scalars.specs.Searches.{first_place}
use Rattle.actx_scalars.specs.Splits.{units_apart, pieces_from}

-- one unit as a part of the text
unit_part : (text : List ℕ) (i : ℕ) → i < length text → slice_range text i (i + 1) ≡ get_or text i 0 ∷ []
unit_part text i within =
    let one : i + 1 - i ≡ 1 = omega arith in
    ap (λ k. take k (drop i text)) one ∙ ap (take 1) (drop_more text i 0 within)

-- one unit more
pub apart_more : (text : List ℕ) (i : ℕ) → i < length text → take i (units_apart text) ++ slice_range text i (i + 1) ∷ [] ≡ take (i + 1) (units_apart text)
apart_more text i within =
    let there : i < length (units_apart text) = omega (arith, length-map text (λ u. u ∷ [])) in
    let unit : get_or (units_apart text) i [] ≡ get_or text i 0 ∷ [] = get_or-map (λ u. u ∷ []) text i 0 [] within in
    ap (λ p. take i (units_apart text) ++ p ∷ []) (unit_part text i within ∙ sym unit) ∙ sym (take_more (units_apart text) i [] there)

-- the piece before a separator, and those behind it
next_piece : (most i : ℕ) (text separator : List ℕ) (from j : ℕ) → i < most → first_place text separator from ≡ Some j
    → pieces_from (most - i) text separator from ≡ slice_range text from j ∷ pieces_from (most - (i + 1)) text separator (j + length separator)
next_piece most i text separator from j below e =
    let left : most - i ≡ suc (most - (i + 1)) = omega arith in
    ap (λ m. pieces_from m text separator from) left
    ∙ ap (λ o. option_map_or (λ j. slice_range text from j ∷ pieces_from (most - (i + 1)) text separator (j + length separator)) o (drop from text ∷ [])) e

-- the last piece
last_piece : (most i : ℕ) (text separator : List ℕ) (from : ℕ) → i < most → first_place text separator from ≡ None
    → pieces_from (most - i) text separator from ≡ drop from text ∷ []
last_piece most i text separator from below e =
    let left : most - i ≡ suc (most - (i + 1)) = omega arith in
    ap (λ m. pieces_from m text separator from) left
    ∙ ap (λ o. option_map_or (λ j. slice_range text from j ∷ pieces_from (most - (i + 1)) text separator (j + length separator)) o (drop from text ∷ [])) e

-- the pieces that were made and those behind them, one piece later
pub piece_more : (most i : ℕ) (text separator : List ℕ) (from j : ℕ) (made whole : List (List ℕ)) → i < most → first_place text separator from ≡ Some j
    → made ++ pieces_from (most - i) text separator from ≡ whole
    → (made ++ slice_range text from j ∷ []) ++ pieces_from (most - (i + 1)) text separator (j + length separator) ≡ whole
piece_more most i text separator from j made whole below e all =
    append_assoc made (slice_range text from j ∷ []) (pieces_from (most - (i + 1)) text separator (j + length separator))
    ∙ ap (λ ps. made ++ ps) (sym (next_piece most i text separator from j below e))
    ∙ all

-- the last one; the rest of the text is read as so many units from there on
pub piece_last : (most i : ℕ) (text separator : List ℕ) (from : ℕ) (made whole : List (List ℕ)) → i < most → first_place text separator from ≡ None
    → made ++ pieces_from (most - i) text separator from ≡ whole
    → made ++ take (length text - from) (drop from text) ∷ [] ≡ whole
piece_last most i text separator from made whole below e all =
    ap (λ p. made ++ p ∷ []) (take_rest text from)
    ∙ ap (λ ps. made ++ ps) (sym (last_piece most i text separator from below e))
    ∙ all
