-- Pieces that no limit cuts off, joined by the separator, are the text again.
use Rattle.std.proofs.Common.{◌≡◌, ℕ, zero, suc, ◌<◌, ◌≤◌, ◌+◌, List, [], ◌∷◌, ◌++◌, length, map, take, drop, Option, Some, None, refl, sym, ap, ◌∙◌, arith}
use Rattle.std.proofs.lemmas.List.{length-map, take_all, drop_at, drop-drop}
use Rattle.std.proofs.lemmas.List.Folds.{drop_split}
use Rattle.std.specs.List.{slice_range}
use Rattle.std.specs.Option.{option_map_or}
use Rattle.actx_scalars.specs.Searches.{first_place}
use Rattle.actx_scalars.specs.Splits.{units_apart, pieces_from}
use Rattle.actx_scalars.specs.Laws.{StandsAt, IsFirstPlace, joined, PiecesJoin}
use Rattle.actx_scalars.proofs.PlaceLemmas.{stands_within, places_are_first}

-- one piece before others
joined_more : (separator p : List ℕ) (ps : List (List ℕ)) → 0 < length ps → joined separator (p ∷ ps) ≡ p ++ (separator ++ joined separator ps)
joined_more separator p [] some = absurd (omega arith)
joined_more separator p (q ∷ qs) some = refl

-- there is a piece where the limit isn't 0
some_piece : (most : ℕ) (text separator : List ℕ) (i : ℕ) → 0 < most → 0 < length (pieces_from most text separator i)
some_piece zero text separator i some = absurd (omega arith)
some_piece (suc most) text separator i some = by (first_place text separator i)
  where
    by : (o : Option ℕ) → 0 < length (option_map_or (λ j. slice_range text i j ∷ pieces_from most text separator (j + length separator)) o (drop i text ∷ []))
    by None = omega arith
    by (Some j) = omega arith

-- what stands behind a separator
behind : (text separator : List ℕ) (j : ℕ) → StandsAt text separator j → drop j text ≡ separator ++ drop (j + length separator) text
behind text separator j s =
    let back : drop j text ≡ separator ++ s.1 = ap (drop j) s.2 ∙ drop_at s.0 (separator ++ s.1) j s.3 in
    let rest : drop (j + length separator) text ≡ s.1 = sym (drop-drop (length separator) j text) ∙ ap (drop (length separator)) back ∙ drop_at separator s.1 (length separator) refl in
    back ∙ ap (λ ys. separator ++ ys) (sym rest)

joins : (most : ℕ) (text separator : List ℕ) (i : ℕ) → i ≤ length text → length text < i + most → 0 < length separator
    → joined separator (pieces_from most text separator i) ≡ drop i text
joins zero text separator i within room filled = absurd (omega arith)
joins (suc most) text separator i within room filled = by (first_place text separator i) refl (joins most text separator)
  where
    by : (o : Option ℕ) → first_place text separator i ≡ o
        → ((k : ℕ) → k ≤ length text → length text < k + most → 0 < length separator → joined separator (pieces_from most text separator k) ≡ drop k text)
        → joined separator (option_map_or (λ j. slice_range text i j ∷ pieces_from most text separator (j + length separator)) (first_place text separator i) (drop i text ∷ [])) ≡ drop i text
    by None e later = ap (λ o. joined separator (option_map_or (λ j. slice_range text i j ∷ pieces_from most text separator (j + length separator)) o (drop i text ∷ []))) e
    by (Some j) e later =
        let is : IsFirstPlace text separator i j = ((places_are_first text separator i).0 j).0 e in
        let low : i ≤ j = is.0 in
        let end : j + length separator ≤ length text = stands_within text separator j is.1 in
        let rest : joined separator (pieces_from most text separator (j + length separator)) ≡ drop (j + length separator) text = later (j + length separator) end (omega arith) filled in
        let some : 0 < length (pieces_from most text separator (j + length separator)) = some_piece most text separator (j + length separator) (omega arith) in
        ap (λ o. joined separator (option_map_or (λ j. slice_range text i j ∷ pieces_from most text separator (j + length separator)) o (drop i text ∷ []))) e
        ∙ joined_more separator (slice_range text i j) (pieces_from most text separator (j + length separator)) some
        ∙ ap (λ ys. slice_range text i j ++ (separator ++ ys)) rest
        ∙ ap (λ ys. slice_range text i j ++ ys) (sym (behind text separator j is.1))
        ∙ sym (drop_split text i j low)

-- units one by one
apart : (text : List ℕ) → joined [] (units_apart text) ≡ text
apart [] = refl
apart (u ∷ []) = refl
apart (u ∷ v ∷ us) = λ i. u ∷ apart (v ∷ us) i

pub pieces_join : PiecesJoin
pieces_join most text [] room =
    let all : length (units_apart text) ≤ most = omega (arith, length-map text (λ u. u ∷ [])) in
    ap (joined []) (take_all most (units_apart text) all) ∙ apart text
pieces_join most text (u ∷ us) room = joins most text (u ∷ us) 0 (omega arith) (omega arith) (omega arith)
