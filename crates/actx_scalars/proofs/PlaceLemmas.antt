-- The place that is found is the first at which the text stands.
use Rattle.std.proofs.Common.{◌≡◌, ◌↔◌, ℕ, ◌<◌, ◌≤◌, ◌+◌, ◌-◌, Bool, true, false, List, ◌++◌, length, take, drop, Option, Some, None, refl, sym, ap, ◌∙◌, arith}
use Rattle.std.proofs.lemmas.List.{length-append, length-take-le, take-append-drop, take_at, drop_at}
use Rattle.std.specs.Cmp.Lexicographic.{bytes_decides}
use Rattle.actx_scalars.specs.Searches.{stands_at, first_place}
use Rattle.actx_scalars.specs.Laws.{StandsAt, IsFirstPlace, PlacesAreFirst}
use Rattle.actx_scalars.proofs.FindLemmas.{IsFirstIn, found_some, found_none, some_found, none_found}

pub stands : (text search : List ℕ) (i : ℕ) → i ≤ length text → stands_at text search i ≡ true → StandsAt text search i
stands text search i within h =
    let same : search ≡ take (length search) (drop i text) = (bytes_decides search (take (length search) (drop i text))).0 h in
    let rest : List ℕ = drop (length search) (drop i text) in
    let back : drop i text ≡ search ++ rest = sym (take-append-drop (length search) (drop i text)) ∙ ap (λ xs. xs ++ rest) (sym same) in
    (take i text, rest, sym (take-append-drop i text) ∙ ap (λ ys. take i text ++ ys) back, length-take-le i text within)

pub is_standing : (text search : List ℕ) (i : ℕ) → StandsAt text search i → stands_at text search i ≡ true
is_standing text search i s =
    let back : drop i text ≡ search ++ s.1 = ap (drop i) s.2 ∙ drop_at s.0 (search ++ s.1) i s.3 in
    let same : search ≡ take (length search) (drop i text) = sym (ap (take (length search)) back ∙ take_at search s.1 (length search) refl) in
    (bytes_decides search (take (length search) (drop i text))).1 same

-- it leaves room for the whole of it
pub stands_within : (text search : List ℕ) (i : ℕ) → StandsAt text search i → i + length search ≤ length text
stands_within text search i s =
    let e : length text ≡ length s.0 + (length search + length s.1) = ap length s.2 ∙ length-append s.0 (search ++ s.1) ∙ ap (λ k. length s.0 + k) (length-append search s.1) in
    let front : length s.0 ≡ i = s.3 in
    omega arith

-- a test that can't pass
fails : (b : Bool) → (b ≡ true → ⊥) → b ≡ false
fails true never = absurd (never refl)
fails false never = refl

module _ (text search : List ℕ) (from : ℕ) where
  first : (i : ℕ) → first_place text search from ≡ Some i → IsFirstPlace text search from i
  first i e =
      let is : IsFirstIn (stands_at text search) from (length text + 1 - length search - from) i = found_some (stands_at text search) (length text + 1 - length search - from) from i e in
      let low : from ≤ i = is.low in
      let high : i < from + (length text + 1 - length search - from) = is.high in
      (low, stands text search i (omega arith) is.here, λ j at below s. let bad : stands_at text search j ≡ false = is.before j at below in let good : stands_at text search j ≡ true = is_standing text search j s in cc)

  found : (i : ℕ) → IsFirstPlace text search from i → first_place text search from ≡ Some i
  found i is =
      let low : from ≤ i = is.0 in
      let room : i + length search ≤ length text = stands_within text search i is.1 in
      some_found (stands_at text search) (length text + 1 - length search - from) from i (record {
        low = low;
        high = omega arith;
        here = is_standing text search i is.1;
        before = λ j at below. fails (stands_at text search j) (λ good. is.2 j at below (stands text search j (omega arith) good));
      })

  nowhere : first_place text search from ≡ None → (j : ℕ) → from ≤ j → StandsAt text search j → ⊥
  nowhere e j at s =
      let room : j + length search ≤ length text = stands_within text search j s in
      let bad : stands_at text search j ≡ false = found_none (stands_at text search) (length text + 1 - length search - from) from e j at (omega arith) in
      let good : stands_at text search j ≡ true = is_standing text search j s in
      cc

  none : ((j : ℕ) → from ≤ j → StandsAt text search j → ⊥) → first_place text search from ≡ None
  none never = none_found (stands_at text search) (length text + 1 - length search - from) from (λ j at below. fails (stands_at text search j) (λ good. never j at (stands text search j (omega arith) good)))

pub places_are_first : PlacesAreFirst
places_are_first text search from = (λ i. (first text search from i, found text search from i), (nowhere text search from, none text search from))
