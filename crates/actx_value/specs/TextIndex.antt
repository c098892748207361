-- How the texts of a run are kept: each distinct text once, and of each number the place of its text.
use Rattle.std.specs.Prelude.{◌≡◌, ◌≢◌, ℕ, suc, ◌<◌, ◌≤◌, List, [], Some, length, map, nat_eq, position, slice_get, slice_index_or, sum_by}
use Rattle.std.specs.Option.{option_map}

-- the texts of these places
abbrev pub texts_in : List (List ℕ) → List ℕ → List (List ℕ)
texts_in distinct places = map (λ p. slice_index_or distinct p []) places

-- each place is one of `distinct`, `firsts` has the least number of each, and the counts are right
pub record IsIndexed (empty : List ℕ) (distinct : List (List ℕ)) (places firsts : List ℕ) (total limit : ℕ) : Type 0 where
  pub is_empty : empty ≡ []
  pub within : (t p : ℕ) → slice_get places t ≡ Some p → p < length distinct
  pub filled : (p : ℕ) → p < length distinct → slice_index_or distinct p [] ≢ []
  pub as_long : length firsts ≡ length distinct
  pub first : (p : ℕ) → p < length distinct → slice_get firsts p ≡ option_map suc (position (nat_eq p) places)
  pub counted : total ≡ sum_by length (texts_in distinct places)
  pub roomy : total ≤ limit
  pub small : limit < 2147483648
  pub fewer : length distinct ≤ length places
  pub many : length places ≤ total
