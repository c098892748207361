-- Where bodies stand in a list, by their first tokens.
use Rattle.std.specs.Prelude.{◌≡◌, ℕ, ◌+◌, List, Some, nat_eq, slice_get}
use Rattle.std.specs.HashMap.{HashMap, get}
use Rattle.actx_tree.specs.declared.tree.BodyTree.{BodyTree}

-- the map gives the place of each of these, of which so many stand before the first
pub record Finds {S : Type 0} (m : HashMap ℕ ℕ S) (start : ℕ) (list : List BodyTree) : Type 0 where
  pub gives : (j : ℕ) (b : BodyTree) → slice_get list j ≡ Some b → get nat_eq m b.from ≡ Some (start + j)
