-- Laws of early errors.
use Rattle.std.specs.Prelude.{ℕ, ◌≤◌, List, [], ◌∷◌}
use Rattle.actx_tree.specs.declared.tree.Tree.{Tree}
use Rattle.actx_scope_rules.specs.declared.early.Early.{Early}
use Rattle.actx_scope_rules.specs.Early.{early_errors}

-- none stands before the node of number i, nor before the one that it follows
abbrev pub Ordered : ℕ → List Early → Type 0
Ordered i [] = Unit {0}
Ordered i (x ∷ xs) = (i ≤ x.at) × Ordered x.at xs

-- Early errors come in the order of the nodes. So the first of them stands at the node that begins first.
abbrev pub ErrorsInOrder : Type 0
ErrorsInOrder = (tree : Tree) → Ordered 0 (early_errors tree)
