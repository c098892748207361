-- Function bodies that are not read with a tree: how many tokens they take, and how deep they lie.
use Rattle.std.specs.Prelude.{ℕ, suc, max, ◌+◌, ◌-◌, List, [], ◌∷◌}
use Rattle.actx_tree.specs.declared.function.Nested.{Nested}

-- for each body the tokens between its brackets, and one more
abbrev pub weight : List Nested → ℕ
weight [] = 0
weight (n ∷ ns) = suc (n.range.from - n.range.to) + weight ns

-- the greatest sum of the nodes around a body and of the tokens from its first to the bracket that closes it
abbrev pub reach : List Nested → ℕ
reach [] = 0
reach (n ∷ ns) = max (n.depth + (n.range.from - n.range.to)) (reach ns)
