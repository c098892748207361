-- Errors of nodes come in the order of the nodes.
use Rattle.std.proofs.Common.{ℕ, ◌+◌, ◌≤◌, List, [], ◌∷◌, ◌++◌}
use Rattle.actx_scope_rules.specs.declared.early.Early.{Early}
use Rattle.actx_scope_rules.specs.declared.early.EarlyKind.{EarlyKind}
use Rattle.actx_scope_rules.specs.Early.{Node, errors_at, errors_from}
use Rattle.actx_scope_rules.specs.Laws.{Ordered}
use native.Mathlib.Omega.{arith}

-- in order from a later node, so also from an earlier one
earlier : (i j : ℕ) (xs : List Early) → i ≤ j → Ordered j xs → Ordered i xs
earlier i j [] h o = tt
earlier i j (x ∷ xs) h o = (omega (arith, h, o.0), o.1)

-- the errors of one node before those of later ones
at_one : (i : ℕ) (ks : List EarlyKind) (xs : List Early) → Ordered i xs → Ordered i (errors_at i ks ++ xs)
at_one i [] xs o = o
at_one i (k ∷ ks) xs o = (omega arith, at_one i ks xs o)

pub ordered_from : (i : ℕ) (ns : List Node) → Ordered i (errors_from i ns)
unfolding errors_from
ordered_from i [] = tt
ordered_from i (n ∷ ns) = at_one i n.errors (errors_from (i + 1) ns) (earlier i (i + 1) (errors_from (i + 1) ns) (omega arith) (ordered_from (i + 1) ns))
