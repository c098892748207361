-- Early errors of a tree, and the slots of the names in it (ECMA-262, the static semantics of §13 to §16).
--
-- Nodes are numbered in source order, an outer one before an inner one, from 0; a body stands where its function is.
use Rattle.std.specs.Prelude.{ℕ, ◌+◌, ◌==◌, List, [], ◌∷◌, ◌++◌, map, slice_get, Option, if◌then◌else◌}
use Rattle.actx_tree.specs.Bodies.{stmts_bodies}
use Rattle.actx_tree.specs.declared.function.Nested.{Nested}
use Rattle.actx_tree.specs.declared.function.Unread.{Unread}
use Rattle.actx_tree.specs.declared.tree.BodyTree.{BodyTree}
use Rattle.actx_tree.specs.declared.tree.Tree.{Tree}
use Rattle.actx_scope_rules.specs.declared.early.EarlyKind.{EarlyKind}
use Rattle.actx_scope_rules.specs.declared.early.Early.{Early}
use Rattle.actx_scope_rules.specs.declared.slot.Found.{Found}
use Rattle.actx_scope_rules.specs.declared.slot.Use.{Use}
use Rattle.actx_scope_rules.specs.Contexts.{Context, file_context}
use Rattle.actx_scope_rules.specs.Nodes.{Mark, at_node, at_body}
use Rattle.actx_scope_rules.specs.Statements.{statement, block, body_marks}

-- a node: its early errors, and what the names mean that stand at it
pub record Node : Type 0 where
  pub errors : List EarlyKind
  pub uses : List Found

-- ---- bodies

-- The number of tokens of the file. The first body of the list is that of the first function in the items, and a range counts
-- the tokens from the end.
abbrev pub joined_count : List Nested → List BodyTree → ℕ
joined_count [] bodies = 0
joined_count (n ∷ ns) [] = 0
joined_count (n ∷ ns) (b ∷ bs) = n.range.from + b.from

abbrev pub token_count : Tree → ℕ
token_count tree = joined_count (stmts_bodies tree.items 0) tree.bodies

-- the nodes in the bodies, for what is around each
abbrev pub Inside : Type 0
Inside = Unread → Context → List Node

-- the nodes of these marks: those in a body stand in the place of its mark
unfoldable pub spread : Inside → List Mark → List Node
spread inside [] = []
spread inside (at_node errors uses ∷ ms) = record { errors = errors; uses = uses } ∷ spread inside ms
spread inside (at_body range c ∷ ms) = inside range c ++ spread inside ms

-- The nodes in the body of a range, which is the body whose place and the range's give the count of tokens. The bodies in it
-- stand behind it in the list.
unfoldable pub nodes_in : ℕ → List BodyTree → Inside
nodes_in count [] range c = []
nodes_in count (b ∷ bs) range c = if b.from + range.from == count then spread (nodes_in count bs) (body_marks b.items c) else nodes_in count bs range c

-- ---- nodes of a tree

unfoldable pub tree_nodes : Tree → List Node
tree_nodes tree = spread (nodes_in (token_count tree) tree.bodies) (block (map statement tree.items) file_context)

abbrev pub errors_at : ℕ → List EarlyKind → List Early
errors_at i kinds = map (λ (k : EarlyKind). record { kind = k; at = i }) kinds

-- the errors of nodes, the first of which has number i
unfoldable pub errors_from : ℕ → List Node → List Early
errors_from i [] = []
errors_from i (n ∷ ns) = errors_at i n.errors ++ errors_from (i + 1) ns

-- all early errors in source order; several at one node in the order of the kinds
abbrev pub early_errors : Tree → List Early
early_errors tree = errors_from 0 (tree_nodes tree)

-- the early error that a tree is refused for
abbrev pub first_error : Tree → Option Early
first_error tree = slice_get (early_errors tree) 0

abbrev pub uses_at : ℕ → List Found → List Use
uses_at i xs = map (λ (x : Found). record { at = i; name = x }) xs

unfoldable pub uses_from : ℕ → List Node → List Use
uses_from i [] = []
uses_from i (n ∷ ns) = uses_at i n.uses ++ uses_from (i + 1) ns

-- the uses of names, by the numbers of their nodes
abbrev pub name_uses : Tree → List Use
name_uses tree = uses_from 0 (tree_nodes tree)
