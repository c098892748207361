-- What the loops keep: the bodies found so far and those in what is left are all of them.
use Rattle.std.proofs.Common.{◌≡◌, ◌++◌, ◌+◌, ◌≤◌, map, drop}
use Rattle.actx_tree.specs.Bodies as bodies
use Rattle.actx_tree.specs.Levels as levels
use Rattle.actx_tree.proofs.bodies.parts.+walk.Given as goal

abbrev pub invariant-of_exprs-loop-tree : goal.invariant-of_exprs-loop-tree
invariant-of_exprs-loop-tree l = (l.found ++ bodies.all (map bodies.expr_bodies (drop l.tree-index l.trees)) l.depth ≡ l.fn.found ++ bodies.all (map bodies.expr_bodies l.trees) l.depth) × (l.depth + levels.highest (map levels.expr_levels (drop l.tree-index l.trees)) ≤ 1000)

abbrev pub invariant-of_pieces-loop-piece : goal.invariant-of_pieces-loop-piece
invariant-of_pieces-loop-piece l = (l.found ++ bodies.all (map bodies.piece_bodies (drop l.piece-index l.pieces)) l.depth ≡ l.fn.found ++ bodies.all (map bodies.piece_bodies l.pieces) l.depth) × (l.depth + levels.highest (map levels.piece_levels (drop l.piece-index l.pieces)) ≤ 1000)

abbrev pub invariant-of_operands-loop-operand : goal.invariant-of_operands-loop-operand
invariant-of_operands-loop-operand l = (l.found ++ bodies.all (map bodies.operand_bodies (drop l.operand-index l.operands)) l.depth ≡ l.fn.found ++ bodies.all (map bodies.operand_bodies l.operands) l.depth) × (l.depth + levels.highest (map levels.operand_levels (drop l.operand-index l.operands)) ≤ 1000)

abbrev pub invariant-of_arguments-loop-argument : goal.invariant-of_arguments-loop-argument
invariant-of_arguments-loop-argument l = (l.found ++ bodies.all (map bodies.argument_bodies (drop l.argument-index l.arguments)) l.depth ≡ l.fn.found ++ bodies.all (map bodies.argument_bodies l.arguments) l.depth) × (l.depth + levels.highest (map levels.argument_levels (drop l.argument-index l.arguments)) ≤ 1000)

abbrev pub invariant-of_entries-loop-entry : goal.invariant-of_entries-loop-entry
invariant-of_entries-loop-entry l = (l.found ++ bodies.all (map bodies.entry_bodies (drop l.entry-index l.entries)) l.depth ≡ l.fn.found ++ bodies.all (map bodies.entry_bodies l.entries) l.depth) × (l.depth + levels.highest (map levels.entry_levels (drop l.entry-index l.entries)) ≤ 1000)

abbrev pub invariant-of_suffixes-loop-suffix : goal.invariant-of_suffixes-loop-suffix
invariant-of_suffixes-loop-suffix l = (l.found ++ bodies.all (map bodies.suffix_bodies (drop l.suffix-index l.suffixes)) l.depth ≡ l.fn.found ++ bodies.all (map bodies.suffix_bodies l.suffixes) l.depth) × (l.depth + levels.highest (map levels.suffix_levels (drop l.suffix-index l.suffixes)) ≤ 1000)

abbrev pub invariant-of_members-loop-member : goal.invariant-of_members-loop-member
invariant-of_members-loop-member l = (l.found ++ bodies.all (map bodies.member_bodies (drop l.member-index l.members)) l.depth ≡ l.fn.found ++ bodies.all (map bodies.member_bodies l.members) l.depth) × (l.depth + levels.highest (map levels.member_levels (drop l.member-index l.members)) ≤ 1000)

abbrev pub invariant-of_props-loop-prop : goal.invariant-of_props-loop-prop
invariant-of_props-loop-prop l = (l.found ++ bodies.all (map bodies.prop_bodies (drop l.prop-index l.props)) l.depth ≡ l.fn.found ++ bodies.all (map bodies.prop_bodies l.props) l.depth) × (l.depth + levels.highest (map levels.prop_levels (drop l.prop-index l.props)) ≤ 1000)

abbrev pub invariant-of_elems-loop-elem : goal.invariant-of_elems-loop-elem
invariant-of_elems-loop-elem l = (l.found ++ bodies.all (map bodies.elem_bodies (drop l.elem-index l.elems)) l.depth ≡ l.fn.found ++ bodies.all (map bodies.elem_bodies l.elems) l.depth) × (l.depth + levels.highest (map levels.elem_levels (drop l.elem-index l.elems)) ≤ 1000)
