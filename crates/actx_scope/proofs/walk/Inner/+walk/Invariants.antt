-- What the loops keep: what is left, added to what was found, gives the whole.
use Rattle.std.proofs.Common.{map, drop, false}
use Rattle.actx_scope_rules.specs.declared.place.Role.TheVariants as roles
use Rattle.actx_scope.specs.Holds.{inside_of}
use Rattle.actx_scope_rules.specs.Nodes as nodes
use Rattle.actx_scope.proofs.Adds.{Owes, OwesBound}
use Rattle.actx_scope.proofs.walk.Inner.+walk.Given as goal

abbrev pub invariant-of_exprs-loop-tree : goal.invariant-of_exprs-loop-tree
invariant-of_exprs-loop-tree g l = Owes (inside_of l.self.bodies) (nodes.all (map nodes.expr_part l.trees)) (nodes.all (map nodes.expr_part (drop l.tree-index l.trees))) roles.Evaluated l.place l.fn.walk l.walk

abbrev pub invariant-of_pieces-loop-piece : goal.invariant-of_pieces-loop-piece
invariant-of_pieces-loop-piece g l = Owes (inside_of l.self.bodies) (nodes.all (map nodes.piece_part l.pieces)) (nodes.all (map nodes.piece_part (drop l.piece-index l.pieces))) roles.Evaluated l.place l.fn.walk l.walk

abbrev pub invariant-of_operands-loop-operand : goal.invariant-of_operands-loop-operand
invariant-of_operands-loop-operand g l = Owes (inside_of l.self.bodies) (nodes.all (map nodes.operand_part l.operands)) (nodes.all (map nodes.operand_part (drop l.operand-index l.operands))) roles.Evaluated l.place l.fn.walk l.walk

abbrev pub invariant-of_arguments-loop-argument : goal.invariant-of_arguments-loop-argument
invariant-of_arguments-loop-argument g l = Owes (inside_of l.self.bodies) (nodes.all (map nodes.argument_part l.arguments)) (nodes.all (map nodes.argument_part (drop l.argument-index l.arguments))) roles.Evaluated l.place l.fn.walk l.walk

abbrev pub invariant-of_entries-loop-entry : goal.invariant-of_entries-loop-entry
invariant-of_entries-loop-entry g l = Owes (inside_of l.self.bodies) (nodes.all (map nodes.entry_part l.entries)) (nodes.all (map nodes.entry_part (drop l.entry-index l.entries))) roles.Evaluated l.place l.fn.walk l.walk

abbrev pub invariant-of_suffixes-loop-suffix : goal.invariant-of_suffixes-loop-suffix
invariant-of_suffixes-loop-suffix g l = Owes (inside_of l.self.bodies) (nodes.all (map nodes.suffix_part l.suffixes)) (nodes.all (map nodes.suffix_part (drop l.suffix-index l.suffixes))) roles.Evaluated l.place l.fn.walk l.walk

abbrev pub invariant-of_members-loop-member : goal.invariant-of_members-loop-member
invariant-of_members-loop-member g l = Owes (inside_of l.self.bodies) (nodes.members_marks (map nodes.member_part_of l.members) l.has_parent false) (nodes.members_marks (map nodes.member_part_of (drop l.member-index l.members)) l.has_parent l.has_constructor) roles.Evaluated l.place l.fn.walk l.walk

abbrev pub invariant-of_props-loop-prop : goal.invariant-of_props-loop-prop
invariant-of_props-loop-prop g l = OwesBound (inside_of l.self.bodies) (nodes.binding (map nodes.prop_part l.props)) (nodes.binding (map nodes.prop_part (drop l.prop-index l.props))) (nodes.all_names (map nodes.prop_part l.props)) (nodes.all_names (map nodes.prop_part (drop l.prop-index l.props))) roles.Evaluated l.place l.fn.walk l.walk

abbrev pub invariant-of_elems-loop-elem : goal.invariant-of_elems-loop-elem
invariant-of_elems-loop-elem g l = OwesBound (inside_of l.self.bodies) (nodes.binding (map nodes.elem_part l.elems)) (nodes.binding (map nodes.elem_part (drop l.elem-index l.elems))) (nodes.all_names (map nodes.elem_part l.elems)) (nodes.all_names (map nodes.elem_part (drop l.elem-index l.elems))) roles.Evaluated l.place l.fn.walk l.walk
