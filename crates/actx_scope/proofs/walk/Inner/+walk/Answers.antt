-- What each function of the walk adds is what the part has.
use Rattle.std.proofs.Common.{refl, ◌+◌, ◌<◌, ◌≤◌, ◌||◌, ◌++◌, [], length, map, drop, arith, Some, None}
use Rattle.actx_tree.specs.declared.function.Function.{out-Function}
use Rattle.actx_tree.specs.declared.function.Method.{out-Method}
use Rattle.actx_tree.specs.declared.function.Class.{out-Class}
use Rattle.actx_scope_rules.specs.declared.early.EarlyKind.TheVariants as kind
use Rattle.actx_scope_rules.specs.declared.place.Owner.TheVariants as owner
use Rattle.actx_scope_rules.specs.declared.place.Role.TheVariants as roles
use Rattle.actx_scope_rules.specs.Nodes as nodes
use Rattle.actx_scope_rules.specs.Nodes.{both}
use Rattle.actx_scope_rules.specs.Scopes.{hidden_slots}
use Rattle.actx_scope_rules.specs.Contexts.{arrow_place, function_place, method_place, owned_place, own_name, named_scope}
use Rattle.actx_scope_rules.specs.Conditions as condition
use Rattle.actx_scope.specs.Walks.{called, class_inner}
use Rattle.actx_scope_rules.proofs.PartEquations as part
use Rattle.actx_scope_rules.proofs.Names.{names-left, names-done}
use Rattle.actx_scope.proofs.Adds.{adds-none, adds-both, adds-behind_node, adds-node, leaf_ok, any_role_ok, adds-as, adds-role, adds-owner, owes-all, owes-less, owes-nothing, bound-all, bound-less, bound-nothing}
use Rattle.actx_scope.proofs.Insides.{outer_then, arrow_adds, begins, ends, called_adds, class_adds}
use Rattle.actx_scope.proofs.Patterns.{all-left, all-done, binding-left, binding-done, members-left, members-done, has_some-mapped, pattern_adds, params_adds}
use Rattle.actx_scope.proofs.walk.Inner.+walk.Goals as goal

pub of_expr-returns-in-Name : goal.of_expr-returns-in-Name
of_expr-returns-in-Name g t c = rw (c.in-Name.is, part.expr_part-Name) c.of_name.ensures

pub of_expr-returns-in-Number : goal.of_expr-returns-in-Number
of_expr-returns-in-Number g t c = rw (c.in-Number.is, part.expr_part-Number) (leaf_ok _ nodes.sound _ _ _ _ c.add.result c.add.ensures)

pub of_expr-returns-in-Text : goal.of_expr-returns-in-Text
of_expr-returns-in-Text g t c = rw (c.in-Text.is, part.expr_part-Text) (leaf_ok _ nodes.sound _ _ _ _ c.add-in-Text.result c.add-in-Text.ensures)

pub of_expr-returns-in-Bool : goal.of_expr-returns-in-Bool
of_expr-returns-in-Bool g t c = rw (c.in-Bool.is, part.expr_part-Bool) (leaf_ok _ nodes.sound _ _ _ _ c.add-in-Bool.result c.add-in-Bool.ensures)

pub of_expr-returns-in-Null : goal.of_expr-returns-in-Null
of_expr-returns-in-Null g t c = rw (c.in-Null.is, part.expr_part-Null) (leaf_ok _ nodes.sound _ _ _ _ c.add-in-Null.result c.add-in-Null.ensures)

pub of_expr-returns-in-This : goal.of_expr-returns-in-This
of_expr-returns-in-This g t c = rw (c.in-This.is, part.expr_part-This) (leaf_ok _ nodes.sound _ _ _ _ c.add-in-This.result c.add-in-This.ensures)

pub of_expr-returns-in_ok-of_pieces-in-Template : goal.of_expr-returns-in_ok-of_pieces-in-Template
of_expr-returns-in_ok-of_pieces-in-Template g t c = rw (c.in-Template.is, part.expr_part-Template) (adds-node _ nodes.sound (nodes.all (map nodes.piece_part c.in-Template.pieces)) _ _ _ _ _ c.in_ok-add-in-Template.ensures (rw c.as_slice.ensures at c.in_ok-of_pieces-in-Template.ensures))

pub of_expr-returns-in_ok-of_expr-in-Brackets : goal.of_expr-returns-in_ok-of_expr-in-Brackets
of_expr-returns-in_ok-of_expr-in-Brackets g t c = rw (c.in-Brackets.is, part.expr_part-Brackets) (adds-node _ nodes.sound ((nodes.expr_part c.in-Brackets.x).marks) _ _ _ _ _ c.in_ok-add-in-Brackets.ensures (rw c.get.ensures at c.in_ok-of_expr-in-Brackets.ensures))

pub of_expr-returns-in_ok-of_arguments-in-Array : goal.of_expr-returns-in_ok-of_arguments-in-Array
of_expr-returns-in_ok-of_arguments-in-Array g t c = rw (c.in-Array.is, part.expr_part-Array) (adds-node _ nodes.sound (nodes.all (map nodes.argument_part c.in-Array.arguments)) _ _ _ _ _ c.in_ok-add-in-Array.ensures (rw c.as_slice-in-Array.ensures at c.in_ok-of_arguments-in-Array.ensures))

pub of_expr-returns-in_ok-of_entries-in-Object : goal.of_expr-returns-in_ok-of_entries-in-Object
of_expr-returns-in_ok-of_entries-in-Object g t c = rw (c.in-Object.is, part.expr_part-Object) (adds-behind_node _ (condition.when (condition.has_bad_key (map nodes.word_of (map nodes.entry_part c.in-Object.entries))) kind.BadKey) [] (nodes.all (map nodes.entry_part c.in-Object.entries)) (nodes.object_node (map nodes.entry_part c.in-Object.entries)) _ roles.Evaluated _ _ _ _ _ (rw (c.when-error.ensures, c.has_bad_key.ensures, c.as_slice-in-Object.ensures) at c.in_ok-add-in-Object.ensures) (rw c.as_slice-in-Object-2.ensures at c.in_ok-of_entries-in-Object.ensures) refl)

pub of_expr-returns-in_ok-of_arguments-in-SuperCall : goal.of_expr-returns-in_ok-of_arguments-in-SuperCall
of_expr-returns-in_ok-of_arguments-in-SuperCall g t c = rw (c.in-SuperCall.is, part.expr_part-SuperCall) (adds-node _ (λ p. condition.when (condition.is_bad_super_call p) kind.BadSuper) (nodes.all (map nodes.argument_part c.in-SuperCall.arguments)) _ _ _ _ _ (rw c.when.ensures at c.in_ok-add-in-SuperCall.ensures) (rw c.as_slice-in-SuperCall.ensures at c.in_ok-of_arguments-in-SuperCall.ensures))

pub of_expr-returns-in_ok-add-in-SuperMember : goal.of_expr-returns-in_ok-add-in-SuperMember
of_expr-returns-in_ok-add-in-SuperMember g t c = rw (c.in-SuperMember.is, part.expr_part-SuperMember) (adds-node _ (λ p. condition.when (condition.is_bad_super_member p) kind.BadSuper) nodes.none _ _ _ _ _ (rw c.when-in-SuperMember.ensures at c.in_ok-add-in-SuperMember.ensures) (adds-none _ _ _ _))

pub of_expr-returns-in-Function : goal.of_expr-returns-in-Function
of_expr-returns-in-Function g t c = rw (c.in-Function.is, part.expr_part-Function) c.of_function.ensures

pub of_expr-returns-in-Class : goal.of_expr-returns-in-Class
of_expr-returns-in-Class g t c = rw (c.in-Class.is, part.expr_part-Class) c.of_class.ensures

pub of_expr-returns-in_ok-of_suffixes-in-Left : goal.of_expr-returns-in_ok-of_suffixes-in-Left
of_expr-returns-in_ok-of_suffixes-in-Left g t c = rw (c.in-Left.is, part.expr_part-Left) (adds-node _ nodes.sound (both ((nodes.expr_part c.in-Left.x).marks) (nodes.all (map nodes.suffix_part c.in-Left.suffixes))) _ _ _ _ _ c.in_ok-add-in-Left.ensures (adds-both _ ((nodes.expr_part c.in-Left.x).marks) (nodes.all (map nodes.suffix_part c.in-Left.suffixes)) _ _ _ _ _ (rw c.get-in-Left.ensures at c.in_ok-of_expr-in-Left.ensures) (rw c.as_slice-in-Left.ensures at c.in_ok-of_suffixes-in-Left.ensures)))

pub of_expr-returns-in_ok-of_expr-in-StepBefore : goal.of_expr-returns-in_ok-of_expr-in-StepBefore
of_expr-returns-in_ok-of_expr-in-StepBefore g t c = rw (c.in-StepBefore.is, part.expr_part-StepBefore) (adds-node _ nodes.sound (nodes.with_role roles.Assigned ((nodes.expr_part c.in-StepBefore.x).marks)) _ _ _ _ _ c.in_ok-add-in-StepBefore.ensures (adds-role _ roles.Assigned ((nodes.expr_part c.in-StepBefore.x).marks) _ _ _ _ (rw c.get-in-StepBefore.ensures at c.in_ok-of_expr-in-StepBefore.ensures)))

pub of_expr-returns-in_ok-of_expr-in-StepAfter : goal.of_expr-returns-in_ok-of_expr-in-StepAfter
of_expr-returns-in_ok-of_expr-in-StepAfter g t c = rw (c.in-StepAfter.is, part.expr_part-StepAfter) (adds-node _ nodes.sound (nodes.with_role roles.Assigned ((nodes.expr_part c.in-StepAfter.x).marks)) _ _ _ _ _ c.in_ok-add-in-StepAfter.ensures (adds-role _ roles.Assigned ((nodes.expr_part c.in-StepAfter.x).marks) _ _ _ _ (rw c.get-in-StepAfter.ensures at c.in_ok-of_expr-in-StepAfter.ensures)))

pub of_expr-returns-in_ok-of_expr-in-Unary : goal.of_expr-returns-in_ok-of_expr-in-Unary
of_expr-returns-in_ok-of_expr-in-Unary g t c = rw (c.in-Unary.is, part.expr_part-Unary) (adds-node _ (nodes.unary_errors c.in-Unary.op (nodes.expr_part c.in-Unary.x).is_member) ((nodes.expr_part c.in-Unary.x).marks) _ _ _ _ _ (rw (c.unary_error.ensures, c.is_member.ensures, c.get-in-Unary.ensures) at c.in_ok-add-in-Unary.ensures) (rw c.get-in-Unary-2.ensures at c.in_ok-of_expr-in-Unary.ensures))

pub of_expr-returns-in_ok-of_operands-in-Chain : goal.of_expr-returns-in_ok-of_operands-in-Chain
of_expr-returns-in_ok-of_operands-in-Chain g t c = rw (c.in-Chain.is, part.expr_part-Chain) (adds-node _ nodes.sound (both ((nodes.expr_part c.in-Chain.x).marks) (nodes.all (map nodes.operand_part c.in-Chain.operands))) _ _ _ _ _ c.in_ok-add-in-Chain.ensures (adds-both _ ((nodes.expr_part c.in-Chain.x).marks) (nodes.all (map nodes.operand_part c.in-Chain.operands)) _ _ _ _ _ (rw c.get-in-Chain.ensures at c.in_ok-of_expr-in-Chain.ensures) (rw c.as_slice-in-Chain.ensures at c.in_ok-of_operands-in-Chain.ensures)))

pub of_expr-returns-in_ok-of_expr-in-Conditional-3 : goal.of_expr-returns-in_ok-of_expr-in-Conditional-3
of_expr-returns-in_ok-of_expr-in-Conditional-3 g t c = rw (c.in-Conditional.is, part.expr_part-Conditional) (adds-node _ nodes.sound (both ((nodes.expr_part c.in-Conditional.test).marks) (both ((nodes.expr_part c.in-Conditional.first).marks) ((nodes.expr_part c.in-Conditional.other).marks))) _ _ _ _ _ c.in_ok-add-in-Conditional.ensures (adds-both _ ((nodes.expr_part c.in-Conditional.test).marks) (both ((nodes.expr_part c.in-Conditional.first).marks) ((nodes.expr_part c.in-Conditional.other).marks)) _ _ _ _ _ (rw c.get-in-Conditional.ensures at c.in_ok-of_expr-in-Conditional.ensures) (adds-both _ ((nodes.expr_part c.in-Conditional.first).marks) ((nodes.expr_part c.in-Conditional.other).marks) _ _ _ _ _ (rw c.get-in-Conditional-2.ensures at c.in_ok-of_expr-in-Conditional-2.ensures) (rw c.get-in-Conditional-3.ensures at c.in_ok-of_expr-in-Conditional-3.ensures))))

pub of_expr-returns-in_ok-of_expr-in-Assign-2 : goal.of_expr-returns-in_ok-of_expr-in-Assign-2
of_expr-returns-in_ok-of_expr-in-Assign-2 g t c = rw (c.in-Assign.is, part.expr_part-Assign) (adds-node _ nodes.sound (both (nodes.with_role roles.Assigned ((nodes.expr_part c.in-Assign.target).marks)) ((nodes.expr_part c.in-Assign.x).marks)) _ _ _ _ _ c.in_ok-add-in-Assign.ensures (adds-both _ (nodes.with_role roles.Assigned ((nodes.expr_part c.in-Assign.target).marks)) ((nodes.expr_part c.in-Assign.x).marks) _ _ _ _ _ (adds-role _ roles.Assigned ((nodes.expr_part c.in-Assign.target).marks) _ _ _ _ (rw c.get-in-Assign.ensures at c.in_ok-of_expr-in-Assign.ensures)) (rw c.get-in-Assign-2.ensures at c.in_ok-of_expr-in-Assign-2.ensures)))

pub of_expr-returns-in_ok-of_optional-in-Yield : goal.of_expr-returns-in_ok-of_optional-in-Yield
of_expr-returns-in_ok-of_optional-in-Yield g t c = rw (c.in-Yield.is, part.expr_part-Yield) (adds-node _ (λ p. condition.when (condition.is_bad_yield p) kind.BadYield) (nodes.or_none (nodes.mapped nodes.expr_part c.in-Yield.x)) _ _ _ _ _ (rw c.when-in-Yield.ensures at c.in_ok-add-in-Yield.ensures) c.in_ok-of_optional-in-Yield.ensures)

pub of_expr-returns-in-ArrowBlock : goal.of_expr-returns-in-ArrowBlock
of_expr-returns-in-ArrowBlock g t c = rw (c.in-ArrowBlock.is, part.expr_part-ArrowBlock) (any_role_ok _ _ _ _ _ _ _ _ c.of_arrow_block.ensures refl)

pub of_expr-returns-in_ok-of_exprs-in-Comma : goal.of_expr-returns-in_ok-of_exprs-in-Comma
of_expr-returns-in_ok-of_exprs-in-Comma g t c = rw (c.in-Comma.is, part.expr_part-Comma) (adds-node _ nodes.sound (both ((nodes.expr_part c.in-Comma.x).marks) (nodes.all (map nodes.expr_part c.in-Comma.xs))) _ _ _ _ _ c.in_ok-add-in-Comma.ensures (adds-both _ ((nodes.expr_part c.in-Comma.x).marks) (nodes.all (map nodes.expr_part c.in-Comma.xs)) _ _ _ _ _ (rw c.get-in-Comma.ensures at c.in_ok-of_expr-in-Comma.ensures) (rw c.as_slice-in-Comma.ensures at c.in_ok-of_exprs-in-Comma.ensures)))

pub of_optional-returns-in-Some : goal.of_optional-returns-in-Some
of_optional-returns-in-Some g t c = rw c.in-Some.is (rw c.get.ensures at c.of_expr.ensures)

pub of_optional-returns-in-None : goal.of_optional-returns-in-None
of_optional-returns-in-None g t c = rw c.in-None.is (adds-none _ _ _ _)

pub of_rest-returns-in-Some : goal.of_rest-returns-in-Some
of_rest-returns-in-Some g t c = rw c.in-Some.is (rw c.get.ensures at c.of_target.ensures)

pub of_rest-returns-in-None : goal.of_rest-returns-in-None
of_rest-returns-in-None g t c = rw c.in-None.is (adds-none _ _ _ _)

pub of_exprs-loop-tree-init : goal.of_exprs-loop-tree-init
of_exprs-loop-tree-init g t c = owes-all _ _ _ _ _

pub of_exprs-loop-tree-preserved : goal.of_exprs-loop-tree-preserved
of_exprs-loop-tree-preserved g t c = let h : c.loop-tree.tree-index < length c.args.trees.now = omega (arith, c.loop-tree-test.true) in owes-less _ _ ((nodes.expr_part c.tree-item.result).marks) (nodes.all (map nodes.expr_part (drop (c.loop-tree.tree-index + 1) c.args.trees.now))) _ _ _ _ _ _ _ _ c.in_ok-of_expr.ensures c.loop-tree.invariant (all-left nodes.expr_part c.args.trees.now c.loop-tree.tree-index c.tree-item.result _ h c.tree-item.is)

pub of_exprs-returns : goal.of_exprs-returns
of_exprs-returns g t c = let h : length c.args.trees.now ≤ c.loop-tree.tree-index = omega (arith, c.loop-tree-test.false) in owes-nothing _ _ _ _ _ _ _ c.loop-tree.invariant (all-done nodes.expr_part c.args.trees.now c.loop-tree.tree-index _ h)

pub of_pieces-loop-piece-init : goal.of_pieces-loop-piece-init
of_pieces-loop-piece-init g t c = owes-all _ _ _ _ _

pub of_pieces-loop-piece-preserved : goal.of_pieces-loop-piece-preserved
of_pieces-loop-piece-preserved g t c = let h : c.loop-piece.piece-index < length c.args.pieces.now = omega (arith, c.loop-piece-test.true) in owes-less _ _ ((nodes.piece_part c.piece-item.result).marks) (nodes.all (map nodes.piece_part (drop (c.loop-piece.piece-index + 1) c.args.pieces.now))) _ _ _ _ _ _ _ _ c.in_ok-of_piece.ensures c.loop-piece.invariant (all-left nodes.piece_part c.args.pieces.now c.loop-piece.piece-index c.piece-item.result _ h c.piece-item.is)

pub of_pieces-returns : goal.of_pieces-returns
of_pieces-returns g t c = let h : length c.args.pieces.now ≤ c.loop-piece.piece-index = omega (arith, c.loop-piece-test.false) in owes-nothing _ _ _ _ _ _ _ c.loop-piece.invariant (all-done nodes.piece_part c.args.pieces.now c.loop-piece.piece-index _ h)

pub of_operands-loop-operand-init : goal.of_operands-loop-operand-init
of_operands-loop-operand-init g t c = owes-all _ _ _ _ _

pub of_operands-loop-operand-preserved : goal.of_operands-loop-operand-preserved
of_operands-loop-operand-preserved g t c = let h : c.loop-operand.operand-index < length c.args.operands.now = omega (arith, c.loop-operand-test.true) in owes-less _ _ ((nodes.operand_part c.operand-item.result).marks) (nodes.all (map nodes.operand_part (drop (c.loop-operand.operand-index + 1) c.args.operands.now))) _ _ _ _ _ _ _ _ c.in_ok-of_operand.ensures c.loop-operand.invariant (all-left nodes.operand_part c.args.operands.now c.loop-operand.operand-index c.operand-item.result _ h c.operand-item.is)

pub of_operands-returns : goal.of_operands-returns
of_operands-returns g t c = let h : length c.args.operands.now ≤ c.loop-operand.operand-index = omega (arith, c.loop-operand-test.false) in owes-nothing _ _ _ _ _ _ _ c.loop-operand.invariant (all-done nodes.operand_part c.args.operands.now c.loop-operand.operand-index _ h)

pub of_arguments-loop-argument-init : goal.of_arguments-loop-argument-init
of_arguments-loop-argument-init g t c = owes-all _ _ _ _ _

pub of_arguments-loop-argument-preserved : goal.of_arguments-loop-argument-preserved
of_arguments-loop-argument-preserved g t c = let h : c.loop-argument.argument-index < length c.args.arguments.now = omega (arith, c.loop-argument-test.true) in owes-less _ _ ((nodes.argument_part c.argument-item.result).marks) (nodes.all (map nodes.argument_part (drop (c.loop-argument.argument-index + 1) c.args.arguments.now))) _ _ _ _ _ _ _ _ c.in_ok-of_argument.ensures c.loop-argument.invariant (all-left nodes.argument_part c.args.arguments.now c.loop-argument.argument-index c.argument-item.result _ h c.argument-item.is)

pub of_arguments-returns : goal.of_arguments-returns
of_arguments-returns g t c = let h : length c.args.arguments.now ≤ c.loop-argument.argument-index = omega (arith, c.loop-argument-test.false) in owes-nothing _ _ _ _ _ _ _ c.loop-argument.invariant (all-done nodes.argument_part c.args.arguments.now c.loop-argument.argument-index _ h)

pub of_entries-loop-entry-init : goal.of_entries-loop-entry-init
of_entries-loop-entry-init g t c = owes-all _ _ _ _ _

pub of_entries-loop-entry-preserved : goal.of_entries-loop-entry-preserved
of_entries-loop-entry-preserved g t c = let h : c.loop-entry.entry-index < length c.args.entries.now = omega (arith, c.loop-entry-test.true) in owes-less _ _ ((nodes.entry_part c.entry-item.result).marks) (nodes.all (map nodes.entry_part (drop (c.loop-entry.entry-index + 1) c.args.entries.now))) _ _ _ _ _ _ _ _ c.in_ok-of_entry.ensures c.loop-entry.invariant (all-left nodes.entry_part c.args.entries.now c.loop-entry.entry-index c.entry-item.result _ h c.entry-item.is)

pub of_entries-returns : goal.of_entries-returns
of_entries-returns g t c = let h : length c.args.entries.now ≤ c.loop-entry.entry-index = omega (arith, c.loop-entry-test.false) in owes-nothing _ _ _ _ _ _ _ c.loop-entry.invariant (all-done nodes.entry_part c.args.entries.now c.loop-entry.entry-index _ h)

pub of_suffixes-loop-suffix-init : goal.of_suffixes-loop-suffix-init
of_suffixes-loop-suffix-init g t c = owes-all _ _ _ _ _

pub of_suffixes-loop-suffix-preserved : goal.of_suffixes-loop-suffix-preserved
of_suffixes-loop-suffix-preserved g t c = let h : c.loop-suffix.suffix-index < length c.args.suffixes.now = omega (arith, c.loop-suffix-test.true) in owes-less _ _ ((nodes.suffix_part c.suffix-item.result).marks) (nodes.all (map nodes.suffix_part (drop (c.loop-suffix.suffix-index + 1) c.args.suffixes.now))) _ _ _ _ _ _ _ _ c.in_ok-of_suffix.ensures c.loop-suffix.invariant (all-left nodes.suffix_part c.args.suffixes.now c.loop-suffix.suffix-index c.suffix-item.result _ h c.suffix-item.is)

pub of_suffixes-returns : goal.of_suffixes-returns
of_suffixes-returns g t c = let h : length c.args.suffixes.now ≤ c.loop-suffix.suffix-index = omega (arith, c.loop-suffix-test.false) in owes-nothing _ _ _ _ _ _ _ c.loop-suffix.invariant (all-done nodes.suffix_part c.args.suffixes.now c.loop-suffix.suffix-index _ h)

pub of_piece-returns : goal.of_piece-returns
of_piece-returns g t c = rw (part.piece_part-fields) c.of_expr.ensures

pub of_operand-returns : goal.of_operand-returns
of_operand-returns g t c = rw (part.operand_part-fields) c.of_expr.ensures

pub of_argument-returns-in-One : goal.of_argument-returns-in-One
of_argument-returns-in-One g t c = rw (c.in-One.is, part.argument_part-One) c.of_expr.ensures

pub of_argument-returns-in-Spread : goal.of_argument-returns-in-Spread
of_argument-returns-in-Spread g t c = rw (c.in-Spread.is, part.argument_part-Spread) c.of_expr-in-Spread.ensures

pub of_entry-returns-in-Spread : goal.of_entry-returns-in-Spread
of_entry-returns-in-Spread g t c = rw (c.in-Spread.is, part.entry_part-Spread) c.of_expr.ensures

pub of_entry-returns-in-Shorthand : goal.of_entry-returns-in-Shorthand
of_entry-returns-in-Shorthand g t c = rw (c.in-Shorthand.is, part.entry_part-Shorthand) c.of_name.ensures

pub of_entry-returns-in_ok-of_expr-in-Pair : goal.of_entry-returns-in_ok-of_expr-in-Pair
of_entry-returns-in_ok-of_expr-in-Pair g t c = rw (c.in-Pair.is, part.entry_part-Pair) (adds-both _ ((nodes.key_part c.in-Pair.key).marks) ((nodes.expr_part c.in-Pair.x).marks) _ _ _ _ _ c.in_ok-of_key-in-Pair.ensures c.in_ok-of_expr-in-Pair.ensures)

pub of_entry-returns-in_ok-of_method-in-Method : goal.of_entry-returns-in_ok-of_method-in-Method
of_entry-returns-in_ok-of_method-in-Method g t c = rw (c.in-Method.is, part.entry_part-Method) (adds-owner _ owner.Other ((nodes.method_part c.in-Method.method).marks) _ _ _ _ (rw c.owned_by.ensures at c.in_ok-of_method-in-Method.ensures))

pub of_key-returns-in-Word : goal.of_key-returns-in-Word
of_key-returns-in-Word g t c = rw (c.in-Word.is, part.key_part-Word) (adds-none _ _ _ _)

pub of_key-returns-in-Text : goal.of_key-returns-in-Text
of_key-returns-in-Text g t c = rw (c.in-Text.is, part.key_part-Text) (adds-none _ _ _ _)

pub of_key-returns-in-Number : goal.of_key-returns-in-Number
of_key-returns-in-Number g t c = rw (c.in-Number.is, part.key_part-Number) (adds-none _ _ _ _)

pub of_key-returns-in-Computed : goal.of_key-returns-in-Computed
of_key-returns-in-Computed g t c = rw (c.in-Computed.is, part.key_part-Computed) (rw c.get.ensures at c.of_expr.ensures)

pub of_suffix-returns-in-Member : goal.of_suffix-returns-in-Member
of_suffix-returns-in-Member g t c = rw (c.in-Member.is, part.suffix_part-Member) (adds-none _ _ _ _)

pub of_suffix-returns-in-Index : goal.of_suffix-returns-in-Index
of_suffix-returns-in-Index g t c = rw (c.in-Index.is, part.suffix_part-Index) c.of_expr.ensures

pub of_suffix-returns-in-Call : goal.of_suffix-returns-in-Call
of_suffix-returns-in-Call g t c = rw (c.in-Call.is, part.suffix_part-Call) (rw c.as_slice.ensures at c.of_arguments.ensures)

pub of_called-returns : goal.of_called-returns
of_called-returns g t c = called_adds _ c.args.hidden (nodes.params_part c.args.params.now) c.args.place c.args.flow (nodes.body_marks c.args.body) _ _ _ _ _ _ _ c.in_ok-add_params.ensures c.in_ok-outer.ensures.inside c.in_ok-outer.ensures.outer c.in_ok-of_params.ensures (rw c.in_body.ensures at c.in_ok-of_body_behind.ensures) c.leave.ensures

pub of_arrow_block-returns : goal.of_arrow_block-returns
of_arrow_block-returns g t c = adds-behind_node _ (condition.when ((nodes.params_part c.args.params.now).repeats []) kind.Redeclared) [] (called [] (nodes.params_part c.args.params.now) (arrow_place c.args.place) (nodes.arrow_flow c.args.is_async) (nodes.body_marks c.args.body)) (nodes.arrow_node c.args.is_async (nodes.params_part c.args.params.now) (nodes.body_marks c.args.body)) _ roles.Evaluated _ (arrow_place c.args.place) _ _ _ (rw (c.when.ensures, c.in_ok-repeats.ensures) at c.in_ok-add.ensures) (rw (c.in_arrow.ensures, c.arrow_flow_of.ensures, c.new-hidden.ensures) at c.in_ok-of_called.ensures) refl

pub of_function-returns : goal.of_function-returns
of_function-returns g t c = rw (part.function_part-fields) (adds-behind_node _ (condition.when (condition.is_redeclared c.args.role (out-Function c.args.function.now).name c.args.walk.now.earlier || (nodes.params_part (out-Function c.args.function.now).params).repeats []) kind.Redeclared) [] (called (hidden_slots (own_name c.args.role (out-Function c.args.function.now).name)) (nodes.params_part (out-Function c.args.function.now).params) (function_place c.args.place) (out-Function c.args.function.now).flow (nodes.body_marks (out-Function c.args.function.now).body)) (nodes.function_node (out-Function c.args.function.now).flow (out-Function c.args.function.now).name (nodes.params_part (out-Function c.args.function.now).params) (out-Function c.args.function.now).body) _ roles.Evaluated _ (function_place c.args.place) _ _ _ (rw (c.when.ensures, c.either-is_wrong.ensures, c.is_redeclared.ensures, c.in_ok-repeats.ensures) at c.in_ok-add.ensures) (rw (c.in_function.ensures, c.in_ok-hidden.ensures) at c.in_ok-of_called.ensures) refl)

pub of_method-returns : goal.of_method-returns
of_method-returns g t c = rw (part.method_part-fields) (adds-behind_node _ (condition.when ((nodes.params_part (out-Method c.args.method.now).params).repeats []) kind.Redeclared ++ condition.when (condition.is_wrong_constructor c.args.place.owner (nodes.key_part (out-Method c.args.method.now).key).word (out-Method c.args.method.now).flow) kind.TwoConstructors) [] (both (nodes.key_part (out-Method c.args.method.now).key).marks (called (hidden_slots None) (nodes.params_part (out-Method c.args.method.now).params) (method_place (condition.is_derived_constructor c.args.place.owner (nodes.key_part (out-Method c.args.method.now).key).word) c.args.place) (out-Method c.args.method.now).flow (nodes.body_marks (out-Method c.args.method.now).body))) (nodes.method_node (out-Method c.args.method.now).flow (nodes.key_part (out-Method c.args.method.now).key) (nodes.params_part (out-Method c.args.method.now).params) (out-Method c.args.method.now).body) _ roles.Evaluated _ c.args.place _ _ _ (rw (c.method_error.ensures, c.in_ok-repeats.ensures, c.is_wrong_constructor-is_wrong.ensures) at c.in_ok-add.ensures) (adds-both _ (nodes.key_part (out-Method c.args.method.now).key).marks (called (hidden_slots None) (nodes.params_part (out-Method c.args.method.now).params) (method_place (condition.is_derived_constructor c.args.place.owner (nodes.key_part (out-Method c.args.method.now).key).word) c.args.place) (out-Method c.args.method.now).flow (nodes.body_marks (out-Method c.args.method.now).body)) _ _ _ _ _ c.in_ok-of_key.ensures (adds-as _ (called (hidden_slots None) (nodes.params_part (out-Method c.args.method.now).params) (method_place (condition.is_derived_constructor c.args.place.owner (nodes.key_part (out-Method c.args.method.now).key).word) c.args.place) (out-Method c.args.method.now).flow (nodes.body_marks (out-Method c.args.method.now).body)) (called (hidden_slots None) (nodes.params_part (out-Method c.args.method.now).params) (method_place (condition.is_derived_constructor c.args.place.owner (nodes.key_part (out-Method c.args.method.now).key).word) c.args.place) (out-Method c.args.method.now).flow (nodes.body_marks (out-Method c.args.method.now).body)) _ roles.Evaluated _ (method_place (condition.is_derived_constructor c.args.place.owner (nodes.key_part (out-Method c.args.method.now).key).word) c.args.place) _ _ (rw (c.in_method-inner.ensures, c.is_derived_constructor.ensures, c.in_ok-hidden.ensures) at c.in_ok-of_called.ensures) refl)) refl)

pub of_class-returns : goal.of_class-returns
of_class-returns g t c = rw (part.class_part-fields) (adds-behind_node _ (condition.when (condition.is_redeclared c.args.role (out-Class c.args.class.now).name c.args.walk.now.earlier) kind.Redeclared) [] (class_inner (named_scope (own_name c.args.role (out-Class c.args.class.now).name)) (nodes.mapped nodes.expr_part (out-Class c.args.class.now).parent) (map nodes.member_part_of (out-Class c.args.class.now).members)) (nodes.class_node (out-Class c.args.class.now).name (nodes.mapped nodes.expr_part (out-Class c.args.class.now).parent) (map nodes.member_part_of (out-Class c.args.class.now).members)) _ roles.Evaluated _ c.args.place _ _ _ (rw (c.when.ensures, c.is_redeclared-is_wrong.ensures) at c.in_ok-add.ensures) (rw c.in_ok-slots.ensures at c.in_ok-of_class_parts.ensures) refl)

pub of_class_parts-returns : goal.of_class_parts-returns
of_class_parts-returns g t c = class_adds _ c.args.slots (nodes.mapped nodes.expr_part (out-Class c.args.class.now).parent) (map nodes.member_part_of (out-Class c.args.class.now).members) _ _ _ _ _ _ _ c.in_ok-outer.ensures.scopes refl refl c.in_ok-outer.ensures.whether c.in_ok-of_optional.ensures (rw (c.as_slice.ensures, c.is_some.ensures, has_some-mapped nodes.expr_part) at c.in_ok-of_members.ensures) c.close.ensures refl refl

pub of_members-loop-member-init : goal.of_members-loop-member-init
of_members-loop-member-init g t c = owes-all _ _ _ _ _

pub of_members-loop-member-preserved : goal.of_members-loop-member-preserved
of_members-loop-member-preserved g t c = let h : c.loop-member.member-index < length c.args.members.now = omega (arith, c.loop-member-test.true) in rw (c.either-has_constructor.ensures, c.is_constructor_member-is_constructor.ensures) (owes-less _ _ ((nodes.member_part_of c.member-item.result).marks) (nodes.members_marks (map nodes.member_part_of (drop (c.loop-member.member-index + 1) c.args.members.now)) c.args.has_parent (c.loop-member.has_constructor || nodes.is_constructor (nodes.member_part_of c.member-item.result))) _ _ _ _ (owned_place (owner.Class c.args.has_parent c.loop-member.has_constructor) c.args.place) _ _ _ (rw c.owned_by.ensures at c.in_ok-of_member.ensures) c.loop-member.invariant (members-left c.args.members.now c.loop-member.member-index c.member-item.result c.args.has_parent c.loop-member.has_constructor _ h c.member-item.is))

pub of_members-returns : goal.of_members-returns
of_members-returns g t c = let h : length c.args.members.now ≤ c.loop-member.member-index = omega (arith, c.loop-member-test.false) in owes-nothing _ _ _ _ _ _ _ c.loop-member.invariant (members-done c.args.members.now c.loop-member.member-index c.args.has_parent c.loop-member.has_constructor _ h)

pub of_member-returns-in_ok-of_method : goal.of_member-returns-in_ok-of_method
of_member-returns-in_ok-of_method g t c = rw (part.member_part_of-fields, c.if-member.true) (adds-owner _ owner.Other ((nodes.method_part _).marks) _ _ _ _ (rw c.owned_by.ensures at c.in_ok-of_method.ensures))

pub of_member-returns-else-member : goal.of_member-returns-else-member
of_member-returns-else-member g t c = rw (part.member_part_of-fields, c.if-member.false) c.of_method-else-member.ensures

pub of_target-returns-in-Name : goal.of_target-returns-in-Name
of_target-returns-in-Name g t c = rw (c.in-Name.is, part.target_part-Name) (adds-none _ _ _ _)

pub of_target-returns-in-Object : goal.of_target-returns-in-Object
of_target-returns-in-Object g t c = rw (c.in-Object.is, part.target_part-Object) (rw c.as_slice.ensures at c.of_object.ensures)

pub of_target-returns-in-Array : goal.of_target-returns-in-Array
of_target-returns-in-Array g t c = rw (c.in-Array.is, part.target_part-Array) (rw c.as_slice-in-Array.ensures at c.of_array.ensures)

pub of_object-returns : goal.of_object-returns
of_object-returns g t c = pattern_adds _ (map nodes.prop_part c.args.props.now) c.args.rest.now _ _ _ _ _ _ _ c.len-start.result _ c.in_ok-repeats.ensures.whether refl c.in_ok-repeats.ensures.same refl (rw c.when.ensures at c.in_ok-add.ensures) c.len-start.ensures c.in_ok-of_props.ensures refl refl c.back_to.ensures

pub of_array-returns : goal.of_array-returns
of_array-returns g t c = pattern_adds _ (map nodes.elem_part c.args.elems.now) c.args.rest.now _ _ _ _ _ _ _ c.len-start.result _ c.in_ok-repeats.ensures.whether refl c.in_ok-repeats.ensures.same refl (rw c.when.ensures at c.in_ok-add.ensures) c.len-start.ensures c.in_ok-of_elems.ensures refl refl c.back_to.ensures

pub of_props-loop-prop-init : goal.of_props-loop-prop-init
of_props-loop-prop-init g t c = bound-all _ _ _ _ _ _

pub of_props-loop-prop-preserved : goal.of_props-loop-prop-preserved
of_props-loop-prop-preserved g t c = let h : c.loop-prop.prop-index < length c.args.props.now = omega (arith, c.loop-prop-test.true) in bound-less _ _ ((nodes.prop_part c.prop-item.result).marks) (nodes.binding (map nodes.prop_part (drop (c.loop-prop.prop-index + 1) c.args.props.now))) _ _ (nodes.prop_part c.prop-item.result).names _ _ _ _ _ _ _ _ c.in_ok-of_prop.ensures refl refl c.in_ok-pass_prop.ensures c.loop-prop.invariant (binding-left nodes.prop_part c.args.props.now c.loop-prop.prop-index c.prop-item.result _ h c.prop-item.is) (names-left nodes.prop_part c.args.props.now c.loop-prop.prop-index c.prop-item.result h c.prop-item.is)

pub of_props-returns : goal.of_props-returns
of_props-returns g t c = let h : length c.args.props.now ≤ c.loop-prop.prop-index = omega (arith, c.loop-prop-test.false) in bound-nothing _ _ _ _ _ _ _ _ _ c.loop-prop.invariant (binding-done nodes.prop_part c.args.props.now c.loop-prop.prop-index _ h) (names-done nodes.prop_part c.args.props.now c.loop-prop.prop-index h)

pub of_elems-loop-elem-init : goal.of_elems-loop-elem-init
of_elems-loop-elem-init g t c = bound-all _ _ _ _ _ _

pub of_elems-loop-elem-preserved : goal.of_elems-loop-elem-preserved
of_elems-loop-elem-preserved g t c = let h : c.loop-elem.elem-index < length c.args.elems.now = omega (arith, c.loop-elem-test.true) in bound-less _ _ ((nodes.elem_part c.elem-item.result).marks) (nodes.binding (map nodes.elem_part (drop (c.loop-elem.elem-index + 1) c.args.elems.now))) _ _ (nodes.elem_part c.elem-item.result).names _ _ _ _ _ _ _ _ c.in_ok-of_elem.ensures refl refl c.in_ok-pass_elem.ensures c.loop-elem.invariant (binding-left nodes.elem_part c.args.elems.now c.loop-elem.elem-index c.elem-item.result _ h c.elem-item.is) (names-left nodes.elem_part c.args.elems.now c.loop-elem.elem-index c.elem-item.result h c.elem-item.is)

pub of_elems-returns : goal.of_elems-returns
of_elems-returns g t c = let h : length c.args.elems.now ≤ c.loop-elem.elem-index = omega (arith, c.loop-elem-test.false) in bound-nothing _ _ _ _ _ _ _ _ _ c.loop-elem.invariant (binding-done nodes.elem_part c.args.elems.now c.loop-elem.elem-index _ h) (names-done nodes.elem_part c.args.elems.now c.loop-elem.elem-index h)

pub of_prop-returns-in-Shorthand : goal.of_prop-returns-in-Shorthand
of_prop-returns-in-Shorthand g t c = rw (c.in-Shorthand.is, part.prop_part-Shorthand) c.of_optional.ensures

pub of_prop-returns-in_ok-of_elem-in-Pair : goal.of_prop-returns-in_ok-of_elem-in-Pair
of_prop-returns-in_ok-of_elem-in-Pair g t c = rw (c.in-Pair.is, part.prop_part-Pair) (adds-both _ ((nodes.key_part c.in-Pair.key).marks) ((nodes.elem_part c.in-Pair.elem).marks) _ _ _ _ _ c.in_ok-of_key-in-Pair.ensures c.in_ok-of_elem-in-Pair.ensures)

pub of_elem-returns : goal.of_elem-returns
of_elem-returns g t c = rw (part.elem_part-fields) (adds-both _ _ _ _ _ _ _ _ c.in_ok-of_target.ensures c.in_ok-of_optional.ensures)

pub of_params-returns : goal.of_params-returns
of_params-returns g t c = rw (part.params_part-fields) (params_adds _ (map nodes.elem_part _) (nodes.mapped nodes.target_part _) _ _ _ _ _ c.len-start.result c.len-start.ensures (rw c.as_slice.ensures at c.in_ok-of_elems.ensures) c.in_ok-of_rest.ensures refl refl c.back_to.ensures)

pub of_arrow_head-returns-clause-begins : goal.of_arrow_head-returns-clause-begins
of_arrow_head-returns-clause-begins g t c = begins _ (nodes.params_part c.args.params.now) c.args.place c.in_ok-repeats.repeats _ _ _ _ _ c.in_ok-repeats.ensures (rw c.when.ensures at c.in_ok-add.ensures) (rw c.new-slots.ensures at c.in_ok-add_params.ensures) c.in_ok-outer.ensures.inside c.in_ok-of_params.ensures

pub of_arrow_head-returns-clause-outer : goal.of_arrow_head-returns-clause-outer
of_arrow_head-returns-clause-outer g t c = outer_then _ _ _ c.in_ok-outer.ensures.outer c.in_ok-add.ensures.earlier

pub of_arrow_value-returns : goal.of_arrow_value-returns
of_arrow_value-returns g t c = ends _ (nodes.params_part c.args.params.now).names ((nodes.expr_part c.args.x.now).marks) _ _ _ _ _ _ refl refl c.in_ok-pass_params.ensures c.in_ok-of_expr.ensures c.leave.ensures

pub of_expr-returns-in_ok-of_arguments-in-Some : goal.of_expr-returns-in_ok-of_arguments-in-Some
of_expr-returns-in_ok-of_arguments-in-Some g t c = rw (c.in-New.is, c.in-Some.is, part.expr_part-New) (adds-node _ nodes.sound (both ((nodes.expr_part c.in-New.x).marks) (both (nodes.all (map nodes.suffix_part c.in-New.suffixes)) (nodes.or_none_all (Some (map nodes.argument_part c.in-Some.arguments))))) _ _ _ _ _ c.in_ok-add-in-New.ensures (adds-both _ ((nodes.expr_part c.in-New.x).marks) (both (nodes.all (map nodes.suffix_part c.in-New.suffixes)) (nodes.or_none_all (Some (map nodes.argument_part c.in-Some.arguments)))) _ _ _ _ _ (rw c.get-in-New.ensures at c.in_ok-of_expr-in-New.ensures) (adds-both _ (nodes.all (map nodes.suffix_part c.in-New.suffixes)) (nodes.or_none_all (Some (map nodes.argument_part c.in-Some.arguments))) _ _ _ _ _ (rw c.as_slice-in-New.ensures at c.in_ok-of_suffixes-in-New.ensures) (rw c.as_slice-in-Some.ensures at c.in_ok-of_arguments-in-Some.ensures))))

pub of_expr-returns-in-None : goal.of_expr-returns-in-None
of_expr-returns-in-None g t c = rw (c.in-New.is, c.in-None.is, part.expr_part-New) (adds-node _ nodes.sound (both ((nodes.expr_part c.in-New.x).marks) (both (nodes.all (map nodes.suffix_part c.in-New.suffixes)) (nodes.or_none_all None))) _ _ _ _ _ c.in_ok-add-in-New.ensures (adds-both _ ((nodes.expr_part c.in-New.x).marks) (both (nodes.all (map nodes.suffix_part c.in-New.suffixes)) (nodes.or_none_all None)) _ _ _ _ _ (rw c.get-in-New.ensures at c.in_ok-of_expr-in-New.ensures) (adds-both _ (nodes.all (map nodes.suffix_part c.in-New.suffixes)) (nodes.or_none_all None) _ _ _ _ _ (rw c.as_slice-in-New.ensures at c.in_ok-of_suffixes-in-New.ensures) (adds-none _ _ _ _))))

pub of_expr-returns-in_ok-of_arrow_value-in-Arrow : goal.of_expr-returns-in_ok-of_arrow_value-in-Arrow
of_expr-returns-in_ok-of_arrow_value-in-Arrow g t c = rw (c.in-Arrow.is, part.expr_part-Arrow) (arrow_adds _ (nodes.params_part c.in-Arrow.params) c.in-Arrow.is_async ((nodes.expr_part c.in-Arrow.x).marks) _ _ _ _ _ c.in_ok-outer-in-Arrow.outer
    (rw c.in_arrow.ensures at c.in_ok-outer-in-Arrow.ensures.begins) c.in_ok-outer-in-Arrow.ensures.outer (rw (c.in_body-inner.ensures, c.in_arrow-in-Arrow.ensures, c.arrow_flow_of.ensures, c.get-in-Arrow.ensures) at c.in_ok-of_arrow_value-in-Arrow.ensures))
