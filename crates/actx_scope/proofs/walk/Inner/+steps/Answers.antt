-- What each function of the walk over statements adds is what the statement has.
use Rattle.std.proofs.Common.{refl, ◌+◌, ◌<◌, ◌≤◌, length, map, drop, arith, Some, None}
use Rattle.actx_tree.specs.declared.stmt.Catch.{out-Catch}
use Rattle.actx_scope_rules.specs.declared.early.EarlyKind.TheVariants as kind
use Rattle.actx_scope_rules.specs.declared.place.Role.TheVariants as roles
use Rattle.actx_scope_rules.specs.Nodes as nodes
use Rattle.actx_scope_rules.specs.Nodes.{both}
use Rattle.actx_scope_rules.specs.Scopes.{slot_names}
use Rattle.actx_scope_rules.specs.Statements as statements
use Rattle.actx_scope_rules.specs.Conditions as condition
use Rattle.actx_scope.specs.Walks.{for_inner}
use Rattle.actx_scope_rules.proofs.StatementEquations as stmt
use Rattle.actx_scope.proofs.Adds.{adds-none, adds-both, adds-node, leaf_ok, role_ok, turn_ok, bound-all, bound-less, bound-nothing}
use Rattle.actx_scope.proofs.Insides.{scoped_adds, scoped_binds}
use Rattle.actx_scope.proofs.Patterns.{order-left, order-done, declared-left, declared-done}
use Rattle.actx_scope.proofs.walk.Inner.+steps.Goals as goal

pub of_stmt-returns-in-Let : goal.of_stmt-returns-in-Let
of_stmt-returns-in-Let g t c = rw (c.in-Let.is, stmt.statement-Let) (rw c.as_slice.ensures at c.of_declared.ensures)

pub of_stmt-returns-in-Function : goal.of_stmt-returns-in-Function
of_stmt-returns-in-Function g t c = rw (c.in-Function.is, stmt.statement-Function) (role_ok _ roles.Declared _ _ _ _ _ _ c.of_function.ensures)

pub of_stmt-returns-in-Class : goal.of_stmt-returns-in-Class
of_stmt-returns-in-Class g t c = rw (c.in-Class.is, stmt.statement-Class) (role_ok _ roles.Declared _ _ _ _ _ _ c.of_class.ensures)

pub of_stmt-returns-in-Empty : goal.of_stmt-returns-in-Empty
of_stmt-returns-in-Empty g t c = rw (c.in-Empty.is, stmt.statement-Empty) (leaf_ok _ nodes.sound _ _ _ _ c.add-in-Empty.result c.add-in-Empty.ensures)

pub of_stmt-returns-in_ok-of_block-in-Block : goal.of_stmt-returns-in_ok-of_block-in-Block
of_stmt-returns-in_ok-of_block-in-Block g t c = rw (c.in-Block.is, stmt.statement-Block) (adds-node _ nodes.sound (statements.block (map statements.statement c.in-Block.items)) _ _ _ _ _ c.in_ok-add-in-Block.ensures (rw c.as_slice-in-Block.ensures at c.in_ok-of_block-in-Block.ensures))

pub of_stmt-returns-in_ok-of_other-in-If : goal.of_stmt-returns-in_ok-of_other-in-If
of_stmt-returns-in_ok-of_other-in-If g t c = rw (c.in-If.is, stmt.statement-If) (adds-node _ nodes.sound (both (statements.expr_marks c.in-If.test) (both ((statements.statement c.in-If.body).marks) (statements.or_none statements.marks_of (nodes.mapped statements.statement c.in-If.other)))) _ _ _ _ _ c.in_ok-add-in-If.ensures (adds-both _ (statements.expr_marks c.in-If.test) (both ((statements.statement c.in-If.body).marks) (statements.or_none statements.marks_of (nodes.mapped statements.statement c.in-If.other))) _ _ _ _ _ c.in_ok-of_expr-in-If.ensures (adds-both _ ((statements.statement c.in-If.body).marks) (statements.or_none statements.marks_of (nodes.mapped statements.statement c.in-If.other)) _ _ _ _ _ (rw c.get.ensures at c.in_ok-of_stmt-in-If.ensures) c.in_ok-of_other-in-If.ensures)))

pub of_stmt-returns-in_ok-of_stmt-in-While : goal.of_stmt-returns-in_ok-of_stmt-in-While
of_stmt-returns-in_ok-of_stmt-in-While g t c = rw (c.in-While.is, stmt.statement-While) (adds-node _ nodes.sound (both (statements.expr_marks c.in-While.test) (statements.looped ((statements.statement c.in-While.body).marks))) _ _ _ _ _ c.in_ok-add-in-While.ensures (adds-both _ (statements.expr_marks c.in-While.test) (statements.looped ((statements.statement c.in-While.body).marks)) _ _ _ _ _ c.in_ok-of_expr-in-While.ensures (turn_ok _ ((statements.statement c.in-While.body).marks) _ _ _ _ (rw (c.in_turn.ensures, c.get-in-While.ensures) at c.in_ok-of_stmt-in-While.ensures))))

pub of_stmt-returns-in_ok-of_expr-in-Do : goal.of_stmt-returns-in_ok-of_expr-in-Do
of_stmt-returns-in_ok-of_expr-in-Do g t c = rw (c.in-Do.is, stmt.statement-Do) (adds-node _ nodes.sound (both (statements.looped ((statements.statement c.in-Do.body).marks)) (statements.expr_marks c.in-Do.test)) _ _ _ _ _ c.in_ok-add-in-Do.ensures (adds-both _ (statements.looped ((statements.statement c.in-Do.body).marks)) (statements.expr_marks c.in-Do.test) _ _ _ _ _ (turn_ok _ ((statements.statement c.in-Do.body).marks) _ _ _ _ (rw (c.in_turn-in-Do.ensures, c.get-in-Do.ensures) at c.in_ok-of_stmt-in-Do.ensures)) c.in_ok-of_expr-in-Do.ensures))

pub of_stmt-returns-in_ok-of_for-in-For : goal.of_stmt-returns-in_ok-of_for-in-For
of_stmt-returns-in_ok-of_for-in-For g t c = rw (c.in-For.is, stmt.statement-For) (adds-node _ nodes.sound (statements.scoped (statements.for_init_slots c.in-For.first) (for_inner c.in-For.first c.in-For.test c.in-For.update (statements.statement c.in-For.body))) _ _ _ _ _ c.in_ok-add-in-For.ensures (rw c.get-in-For.ensures at c.in_ok-of_for-in-For.ensures))

pub of_stmt-returns-in_ok-of_for_body-in-ForOf : goal.of_stmt-returns-in_ok-of_for_body-in-ForOf
of_stmt-returns-in_ok-of_for_body-in-ForOf g t c = rw (c.in-ForOf.is, stmt.statement-ForOf) (adds-node _ nodes.sound (both (statements.scoped (statements.target_slots c.in-ForOf.is_const c.in-ForOf.target) (statements.target_marks c.in-ForOf.target)) (both (statements.expr_marks c.in-ForOf.x) (statements.scoped (statements.target_slots c.in-ForOf.is_const c.in-ForOf.target) (statements.looped ((statements.statement c.in-ForOf.body).marks))))) _ _ _ _ _ c.in_ok-add-in-ForOf.ensures (adds-both _ (statements.scoped (statements.target_slots c.in-ForOf.is_const c.in-ForOf.target) (statements.target_marks c.in-ForOf.target)) (both (statements.expr_marks c.in-ForOf.x) (statements.scoped (statements.target_slots c.in-ForOf.is_const c.in-ForOf.target) (statements.looped ((statements.statement c.in-ForOf.body).marks)))) _ _ _ _ _ c.in_ok-of_for_target-in-ForOf.ensures (adds-both _ (statements.expr_marks c.in-ForOf.x) (statements.scoped (statements.target_slots c.in-ForOf.is_const c.in-ForOf.target) (statements.looped ((statements.statement c.in-ForOf.body).marks))) _ _ _ _ _ c.in_ok-of_expr-in-ForOf.ensures (rw c.get-in-ForOf.ensures at c.in_ok-of_for_body-in-ForOf.ensures))))

pub of_stmt-returns-in_ok-of_value-in-Return : goal.of_stmt-returns-in_ok-of_value-in-Return
of_stmt-returns-in_ok-of_value-in-Return g t c = rw (c.in-Return.is, stmt.statement-Return) (adds-node _ (λ p. condition.when (condition.is_bad_return p) kind.BadReturn) (statements.or_none statements.expr_marks c.in-Return.x) _ _ _ _ _ (rw c.when.ensures at c.in_ok-add-in-Return.ensures) c.in_ok-of_value-in-Return.ensures)

pub of_stmt-returns-in_ok-of_expr-in-Throw : goal.of_stmt-returns-in_ok-of_expr-in-Throw
of_stmt-returns-in_ok-of_expr-in-Throw g t c = rw (c.in-Throw.is, stmt.statement-Throw) (adds-node _ nodes.sound (statements.expr_marks c.in-Throw.x) _ _ _ _ _ c.in_ok-add-in-Throw.ensures c.in_ok-of_expr-in-Throw.ensures)

pub of_stmt-returns-in_ok-add-in-Break : goal.of_stmt-returns-in_ok-add-in-Break
of_stmt-returns-in_ok-add-in-Break g t c = rw (c.in-Break.is, stmt.statement-Break) (adds-node _ (λ p. condition.when (condition.is_bad_break p) kind.BadBreak) nodes.none _ _ _ _ _ (rw c.when-in-Break.ensures at c.in_ok-add-in-Break.ensures) (adds-none _ _ _ _))

pub of_stmt-returns-in_ok-add-in-Continue : goal.of_stmt-returns-in_ok-add-in-Continue
of_stmt-returns-in_ok-add-in-Continue g t c = rw (c.in-Continue.is, stmt.statement-Continue) (adds-node _ (λ p. condition.when (condition.is_bad_break p) kind.BadBreak) nodes.none _ _ _ _ _ (rw c.when-in-Continue.ensures at c.in_ok-add-in-Continue.ensures) (adds-none _ _ _ _))

pub of_stmt-returns-in_ok-of_expr-in-Expr : goal.of_stmt-returns-in_ok-of_expr-in-Expr
of_stmt-returns-in_ok-of_expr-in-Expr g t c = rw (c.in-Expr.is, stmt.statement-Expr) (adds-node _ nodes.sound (statements.expr_marks c.in-Expr.x) _ _ _ _ _ c.in_ok-add-in-Expr.ensures c.in_ok-of_expr-in-Expr.ensures)

pub of_other-returns-in-Some : goal.of_other-returns-in-Some
of_other-returns-in-Some g t c = rw c.in-Some.is (rw c.get.ensures at c.of_stmt.ensures)

pub of_other-returns-in-None : goal.of_other-returns-in-None
of_other-returns-in-None g t c = rw c.in-None.is (adds-none _ _ _ _)

pub of_handler-returns-in-Some : goal.of_handler-returns-in-Some
of_handler-returns-in-Some g t c = rw c.in-Some.is c.of_catch.ensures

pub of_handler-returns-in-None : goal.of_handler-returns-in-None
of_handler-returns-in-None g t c = rw c.in-None.is (adds-none _ _ _ _)

pub of_block-returns : goal.of_block-returns
of_block-returns g t c = scoped_binds _ (statements.in_order (map statements.statement c.args.items.now)) (slot_names (statements.all_slots (map statements.statement c.args.items.now))) (statements.all_slots (map statements.statement c.args.items.now)) _ _ _ _ _ _ _ _ c.in_ok-slots.ensures c.in_ok-outer.ensures.inside c.in_ok-outer.ensures.outer c.in_ok-of_items.ensures c.leave.ensures

pub of_for-returns : goal.of_for-returns
of_for-returns g t c = scoped_adds _ (for_inner c.args.first.now c.args.test.now c.args.update.now (statements.statement c.args.body.now)) (statements.for_init_slots c.args.first.now) _ _ _ _ _ _ _ _ c.in_ok-slots.ensures c.in_ok-outer.ensures.inside c.in_ok-outer.ensures.outer c.in_ok-of_for_parts.ensures c.leave.ensures

pub of_for_parts-returns : goal.of_for_parts-returns
of_for_parts-returns g t c = (adds-both _ (statements.for_init_marks c.args.first.now) (both (statements.or_none statements.expr_marks c.args.test.now) (both (statements.or_none statements.expr_marks c.args.update.now) (statements.looped ((statements.statement c.args.body.now).marks)))) _ _ _ _ _ c.in_ok-of_first.ensures (adds-both _ (statements.or_none statements.expr_marks c.args.test.now) (both (statements.or_none statements.expr_marks c.args.update.now) (statements.looped ((statements.statement c.args.body.now).marks))) _ _ _ _ _ c.in_ok-of_value.ensures (adds-both _ (statements.or_none statements.expr_marks c.args.update.now) (statements.looped ((statements.statement c.args.body.now).marks)) _ _ _ _ _ c.in_ok-of_value-2.ensures (turn_ok _ ((statements.statement c.args.body.now).marks) _ _ _ _ (rw c.in_turn.ensures at c.in_ok-of_stmt.ensures)))))

pub of_for_body-returns : goal.of_for_body-returns
of_for_body-returns g t c = scoped_adds _ (statements.looped ((statements.statement c.args.body.now).marks)) (statements.target_slots c.args.is_const c.args.target.now) _ _ _ _ _ _ _ _ c.in_ok-slots.ensures c.in_ok-outer.ensures.inside c.in_ok-outer.ensures.outer (turn_ok _ ((statements.statement c.args.body.now).marks) _ _ _ _ (rw c.in_turn.ensures at c.in_ok-of_stmt.ensures)) c.leave.ensures

pub of_catch-returns : goal.of_catch-returns
of_catch-returns g t c = rw (stmt.handler_of-fields) (scoped_adds _ (both (statements.or_none statements.target_marks (out-Catch c.args.clause.now).target) (statements.block (map statements.statement (out-Catch c.args.clause.now).block))) (statements.caught_slots (out-Catch c.args.clause.now).target) _ _ _ _ _ _ _ _ c.in_ok-slots.ensures c.in_ok-outer.ensures.inside c.in_ok-outer.ensures.outer (adds-both _ (statements.or_none statements.target_marks (out-Catch c.args.clause.now).target) (statements.block (map statements.statement (out-Catch c.args.clause.now).block)) _ _ _ _ _ c.in_ok-of_caught.ensures (rw c.as_slice.ensures at c.in_ok-of_block.ensures)) c.leave.ensures)

pub of_items-loop-item-init : goal.of_items-loop-item-init
of_items-loop-item-init g t c = bound-all _ _ _ _ _ _

pub of_items-loop-item-preserved : goal.of_items-loop-item-preserved
of_items-loop-item-preserved g t c = let h : c.loop-item.item-index < length c.args.items.now = omega (arith, c.loop-item-test.true) in bound-less _ _ ((statements.statement c.item-item.result).marks) (statements.in_order (map statements.statement (drop (c.loop-item.item-index + 1) c.args.items.now))) _ _ (slot_names (statements.statement c.item-item.result).slots) _ _ _ _ _ _ _ _ c.in_ok-of_stmt.ensures refl refl c.in_ok-pass_stmt.ensures c.loop-item.invariant (order-left c.args.items.now c.loop-item.item-index c.item-item.result _ h c.item-item.is) (declared-left c.args.items.now c.loop-item.item-index c.item-item.result h c.item-item.is)

pub of_items-returns : goal.of_items-returns
of_items-returns g t c = let h : length c.args.items.now ≤ c.loop-item.item-index = omega (arith, c.loop-item-test.false) in bound-nothing _ _ _ _ _ _ _ _ _ c.loop-item.invariant (order-done c.args.items.now c.loop-item.item-index _ h) (declared-done c.args.items.now c.loop-item.item-index h)

pub of_stmt-returns-in_ok-of_block-in-Some : goal.of_stmt-returns-in_ok-of_block-in-Some
of_stmt-returns-in_ok-of_block-in-Some g t c = rw (c.in-Try.is, c.in-Some.is, stmt.statement-Try) (adds-node _ nodes.sound (both (statements.block (map statements.statement c.in-Try.items)) (both (statements.or_none statements.marks_of (nodes.mapped statements.handler_of c.in-Try.handler)) (statements.or_none statements.block (Some (map statements.statement c.in-Some.last))))) _ _ _ _ _ c.in_ok-add-in-Try.ensures (adds-both _ (statements.block (map statements.statement c.in-Try.items)) (both (statements.or_none statements.marks_of (nodes.mapped statements.handler_of c.in-Try.handler)) (statements.or_none statements.block (Some (map statements.statement c.in-Some.last)))) _ _ _ _ _ (rw c.as_slice-in-Try.ensures at c.in_ok-of_block-in-Try.ensures) (adds-both _ (statements.or_none statements.marks_of (nodes.mapped statements.handler_of c.in-Try.handler)) (statements.or_none statements.block (Some (map statements.statement c.in-Some.last))) _ _ _ _ _ c.in_ok-of_handler-in-Try.ensures (rw c.as_slice-in-Some.ensures at c.in_ok-of_block-in-Some.ensures))))

pub of_stmt-returns-in-None : goal.of_stmt-returns-in-None
of_stmt-returns-in-None g t c = rw (c.in-Try.is, c.in-None.is, stmt.statement-Try) (adds-node _ nodes.sound (both (statements.block (map statements.statement c.in-Try.items)) (both (statements.or_none statements.marks_of (nodes.mapped statements.handler_of c.in-Try.handler)) (statements.or_none statements.block None))) _ _ _ _ _ c.in_ok-add-in-Try.ensures (adds-both _ (statements.block (map statements.statement c.in-Try.items)) (both (statements.or_none statements.marks_of (nodes.mapped statements.handler_of c.in-Try.handler)) (statements.or_none statements.block None)) _ _ _ _ _ (rw c.as_slice-in-Try.ensures at c.in_ok-of_block-in-Try.ensures) (adds-both _ (statements.or_none statements.marks_of (nodes.mapped statements.handler_of c.in-Try.handler)) (statements.or_none statements.block None) _ _ _ _ _ c.in_ok-of_handler-in-Try.ensures (adds-none _ _ _ _))))
