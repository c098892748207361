-- The proof that the walk finds the bodies in each kind of statement.
use Rattle.std.proofs.Common.{rules, arith, inl, inr, ◌<◌, ◌≤◌, length, refl, append_assoc}
use Rattle.std.proofs.lemmas.List.{append-nil}
use Rattle.actx_tree.specs.Bodies as bodies
use Rattle.actx_tree.specs.Levels as levels
use Rattle.actx_tree.specs.declared.stmt.Stmt.{the_lemmas}
use Rattle.actx_tree.proofs.StmtLevelEquations.{catch_levels-fields, stmt_levels-Block, stmt_levels-Class, stmt_levels-Do, stmt_levels-Expr, stmt_levels-For, stmt_levels-ForOf, stmt_levels-Function, stmt_levels-If, stmt_levels-Let, stmt_levels-Return, stmt_levels-Throw, stmt_levels-Try, stmt_levels-While}
use Rattle.actx_tree.proofs.StmtBodyEquations.{catch_bodies-fields, stmt_bodies-Block, stmt_bodies-Break, stmt_bodies-Class, stmt_bodies-Continue, stmt_bodies-Do, stmt_bodies-Empty, stmt_bodies-Expr, stmt_bodies-For, stmt_bodies-ForOf, stmt_bodies-Function, stmt_bodies-If, stmt_bodies-Let, stmt_bodies-Return, stmt_bodies-Throw, stmt_bodies-Try, stmt_bodies-While}
use Rattle.actx_tree.proofs.Walk.{highest-drop, all_more, all_done}
use Rattle.actx_tree.proofs.bodies.+statements.Goals as goal

pub bodies_of_stmt-of_elems-requires : goal.bodies_of_stmt-of_elems-requires
bodies_of_stmt-of_elems-requires t c = let r = rw (c.in-Let.is, stmt_levels-Let) at c.requires in rw c.as_slice.ensures (omega (arith, r))

pub bodies_of_stmt-of_function-requires : goal.bodies_of_stmt-of_function-requires
bodies_of_stmt-of_function-requires t c = let r = rw (c.in-Function.is, stmt_levels-Function) at c.requires in omega (arith, r)

pub bodies_of_stmt-of_class-requires : goal.bodies_of_stmt-of_class-requires
bodies_of_stmt-of_class-requires t c = let r = rw (c.in-Class.is, stmt_levels-Class) at c.requires in omega (arith, r)

pub bodies_of_stmt-bodies_of_stmts-requires : goal.bodies_of_stmt-bodies_of_stmts-requires
bodies_of_stmt-bodies_of_stmts-requires t c = let r = rw (c.in-Block.is, stmt_levels-Block) at c.requires in (search (rules, the_lemmas), rw c.as_slice-in-Block.ensures (omega (arith, r)))

pub bodies_of_stmt-of_expr-requires : goal.bodies_of_stmt-of_expr-requires
bodies_of_stmt-of_expr-requires t c = let r = rw (c.in-If.is, stmt_levels-If) at c.requires in omega (arith, r)

pub bodies_of_stmt-bodies_of_stmt-requires : goal.bodies_of_stmt-bodies_of_stmt-requires
bodies_of_stmt-bodies_of_stmt-requires t c = let r = rw (c.in-If.is, stmt_levels-If) at c.requires in (search (rules, the_lemmas), rw c.get.ensures (omega (arith, r)))

pub bodies_of_stmt-of_other-requires : goal.bodies_of_stmt-of_other-requires
bodies_of_stmt-of_other-requires t c = let r = rw (c.in-If.is, stmt_levels-If) at c.requires in (search (rules, the_lemmas), omega (arith, r))

pub bodies_of_stmt-of_expr-requires-in-While : goal.bodies_of_stmt-of_expr-requires-in-While
bodies_of_stmt-of_expr-requires-in-While t c = let r = rw (c.in-While.is, stmt_levels-While) at c.requires in omega (arith, r)

pub bodies_of_stmt-bodies_of_stmt-requires-in-While : goal.bodies_of_stmt-bodies_of_stmt-requires-in-While
bodies_of_stmt-bodies_of_stmt-requires-in-While t c = let r = rw (c.in-While.is, stmt_levels-While) at c.requires in (search (rules, the_lemmas), rw c.get-in-While.ensures (omega (arith, r)))

pub bodies_of_stmt-bodies_of_stmt-requires-in-Do : goal.bodies_of_stmt-bodies_of_stmt-requires-in-Do
bodies_of_stmt-bodies_of_stmt-requires-in-Do t c = let r = rw (c.in-Do.is, stmt_levels-Do) at c.requires in (search (rules, the_lemmas), rw c.get-in-Do.ensures (omega (arith, r)))

pub bodies_of_stmt-of_expr-requires-in-Do : goal.bodies_of_stmt-of_expr-requires-in-Do
bodies_of_stmt-of_expr-requires-in-Do t c = let r = rw (c.in-Do.is, stmt_levels-Do) at c.requires in omega (arith, r)

pub bodies_of_stmt-of_first-requires : goal.bodies_of_stmt-of_first-requires
bodies_of_stmt-of_first-requires t c = let r = rw (c.in-For.is, stmt_levels-For) at c.requires in omega (arith, r)

pub bodies_of_stmt-of_value-requires : goal.bodies_of_stmt-of_value-requires
bodies_of_stmt-of_value-requires t c = let r = rw (c.in-For.is, stmt_levels-For) at c.requires in omega (arith, r)

pub bodies_of_stmt-of_value-requires-in-For : goal.bodies_of_stmt-of_value-requires-in-For
bodies_of_stmt-of_value-requires-in-For t c = let r = rw (c.in-For.is, stmt_levels-For) at c.requires in omega (arith, r)

pub bodies_of_stmt-bodies_of_stmt-requires-in-For : goal.bodies_of_stmt-bodies_of_stmt-requires-in-For
bodies_of_stmt-bodies_of_stmt-requires-in-For t c = let r = rw (c.in-For.is, stmt_levels-For) at c.requires in (search (rules, the_lemmas), rw c.get-in-For.ensures (omega (arith, r)))

pub bodies_of_stmt-of_target-requires : goal.bodies_of_stmt-of_target-requires
bodies_of_stmt-of_target-requires t c = let r = rw (c.in-ForOf.is, stmt_levels-ForOf) at c.requires in omega (arith, r)

pub bodies_of_stmt-of_expr-requires-in-ForOf : goal.bodies_of_stmt-of_expr-requires-in-ForOf
bodies_of_stmt-of_expr-requires-in-ForOf t c = let r = rw (c.in-ForOf.is, stmt_levels-ForOf) at c.requires in omega (arith, r)

pub bodies_of_stmt-bodies_of_stmt-requires-in-ForOf : goal.bodies_of_stmt-bodies_of_stmt-requires-in-ForOf
bodies_of_stmt-bodies_of_stmt-requires-in-ForOf t c = let r = rw (c.in-ForOf.is, stmt_levels-ForOf) at c.requires in (search (rules, the_lemmas), rw c.get-in-ForOf.ensures (omega (arith, r)))

pub bodies_of_stmt-of_value-requires-in-Return : goal.bodies_of_stmt-of_value-requires-in-Return
bodies_of_stmt-of_value-requires-in-Return t c = let r = rw (c.in-Return.is, stmt_levels-Return) at c.requires in omega (arith, r)

pub bodies_of_stmt-bodies_of_stmts-requires-in-Try : goal.bodies_of_stmt-bodies_of_stmts-requires-in-Try
bodies_of_stmt-bodies_of_stmts-requires-in-Try t c = let r = rw (c.in-Try.is, stmt_levels-Try) at c.requires in (search (rules, the_lemmas), rw c.as_slice-in-Try.ensures (omega (arith, r)))

pub bodies_of_stmt-of_handler-requires : goal.bodies_of_stmt-of_handler-requires
bodies_of_stmt-of_handler-requires t c = let r = rw (c.in-Try.is, stmt_levels-Try) at c.requires in (search (rules, the_lemmas), omega (arith, r))

pub bodies_of_stmt-bodies_of_stmts-requires-in-Some : goal.bodies_of_stmt-bodies_of_stmts-requires-in-Some
bodies_of_stmt-bodies_of_stmts-requires-in-Some t c = let r = rw (c.in-Try.is, stmt_levels-Try, c.in-Some.is) at c.requires in (search (rules, the_lemmas), rw c.as_slice-in-Some.ensures (omega (arith, r)))

pub bodies_of_stmt-of_expr-requires-in-Throw : goal.bodies_of_stmt-of_expr-requires-in-Throw
bodies_of_stmt-of_expr-requires-in-Throw t c = elim c.in-Throw.is [ inl e ↦ let r = rw (e, stmt_levels-Throw) at c.requires in omega (arith, r) | inr h ↦ let r = rw (h, stmt_levels-Expr) at c.requires in omega (arith, r) ]

pub bodies_of_stmt-returns-in-Let : goal.bodies_of_stmt-returns-in-Let
bodies_of_stmt-returns-in-Let t c = let last = rw c.as_slice.ensures at c.of_elems.ensures in rw (c.in-Let.is, stmt_bodies-Let) last

pub bodies_of_stmt-returns-in-Function : goal.bodies_of_stmt-returns-in-Function
bodies_of_stmt-returns-in-Function t c = let last = c.of_function.ensures in rw (c.in-Function.is, stmt_bodies-Function) last

pub bodies_of_stmt-returns-in-Class : goal.bodies_of_stmt-returns-in-Class
bodies_of_stmt-returns-in-Class t c = let last = c.of_class.ensures in rw (c.in-Class.is, stmt_bodies-Class) last

pub bodies_of_stmt-returns-in-Block : goal.bodies_of_stmt-returns-in-Block
bodies_of_stmt-returns-in-Block t c = let last = rw c.as_slice-in-Block.ensures at c.bodies_of_stmts.ensures in rw (c.in-Block.is, stmt_bodies-Block) last

pub bodies_of_stmt-returns-in_ok-bodies_of_stmt-in-If : goal.bodies_of_stmt-returns-in_ok-bodies_of_stmt-in-If
bodies_of_stmt-returns-in_ok-bodies_of_stmt-in-If t c = let s1 = c.in_ok-of_expr-in-If.ensures in let s2 = rw c.get.ensures at c.in_ok-bodies_of_stmt-in-If.ensures in let last = c.of_other.ensures in rw (c.in-If.is, stmt_bodies-If, ← append_assoc c.args.found.now, ← s1, ← append_assoc c.of_expr.new.found, ← s2) last

pub bodies_of_stmt-returns-in_ok-of_expr-in-While : goal.bodies_of_stmt-returns-in_ok-of_expr-in-While
bodies_of_stmt-returns-in_ok-of_expr-in-While t c = let s1 = c.in_ok-of_expr-in-While.ensures in let last = rw c.get-in-While.ensures at c.bodies_of_stmt-in-While.ensures in rw (c.in-While.is, stmt_bodies-While, ← append_assoc c.args.found.now, ← s1) last

pub bodies_of_stmt-returns-in_ok-bodies_of_stmt-in-Do : goal.bodies_of_stmt-returns-in_ok-bodies_of_stmt-in-Do
bodies_of_stmt-returns-in_ok-bodies_of_stmt-in-Do t c = let s1 = rw c.get-in-Do.ensures at c.in_ok-bodies_of_stmt-in-Do.ensures in let last = c.of_expr-in-Do.ensures in rw (c.in-Do.is, stmt_bodies-Do, ← append_assoc c.args.found.now, ← s1) last

pub bodies_of_stmt-returns-in_ok-of_value-in-For-2 : goal.bodies_of_stmt-returns-in_ok-of_value-in-For-2
bodies_of_stmt-returns-in_ok-of_value-in-For-2 t c = let s1 = c.in_ok-of_first-in-For.ensures in let s2 = c.in_ok-of_value-in-For.ensures in let s3 = c.in_ok-of_value-in-For-2.ensures in let last = rw c.get-in-For.ensures at c.bodies_of_stmt-in-For.ensures in rw (c.in-For.is, stmt_bodies-For, ← append_assoc c.args.found.now, ← s1, ← append_assoc c.of_first.new.found, ← s2, ← append_assoc c.of_value.new.found, ← s3) last

pub bodies_of_stmt-returns-in_ok-of_expr-in-ForOf : goal.bodies_of_stmt-returns-in_ok-of_expr-in-ForOf
bodies_of_stmt-returns-in_ok-of_expr-in-ForOf t c = let s1 = c.in_ok-of_target-in-ForOf.ensures in let s2 = c.in_ok-of_expr-in-ForOf.ensures in let last = rw c.get-in-ForOf.ensures at c.bodies_of_stmt-in-ForOf.ensures in rw (c.in-ForOf.is, stmt_bodies-ForOf, ← append_assoc c.args.found.now, ← s1, ← append_assoc c.of_target.new.found, ← s2) last

pub bodies_of_stmt-returns-in-Return : goal.bodies_of_stmt-returns-in-Return
bodies_of_stmt-returns-in-Return t c = let last = c.of_value-in-Return.ensures in rw (c.in-Return.is, stmt_bodies-Return) last

pub bodies_of_stmt-returns-in-Some : goal.bodies_of_stmt-returns-in-Some
bodies_of_stmt-returns-in-Some t c = let s1 = rw c.as_slice-in-Try.ensures at c.in_ok-bodies_of_stmts-in-Try.ensures in let s2 = c.in_ok-of_handler-in-Try.ensures in let last = rw c.as_slice-in-Some.ensures at c.bodies_of_stmts-in-Some.ensures in rw (c.in-Try.is, stmt_bodies-Try, c.in-Some.is, ← append_assoc c.args.found.now, ← s1, ← append_assoc c.bodies_of_stmts-in-Try.new.found, ← s2) last

pub bodies_of_stmt-returns-in-None : goal.bodies_of_stmt-returns-in-None
bodies_of_stmt-returns-in-None t c = let s1 = rw c.as_slice-in-Try.ensures at c.in_ok-bodies_of_stmts-in-Try.ensures in let s2 = c.in_ok-of_handler-in-Try.ensures in rw (c.in-Try.is, stmt_bodies-Try, c.in-None.is, append-nil, ← append_assoc c.args.found.now, ← s1) s2

pub bodies_of_stmt-returns-in-Empty : goal.bodies_of_stmt-returns-in-Empty
bodies_of_stmt-returns-in-Empty t c = elim c.in-Empty.is [ inl e ↦ rw (e, stmt_bodies-Empty, append-nil) | inr h ↦ elim h [ inl e ↦ rw (e, stmt_bodies-Break, append-nil) | inr h ↦ rw (h, stmt_bodies-Continue, append-nil) ] ]

pub bodies_of_stmt-returns-in-Empty-2 : goal.bodies_of_stmt-returns-in-Empty-2
bodies_of_stmt-returns-in-Empty-2 t c = elim c.in-Empty.is [ inl e ↦ rw (e, stmt_bodies-Empty, append-nil) | inr h ↦ elim h [ inl e ↦ rw (e, stmt_bodies-Break, append-nil) | inr h ↦ rw (h, stmt_bodies-Continue, append-nil) ] ]

pub bodies_of_stmt-returns-in-Empty-3 : goal.bodies_of_stmt-returns-in-Empty-3
bodies_of_stmt-returns-in-Empty-3 t c = elim c.in-Empty.is [ inl e ↦ rw (e, stmt_bodies-Empty, append-nil) | inr h ↦ elim h [ inl e ↦ rw (e, stmt_bodies-Break, append-nil) | inr h ↦ rw (h, stmt_bodies-Continue, append-nil) ] ]

pub bodies_of_stmt-returns-in-Throw : goal.bodies_of_stmt-returns-in-Throw
bodies_of_stmt-returns-in-Throw t c = let last = c.of_expr-in-Throw.ensures in elim c.in-Throw.is [ inl e ↦ rw (e, stmt_bodies-Throw) last | inr h ↦ rw (h, stmt_bodies-Expr) last ]

pub bodies_of_stmts-loop-item-init : goal.bodies_of_stmts-loop-item-init
bodies_of_stmts-loop-item-init t c = (refl, c.requires)

pub bodies_of_stmts-bodies_of_stmt-requires : goal.bodies_of_stmts-bodies_of_stmt-requires
bodies_of_stmts-bodies_of_stmt-requires t c = let h : c.loop-item.item-index < length c.args.items.now = omega (arith, c.loop-item-test.true) in let e = highest-drop levels.stmt_levels c.args.items.now c.loop-item.item-index c.item-item.result h c.item-item.is in (search (rules, the_lemmas), omega (arith, e, c.loop-item.invariant.1))

pub bodies_of_stmts-loop-item-preserved : goal.bodies_of_stmts-loop-item-preserved
bodies_of_stmts-loop-item-preserved t c = let h : c.loop-item.item-index < length c.args.items.now = omega (arith, c.loop-item-test.true) in let e = highest-drop levels.stmt_levels c.args.items.now c.loop-item.item-index c.item-item.result h c.item-item.is in (all_more bodies.stmt_bodies c.args.items.now c.loop-item.item-index c.item-item.result c.args.depth c.loop-item.found c.bodies_of_stmt.new.found _ h c.item-item.is c.in_ok-bodies_of_stmt.ensures c.loop-item.invariant.0, omega (arith, e, c.loop-item.invariant.1))

pub bodies_of_stmts-returns : goal.bodies_of_stmts-returns
bodies_of_stmts-returns t c = let h : length c.args.items.now ≤ c.loop-item.item-index = omega (arith, c.loop-item-test.false) in all_done bodies.stmt_bodies c.args.items.now c.loop-item.item-index c.args.depth c.loop-item.found _ h c.loop-item.invariant.0

pub of_catch-of_bound-requires : goal.of_catch-of_bound-requires
of_catch-of_bound-requires t c = let r = rw (catch_levels-fields) at c.requires in omega (arith, r)

pub of_catch-bodies_of_stmts-requires : goal.of_catch-bodies_of_stmts-requires
of_catch-bodies_of_stmts-requires t c = let r = rw (catch_levels-fields) at c.requires in (search (rules, the_lemmas), rw c.as_slice.ensures (omega (arith, r)))

pub of_catch-returns : goal.of_catch-returns
of_catch-returns t c = let s1 = c.in_ok-of_bound.ensures in let last = rw c.as_slice.ensures at c.bodies_of_stmts.ensures in rw (catch_bodies-fields, ← append_assoc c.args.found.now, ← s1) last

pub of_handler-of_catch-requires : goal.of_handler-of_catch-requires
of_handler-of_catch-requires t c = let r = rw (c.in-Some.is) at c.requires in (search (rules, the_lemmas), omega (arith, r))

pub of_handler-returns-in-Some : goal.of_handler-returns-in-Some
of_handler-returns-in-Some t c = let last = c.of_catch.ensures in rw (c.in-Some.is) last

pub of_handler-returns-in-None : goal.of_handler-returns-in-None
of_handler-returns-in-None t c = rw (c.in-None.is, append-nil)

pub of_other-bodies_of_stmt-requires : goal.of_other-bodies_of_stmt-requires
of_other-bodies_of_stmt-requires t c = let r = rw (c.in-Some.is) at c.requires in (search (rules, the_lemmas), rw c.get.ensures (omega (arith, r)))

pub of_other-returns-in-Some : goal.of_other-returns-in-Some
of_other-returns-in-Some t c = let last = rw c.get.ensures at c.bodies_of_stmt.ensures in rw (c.in-Some.is) last

pub of_other-returns-in-None : goal.of_other-returns-in-None
of_other-returns-in-None t c = rw (c.in-None.is, append-nil)
