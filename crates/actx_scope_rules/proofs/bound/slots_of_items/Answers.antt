use Rattle.std.proofs.Common.{arith, refl}
use Rattle.actx_scope_rules.proofs.Lists.{more, finished}
use Rattle.actx_scope_rules.proofs.Names.{slots-left_of_stmts, slots-done_of_stmts}
use Rattle.actx_scope_rules.proofs.bound.slots_of_items.Goals as goal

pub loop-item-init : goal.loop-item-init
loop-item-init c = rw c.new-slots.ensures refl

pub loop-item-preserved : goal.loop-item-preserved
loop-item-preserved c = more _ _ _ _ _ _ c.in_ok-add_stmt.ensures (slots-left_of_stmts c.args.items.now c.loop-item.item-index c.item-item.result (omega (arith, c.loop-item-test.true)) c.item-item.is) c.loop-item.invariant

pub returns : goal.returns
returns c = finished _ _ _ (slots-done_of_stmts c.args.items.now c.loop-item.item-index (omega (arith, c.loop-item-test.false))) c.loop-item.invariant
