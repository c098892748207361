use Rattle.std.proofs.Common.{arith, refl}
use Rattle.actx_scope_rules.proofs.Lists.{more, finished}
use Rattle.actx_scope_rules.proofs.Names.{slot_names-left, slot_names-done}
use Rattle.actx_scope_rules.proofs.earlier.Earlier.add_all.Goals as goal

pub returns : goal.returns
returns c = finished _ _ _ (slot_names-done c.args.slots.now c.loop-slot.slot-index (omega (arith, c.loop-slot-test.false))) c.loop-slot.invariant

pub loop-slot-init : goal.loop-slot-init
loop-slot-init c = refl

pub loop-slot-preserved : goal.loop-slot-preserved
loop-slot-preserved c = more _ _ _ _ _ _ c.in_ok-add_name.ensures (slot_names-left c.args.slots.now c.loop-slot.slot-index c.slot-item.result (omega (arith, c.loop-slot-test.true)) c.slot-item.is) c.loop-slot.invariant
