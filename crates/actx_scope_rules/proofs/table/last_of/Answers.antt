use Rattle.std.proofs.Common.{◌+◌, drop, arith}
use Rattle.actx_scope_rules.proofs.Lists.{left, done}
use Rattle.actx_scope_rules.proofs.Names.{last_step, last_done}
use Rattle.actx_scope_rules.proofs.Tables.{empty_adds}
use Rattle.actx_scope_rules.proofs.table.last_of.Goals as goal

pub loop-i-init : goal.loop-i-init
loop-i-init c = λ name. empty_adds c.new-last.result name _ c.new-last.ensures.empty

pub loop-i-preserved : goal.loop-i-preserved
loop-i-preserved c = λ name. last_step name (drop c.loop-i.i c.args.slots.now) (drop (c.loop-i.i + 1) c.args.slots.now) c.loop-i.i c.index-slots-i.result _ _ _
    (left c.args.slots.now c.loop-i.i c.index-slots-i.result (omega (arith, c.loop-i-test.true)) c.index-slots-i.is) (c.in_ok-note.ensures name) (c.loop-i.invariant name)

pub returns : goal.returns
returns c = λ name. last_done name (drop c.loop-i.i c.args.slots.now) c.loop-i.i _ _ (done c.args.slots.now c.loop-i.i (omega (arith, c.loop-i-test.false))) (c.loop-i.invariant name)
