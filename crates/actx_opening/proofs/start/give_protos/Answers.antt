use Rattle.std.proofs.Common.{◌∙◌, sym, arith}
use Rattle.actx_opening.proofs.Protos.{one_given, all_given}
use Rattle.actx_opening.proofs.start.give_protos.Goals as goal

pub loop-o-preserved : goal.loop-o-preserved
loop-o-preserved c = one_given c.loop-o.o c.args.table.now _ c.loop-o.objects c.give_proto.new.objects c.loop-o-test.true c.give_proto.ensures ∙ c.loop-o.invariant

pub returns : goal.returns
returns c = sym (all_given c.loop-o.o c.args.table.now c.loop-o.objects (omega arith)) ∙ c.loop-o.invariant
