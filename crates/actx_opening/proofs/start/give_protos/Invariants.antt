use Rattle.std.proofs.Common.{◌≡◌, drop}
use Rattle.actx_opening.specs.Starts.{with_protos}
use Rattle.actx_opening.proofs.start.give_protos.Given as goal

abbrev pub invariant-loop-o : goal.invariant-loop-o
invariant-loop-o l = with_protos l.o (drop l.o l.table) l.objects ≡ with_protos 0 l.fn.table l.fn.objects
