use Rattle.std.proofs.Common.{◌≡◌}
use Rattle.actx_opening.specs.Opening.{frozen_to}
use Rattle.actx_opening.proofs.store.freeze_to.Given as goal

abbrev pub invariant-loop-o : goal.invariant-loop-o
invariant-loop-o l = l.objects ≡ frozen_to l.o l.fn.objects
