use Rattle.std.proofs.Common.{◌≡◌, false}
use Rattle.actx_event.specs.Numbers.{is_off_between}
use Rattle.actx_event.proofs.search.is_off_between.Given as goal

abbrev pub invariant-loop-n : goal.invariant-loop-n
invariant-loop-n l = is_off_between l.variable.0 l.log l.from l.n ≡ false
