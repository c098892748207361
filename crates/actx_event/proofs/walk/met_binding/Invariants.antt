use Rattle.std.proofs.Common.{◌≡◌, ◌≤◌, length}
use Rattle.actx_event.specs.Numbers.{met_number}
use Rattle.actx_event.proofs.walk.met_binding.Given as goal

abbrev pub invariant-loop-at : goal.invariant-loop-at
invariant-loop-at l = record {
  within : l.at ≤ length l.log;
  same : met_number l.log l.place l.variable.0 ≡ met_number l.log l.at l.variable.0;
}

abbrev pub decreases-loop-at : goal.decreases-loop-at
decreases-loop-at l = l.at
