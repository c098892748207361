use Rattle.std.proofs.Common.{◌≡◌, ◌≤◌, ◌++◌, length}
use Rattle.actx_event.specs.Numbers.{chain_at}
use Rattle.actx_event.proofs.walk.chain.Given as goal

abbrev pub invariant-loop-at : goal.invariant-loop-at
invariant-loop-at l = record {
  within : l.at ≤ length l.log;
  same : chain_at l.log l.place l.variable.0 ≡ l.numbers.items ++ chain_at l.log l.at l.variable.0;
}

abbrev pub decreases-loop-at : goal.decreases-loop-at
decreases-loop-at l = l.at
