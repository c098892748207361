use Rattle.std.proofs.Common.{◌≡◌, ◌≤◌}
use Rattle.actx_event.specs.Event.{number_made}
use Rattle.actx_event.specs.Front.{front}
use Rattle.actx_event.specs.Valid.{made_count}
use Rattle.actx_event.proofs.checking.made_count.Given as goal

abbrev pub invariant-loop-n : goal.invariant-loop-n
invariant-loop-n l = record {
  counted : l.count ≡ made_count (number_made l.what) (front l.log l.n);
  bound : l.count ≤ l.n;
}
