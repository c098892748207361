use Rattle.std.proofs.Common.{◌≡◌, reverse, None}
use Rattle.actx_event.specs.Front.{front}
use Rattle.actx_event.specs.Numbers.{opened_at}
use Rattle.actx_event.specs.Valid.{first_broken}
use Rattle.actx_event.proofs.checking.first_failure.Given as goal

abbrev pub invariant-loop-n : goal.invariant-loop-n
invariant-loop-n l = record {
  standing : reverse l.brackets.items ≡ opened_at l.log l.n;
  unbroken : first_broken (front l.log l.n) ≡ None;
}
