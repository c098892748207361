use Rattle.std.proofs.Common.{◌≡◌, reverse, true}
use Rattle.actx_event.specs.Front.{front}
use Rattle.actx_event.specs.Brackets.{nests}
use Rattle.actx_event.specs.Numbers.{opened_at}
use Rattle.actx_event.proofs.open_brackets.nests.Given as goal

abbrev pub invariant-loop-n : goal.invariant-loop-n
invariant-loop-n l = record {
  standing : reverse l.brackets.items ≡ opened_at l.log l.n;
  nesting : nests (front l.log l.n) ≡ true;
}
