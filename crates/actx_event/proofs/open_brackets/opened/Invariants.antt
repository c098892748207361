use Rattle.std.proofs.Common.{◌≡◌, reverse}
use Rattle.actx_event.specs.Numbers.{opened_at}
use Rattle.actx_event.proofs.open_brackets.opened.Given as goal

abbrev pub invariant-loop-n : goal.invariant-loop-n
invariant-loop-n l = reverse l.brackets.items ≡ opened_at l.log l.n
