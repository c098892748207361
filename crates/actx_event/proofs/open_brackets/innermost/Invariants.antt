use Rattle.std.proofs.Common.{◌≡◌, reverse, take}
use Rattle.actx_event.specs.Execution.{innermost}
use Rattle.actx_event.proofs.open_brackets.innermost.Given as goal

abbrev pub invariant-loop-one : goal.invariant-loop-one
invariant-loop-one l = l.found ≡ innermost (reverse (take l.one-index l.brackets))
