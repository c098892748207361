use Rattle.std.proofs.Common.{◌≡◌, ◌++◌, drop}
use Rattle.actx_shown.proofs.pushes.push_ascii.Given as goal

abbrev pub invariant-loop-letter : goal.invariant-loop-letter
invariant-loop-letter l = l.out.items ++ drop l.letter-index l.text ≡ l.fn.out.items ++ l.fn.text
