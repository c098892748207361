use Rattle.std.proofs.Common.{◌≡◌, ◌++◌, take}
use Rattle.actx_ops.proofs.convert.push_word.Given as goal

-- the letters up to here stand at the end
abbrev pub invariant-loop-letter : goal.invariant-loop-letter
invariant-loop-letter l = l.units.items ≡ l.initial.units.items ++ take l.letter-index l.word
