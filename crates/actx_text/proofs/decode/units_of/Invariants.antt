use Rattle.std.proofs.Common.{◌≡◌}
use Rattle.actx_text.specs.Texts.{utf16_text}
use Rattle.actx_text.proofs.decode.units_of.Given as goal

-- the units of the characters so far
abbrev pub invariant-loop-c : goal.invariant-loop-c
invariant-loop-c l = l.units.items ≡ utf16_text l.yielded
