use Rattle.std.proofs.Common.{◌≡◌, take}
use Rattle.actx_text.proofs.number.number_text.Given as goal

-- each digit up to here is a unit
abbrev pub invariant-loop-b : goal.invariant-loop-b
invariant-loop-b l = l.items.items ≡ take l.b-index l.digits
