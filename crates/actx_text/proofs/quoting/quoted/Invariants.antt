use Rattle.std.proofs.Common.{◌≡◌, ◌∷◌, take, flat_map}
use Rattle.actx_text.specs.Quoted.{quoted_unit}
use Rattle.actx_text.proofs.quoting.quoted.Given as goal

-- a quotation mark, and the units so far
abbrev pub invariant-loop-unit : goal.invariant-loop-unit
invariant-loop-unit l = l.bytes.items ≡ 0x22 ∷ flat_map quoted_unit (take l.unit-index l.unit-items)
