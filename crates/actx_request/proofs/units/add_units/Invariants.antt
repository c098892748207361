use Rattle.std.proofs.Common.{◌≡◌, false, take, length}
use Rattle.actx_request.specs.Limits.{text_above}
use Rattle.actx_request.specs.Copies.{numbered, with_units}
use Rattle.actx_request.proofs.units.add_units.Given as goal

-- the units up to here are texts, within the limit
abbrev pub invariant-loop-index : goal.invariant-loop-index
invariant-loop-index l =
    (l.pairs.items ≡ numbered (length l.fn.texts.texts) (take l.index-index l.units)) × (l.texts ≡ with_units (take l.index-index l.units) l.fn.texts) × (text_above l.fn.texts l.texts ≡ false)
