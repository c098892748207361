use Rattle.std.proofs.Common.{◌≡◌, take}
use Rattle.actx_request.specs.Copies.{blank_pairs}
use Rattle.actx_request.proofs.units.blank_pairs.Given as goal

abbrev pub invariant-loop-index : goal.invariant-loop-index
invariant-loop-index l = l.pairs.items ≡ blank_pairs (take l.index-index l.units)
