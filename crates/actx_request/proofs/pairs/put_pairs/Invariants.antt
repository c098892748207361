use Rattle.std.proofs.Common.{◌≡◌, false, take}
use Rattle.actx_request.specs.Limits.{properties_above}
use Rattle.actx_request.specs.Copies.{with_pairs_at}
use Rattle.actx_request.proofs.pairs.put_pairs.Given as goal

-- the values up to here are written, within the limit
abbrev pub invariant-loop-k : goal.invariant-loop-k
invariant-loop-k l = (l.objects ≡ with_pairs_at l.texts.texts (take l.k-index l.pairs) l.o l.fn.objects) × (properties_above l.fn.objects l.objects ≡ false)
