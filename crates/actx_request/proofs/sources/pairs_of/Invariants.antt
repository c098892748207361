use Rattle.std.proofs.Common.{◌≡◌, map, take}
use Rattle.std.specs.List.{filter}
use Rattle.actx_request.specs.Copies.{is_kept, pair_at}
use Rattle.actx_request.proofs.sources.pairs_of.Given as goal

-- the pairs of the keys up to here
abbrev pub invariant-loop-k : goal.invariant-loop-k
invariant-loop-k l = l.pairs.items ≡ map (pair_at l.texts.texts l.objects l.o) (filter (is_kept l.texts.texts l.excluded) (take l.k-index l.k-items))
