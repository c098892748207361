use Rattle.std.proofs.Common.{◌≡◌, true, take}
use Rattle.actx_request.specs.Copies.{is_kept}
use Rattle.actx_request.proofs.sources.is_kept.Given as goal

-- the key is none of those up to here
abbrev pub invariant-loop-v : goal.invariant-loop-v
invariant-loop-v l = is_kept l.texts.texts (take l.v-index l.excluded) l.k ≡ true
