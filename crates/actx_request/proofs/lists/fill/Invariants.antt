use Rattle.std.proofs.Common.{◌≡◌, false, take}
use Rattle.actx_request.specs.Limits.{properties_above}
use Rattle.actx_request.specs.Lists.{filled}
use Rattle.actx_request.proofs.lists.fill.Given as goal

-- the values up to here stand in the array, within the limit
abbrev pub invariant-loop-v : goal.invariant-loop-v
invariant-loop-v l = (l.objects ≡ filled (take l.v-index l.list) l.o l.fn.objects) × (properties_above l.fn.objects l.objects ≡ false)
