use Rattle.std.proofs.Common.{◌≡◌, map, take}
use Rattle.actx_frame_steps.proofs.patterns.keys.Given as goal

-- the keys up to here stand in the list
abbrev pub invariant-loop-property : goal.invariant-loop-property
invariant-loop-property l = l.keys.items ≡ map (λ q. q.key) (take l.property-index l.list)
