use Rattle.std.proofs.Common.{◌≡◌, ◌≤◌, ◌-◌}
use Rattle.std.specs.List.{find, range_with_len}
use Rattle.actx_scalars.specs.Searches.{stands_at, first_place}
use Rattle.actx_scalars.proofs.search.first_place.Given as goal

-- the first place is among those that are left
abbrev pub invariant-loop-i : goal.invariant-loop-i
invariant-loop-i l =
    (l.from ≤ l.i) × (find (stands_at l.text l.search) (range_with_len l.i (l.past - l.i)) ≡ first_place l.text l.search l.from)
