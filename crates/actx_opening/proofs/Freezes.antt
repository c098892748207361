-- One more object is frozen.
use Rattle.std.proofs.Common.{◌≡◌, ℕ, suc, ◌+◌, refl, arith}
use Rattle.actx_objects.specs.Objects.{ObjectStore, frozen_by}
use Rattle.actx_opening.specs.Opening.{frozen_to}

pub none_frozen : (s : ObjectStore) → s ≡ frozen_to 0 s
unfolding frozen_to
none_frozen s = refl

pub one_frozen : (n : ℕ) (s t : ObjectStore) → t ≡ frozen_to n s → frozen_by t (record { 0 = n }) ≡ frozen_to (n + 1) s
unfolding frozen_to
one_frozen n s t h = let e : n + 1 ≡ suc n = omega arith in rw (e, h) refl
