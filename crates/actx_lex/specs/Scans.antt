-- What a function that reads one spelling ensures: that it reads the longest.
use Rattle.std.specs.Prelude.{◌≡◌, ◌<◌, ◌⊎◌, length, Option, Some, None, Result, Ok, Err}
use Rattle.actx_lex.specs.Units.{Text}

-- k and b are spelled at a, and whatever else is spelled there is shorter
pub record Found {K : Type 0} (R : K → Text → Text → Type 0) (a : Text) (k : K) (b : Text) : Type 0 where
  pub here : R k a b
  pub best : (j : K) (c : Text) → R j a c → (length b < length c) ⊎ ((j ≡ k) × (c ≡ b))

abbrev pub Finds : {K : Type 0} → (K → Text → Text → Type 0) → Text → Option K → Text → Type 0
Finds R a (Some k) b = Found R a k b
Finds R a None b = (j : _) (c : Text) → R j a c → ⊥

abbrev pub Scans : {K E : Type 0} → (K → Text → Text → Type 0) → Text → Result (Option K) E → Text → Type 0
Scans R a (Ok o) b = Finds R a o b
Scans R a (Err e) b = Unit {0}
