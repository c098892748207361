-- Streams of bytes.
use Rattle.std.specs.Prelude.{ℕ, ◌≤◌, List, Option, Result, OnErr}
use Rattle.actx_outside.specs.Causes.{Rose}

-- the bytes that a stream took, where it tells them, and its count of faults
pub record SinkState : Type 0 where
  pub bytes : Option (List ℕ)
  pub faults : ℕ

-- the count of faults doesn't fall, and a fault comes only where it rose
pub record HasCause {T E : Type 0} (before now : ℕ) (result : Result T E) : Type 0 where
  pub later : before ≤ now
  pub failed : OnErr result (Rose before now)
