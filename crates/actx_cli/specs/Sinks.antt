-- What a sink gains.
use Rattle.std.specs.Prelude.{ℕ, ◌≤◌, List, length, take, Option, Result, OnOk, OnErr}
use Rattle.std.specs.Io.KnownBytes.{Appends}
use Rattle.actx_outside.specs.Causes.{Rose}
use Rattle.actx_outside.specs.Streams.{SinkState}

-- bytes that are told grew by a front of these
abbrev pub AppendsFront : Option (List ℕ) → Option (List ℕ) → List ℕ → Type 0
AppendsFront old new bytes = (n : ℕ) × (n ≤ length bytes) × Appends old new (take n bytes)

-- The sink gained all of the bytes, or at a fault a front of them. Its count of faults rose at a fault, and never fell.
pub record Puts {T E : Type 0} (old new : SinkState) (bytes : List ℕ) (result : Result T E) : Type 0 where
  pub all : OnOk result (Appends old.bytes new.bytes bytes)
  pub front : OnErr result (AppendsFront old.bytes new.bytes bytes)
  pub fault : OnErr result (Rose old.faults new.faults)
  pub later : old.faults ≤ new.faults
