-- One call of the program, as it is seen from outside.
use Rattle.std.specs.Prelude.{ℕ, List}
use Rattle.actx_outside.specs.Files.{ShelfState}
use Rattle.actx_outside.specs.Streams.{SinkState}

-- what was there before the call, and after it
pub record Change (A : Type 0) : Type 0 where
  pub old : A
  pub new : A

-- its words, what it did to the shelf, to standard output and to standard error, and its status
pub record Call : Type 0 where
  pub words : List (List ℕ)
  pub shelf : Change ShelfState
  pub out : Change SinkState
  pub err : Change SinkState
  pub status : ℕ

abbrev pub from_to : {A : Type 0} → A → A → Change A
from_to old new = record { old = old; new = new }

-- the call of these words, with the shelf, standard output and standard error before and after it
abbrev pub call_of : List (List ℕ) → ShelfState → ShelfState → SinkState → SinkState → SinkState → SinkState → ℕ → Call
call_of words shelf shelf_after out out_after err err_after status = record {
  words = words;
  shelf = from_to shelf shelf_after;
  out = from_to out out_after;
  err = from_to err err_after;
  status = status;
}
