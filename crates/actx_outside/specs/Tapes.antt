-- Tapes: where the turns of the event loop come from.
use Rattle.std.specs.Prelude.{◌≡◌, ℕ, ◌≤◌, min, List, [], ◌∷◌, All, Option, None, Some, Result, Ok, Err, ⊤, IsErrOf}
use Rattle.actx_outside.specs.Causes.{Rose}
use Rattle.actx_outside.specs.declared.tape.Turn.{Turn}
use Rattle.actx_outside.specs.declared.tape.TapeStop.{TapeStop}
use Rattle.actx_outside.specs.declared.tape.TapeStop.TheVariants.{End, Memory}

-- a list of turns, or the virtual tape, whose clock jumps to the reading for which the loop waits
pub data Tape : Type 0 where
  Listed : (turns : List Turn) → Tape
  Virtual : Tape

-- the next turn, and the tape after it
abbrev pub next_turn : Tape → Option ℕ → Option (Turn × Tape)
next_turn (Listed []) until = None
next_turn (Listed (turn ∷ turns)) until = Some (turn, Listed turns)
next_turn Virtual None = None
next_turn Virtual (Some until) = Some (record { now = min until 9007199254740991; arrivals = [] }, Virtual)

-- the turns that are left, where a tape tells them, and its count of ends
pub record TapeState : Type 0 where
  pub left : Option Tape
  pub ends : ℕ

-- what a tape that tells itself answers, and that it goes on telling
abbrev pub Tells : Option Tape → Option ℕ → Result Turn TapeStop → Option Tape → Type 0
Tells None until result new = ⊤
Tells (Some tape) until (Ok turn) new = (rest : Tape) × (next_turn tape until ≡ Some (turn, rest)) × (new ≡ Some rest)
Tells (Some tape) until (Err End) new = (next_turn tape until ≡ None) × (new ≡ Some tape)
Tells (Some tape) until (Err Memory) new = new ≡ Some tape

-- numbers that a program can hold
pub record IsTurn (turn : Turn) : Type 0 where
  pub now : turn.now ≤ 9007199254740991
  pub arrivals : All (λ operation. (1 ≤ operation) × (operation ≤ 9007199254740991)) turn.arrivals

-- the count of ends doesn't fall, and the end comes only where it rose
pub record HasEnd (before now : ℕ) (result : Result Turn TapeStop) : Type 0 where
  pub later : before ≤ now
  pub ended : IsErrOf result End → Rose before now
