-- Command lines: which lists of words ask for what.
use Rattle.std.specs.Prelude.{◌≡◌, ◌≢◌, ℕ, List, [], ◌∷◌, map, string_bytes, codes}
use Rattle.std.specs.declared.string.String.{String}
use Rattle.std.specs.declared.alloc.Global.{Global}

-- where the readings of the clock come from: the tape that the program was given
pub data Feed : Type 0 where
  Given : Feed

-- what a command line asks for
pub data Command : Type 0 where
  Run : (steps : ℕ) (feed : Feed) (file : List ℕ) → Command

-- how many moves a run may make where the command line doesn't say
abbrev pub standard_budget : ℕ
standard_budget = 50000000

-- a name isn't empty and doesn't begin with a dash
abbrev pub IsName : List ℕ → Type 0
IsName [] = ⊥
IsName (b ∷ bs) = b ≢ 45

abbrev pub run_word : List ℕ
run_word = codes "run"

-- run FILE
abbrev pub IsCommand : List (List ℕ) → Command → Type 0
IsCommand words (Run steps Given file) = IsName file × (words ≡ run_word ∷ file ∷ []) × (steps ≡ standard_budget)

-- words that ask for nothing
abbrev pub IsNoCommand : List (List ℕ) → Type 0
IsNoCommand words = (command : Command) → IsCommand words command → ⊥

-- the words name this file
abbrev pub Names : List (List ℕ) → List ℕ → Type 0
Names words file = (steps : ℕ) × (feed : Feed) × IsCommand words (Run steps feed file)

-- the words as their bytes
abbrev pub texts : List (String Global) → List (List ℕ)
texts words = map string_bytes words
