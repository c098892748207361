-- What a call of the program comes to: its answer with the cause, what it prints and what it reports.
use Rattle.std.specs.Prelude.{◌≡◌, ℕ, ◌≤◌, ◌<◌, List, [], ◌∷◌, ◌++◌, length, ◌⊎◌}
use Rattle.std.specs.Io.KnownBytes.{Appends}
use Rattle.actx_outside.specs.Causes.{Rose}
use Rattle.actx_outside.specs.Files.{ShelfState, IsFetched}
use Rattle.actx_outside.specs.Streams.{SinkState}
use Rattle.actx_cli.specs.declared.answer.Answer.{Answer}
use Rattle.actx_cli.specs.declared.answer.Answer.TheVariants.{Finished, Usage, CannotRead, TooLong, Refused, WriteFault, Memory}
use Rattle.actx_cli.specs.Words.{Names, IsNoCommand}
use Rattle.actx_cli.specs.Accepted.{longest, IsAccepted, IsRefused}
use Rattle.actx_cli.specs.Answers.{status_of, line_of}
use Rattle.actx_cli.specs.Sinks.{AppendsFront}
use Rattle.actx_cli.specs.Calls.{Change, Call}

-- no name failed in the call
abbrev pub NoneFailed : Change ShelfState → Type 0
NoneFailed shelf = shelf.new.failed ≡ shelf.old.failed

-- the file that the words name was handed over: its contents, or its first 1,048,577 bytes where there are more
pub record IsHanded (words : List (List ℕ)) (shelf : Change ShelfState) (bytes : List ℕ) : Type 0 where
  pub file : List ℕ
  pub named : Names words file
  pub fetched : IsFetched shelf.old.files file longest bytes
  pub failed : NoneFailed shelf

-- where each answer comes, and the text that is due on standard output then
abbrev pub Comes : List (List ℕ) → Change ShelfState → Answer → List ℕ → Type 0
Comes words shelf Usage text = IsNoCommand words × NoneFailed shelf × (text ≡ [])
Comes words shelf CannotRead text = (file : List ℕ) × Names words file × (shelf.new.failed ≡ shelf.old.failed ++ file ∷ []) × (text ≡ [])
Comes words shelf TooLong text = (bytes : List ℕ) × IsHanded words shelf bytes × (longest < length bytes) × (text ≡ [])
Comes words shelf (Refused kind at) text = (bytes : List ℕ) × IsHanded words shelf bytes × (length bytes ≤ longest) × IsRefused bytes kind at × (text ≡ [])
Comes words shelf Finished text = (bytes : List ℕ) × IsHanded words shelf bytes × IsAccepted bytes text
Comes words shelf WriteFault text = (bytes : List ℕ) × IsHanded words shelf bytes × IsAccepted bytes text
Comes words shelf (Memory steps) text = (file : List ℕ) × Names words file × NoneFailed shelf × (steps ≡ 0) × (text ≡ [])

-- Standard output gained the text, or a front of it where a write failed.
abbrev pub Prints : Answer → List ℕ → Change SinkState → Type 0
Prints WriteFault text out = AppendsFront out.old.bytes out.new.bytes text × Rose out.old.faults out.new.faults
Prints answer text out = Appends out.old.bytes out.new.bytes text

-- The status is the answer's, and standard error gained its line; or a write to standard error failed, and the status says so.
abbrev pub Reports : Answer → Change SinkState → ℕ → Type 0
Reports answer err status = ((status ≡ status_of answer) × Appends err.old.bytes err.new.bytes (line_of answer)) ⊎ ((status ≡ 74) × AppendsFront err.old.bytes err.new.bytes (line_of answer) × Rose err.old.faults err.new.faults)

-- One call: its answer with its cause, what it printed, and what it reported.
pub record Ran (call : Call) : Type 0 where
  pub answer : Answer
  pub text : List ℕ
  pub comes : Comes call.words call.shelf answer text
  pub prints : Prints answer text call.out
  pub reports : Reports answer call.err call.status
