-- When each status comes. "Only" says what holds wherever it comes, "Always" where it has to come.
use Rattle.std.specs.Prelude.{◌≡◌, ℕ, ◌≤◌, ◌<◌, List, [], ◌∷◌, ◌++◌, length, Some, ◌⊎◌}
use Rattle.std.specs.Io.KnownBytes.{Appends}
use Rattle.actx_outside.specs.Causes.{Rose}
use Rattle.actx_outside.specs.Files.{ShelfState, contents_of}
use Rattle.actx_outside.specs.Streams.{SinkState}
use Rattle.actx_cli.specs.declared.answer.Answer.{Answer}
use Rattle.actx_cli.specs.declared.answer.Answer.TheVariants.{Usage, CannotRead, TooLong, Refused, Memory}
use Rattle.actx_cli.specs.declared.answer.Refusal.{Refusal}
use Rattle.actx_cli.specs.Words.{Names, IsNoCommand}
use Rattle.actx_cli.specs.Answers.{line_of}
use Rattle.actx_cli.specs.Calls.{Change, Call}
use Rattle.actx_cli.specs.Accepted.{longest, IsAccepted, IsRefused, Agree}
use Rattle.actx_cli.specs.Runs.{NoneFailed, IsHanded}

-- a stream gained these bytes and no others
abbrev pub Gained : Change SinkState → List ℕ → Type 0
Gained sink bytes = Appends sink.old.bytes sink.new.bytes bytes

-- nothing was printed, and standard error gained the line of this answer
abbrev pub SaysOnly : Call → Answer → Type 0
SaysOnly call answer = Gained call.out [] × Gained call.err (line_of answer)

-- a write failed in this call
abbrev pub Faulted : Change SinkState → Type 0
Faulted sink = Rose sink.old.faults sink.new.faults

-- the shelf tells that the file which the words name holds this, and no name failed
pub record IsTold (words : List (List ℕ)) (shelf : Change ShelfState) (contents : List ℕ) : Type 0 where
  pub file : List ℕ
  pub files : List (List ℕ × List ℕ)
  pub named : Names words file
  pub told : shelf.old.files ≡ Some files
  pub held : contents_of files file ≡ Some contents
  pub failed : NoneFailed shelf

-- 0: the named file was handed over, it is accepted, and its text and nothing else was printed
abbrev pub FinishedOnly : Call → Type 0
FinishedOnly call = call.status ≡ 0 → (bytes : List ℕ) × (text : List ℕ) × IsHanded call.words call.shelf bytes × IsAccepted bytes text × Gained call.out text × Gained call.err []

-- 64: the words are no command line
abbrev pub UsageOnly : Call → Type 0
UsageOnly call = call.status ≡ 64 → IsNoCommand call.words × NoneFailed call.shelf × SaysOnly call Usage

abbrev pub UsageAlways : Call → Type 0
UsageAlways call = IsNoCommand call.words → (call.status ≡ 64) ⊎ Faulted call.err

-- 65: the file that was handed over is refused, for the reason and at the place that the line says
abbrev pub RefusedOnly : Call → Type 0
RefusedOnly call = call.status ≡ 65 → (bytes : List ℕ) × (kind : Refusal) × (at : ℕ) × IsHanded call.words call.shelf bytes × (length bytes ≤ longest) × IsRefused bytes kind at × SaysOnly call (Refused kind at)

-- these contents are refused, and the line says so of a kind and place that agree with these
pub record SaysRefused (call : Call) (contents : List ℕ) (kind : Refusal) (at : ℕ) : Type 0 where
  pub own : Refusal
  pub place : ℕ
  pub refused : IsRefused contents own place
  pub agrees : Agree contents own place kind at
  pub said : SaysOnly call (Refused own place)

abbrev pub RefusedAlways : Call → Type 0
RefusedAlways call = (contents : List ℕ) (kind : Refusal) (at : ℕ) → IsTold call.words call.shelf contents → length contents ≤ longest → IsRefused contents kind at → ((call.status ≡ 65) × SaysRefused call contents kind at) ⊎ (call.status ≡ 75) ⊎ Faulted call.err

-- 66: the shelf's list of failed names gained the name in the words, or the file is too long
abbrev pub IsUnread : Call → Type 0
IsUnread call = (file : List ℕ) × Names call.words file × (call.shelf.new.failed ≡ call.shelf.old.failed ++ file ∷ []) × SaysOnly call CannotRead

abbrev pub IsTooLong : Call → Type 0
IsTooLong call = (bytes : List ℕ) × IsHanded call.words call.shelf bytes × (longest < length bytes) × SaysOnly call TooLong

abbrev pub NoFileOnly : Call → Type 0
NoFileOnly call = call.status ≡ 66 → IsUnread call ⊎ IsTooLong call

abbrev pub TooLongAlways : Call → Type 0
TooLongAlways call = (contents : List ℕ) → IsTold call.words call.shelf contents → longest < length contents → (call.status ≡ 66) ⊎ (call.status ≡ 75) ⊎ Faulted call.err

-- 74: a write failed
abbrev pub WriteFaultOnly : Call → Type 0
WriteFaultOnly call = call.status ≡ 74 → Faulted call.out ⊎ Faulted call.err

-- 75: memory ran out, before anything was printed
abbrev pub MemoryOnly : Call → Type 0
MemoryOnly call = call.status ≡ 75 → NoneFailed call.shelf × SaysOnly call (Memory 0)

-- there is no other status
abbrev pub OneOfSix : Call → Type 0
OneOfSix call = (call.status ≡ 0) ⊎ (call.status ≡ 64) ⊎ (call.status ≡ 65) ⊎ (call.status ≡ 66) ⊎ (call.status ≡ 74) ⊎ (call.status ≡ 75)

-- where nothing outside stands in the way, the text of an accepted file is printed whole, unless memory runs out before anything is
abbrev pub Completes : Call → Type 0
Completes call = (contents text : List ℕ) → IsTold call.words call.shelf contents → IsAccepted contents text → (Faulted call.out → ⊥) → (Faulted call.err → ⊥)
    → ((call.status ≡ 0) × Gained call.out text) ⊎ ((call.status ≡ 75) × Gained call.out [])
