-- One call of the program, from its phases.
use Rattle.std.proofs.Common.{ℕ, ◌≤◌, List, [], length, Result, Ok, Err, MatchResult, refl}
use Rattle.std.specs.List.{flat_map}
use Rattle.std.specs.declared.vec.Vec.{Vec}
use Rattle.std.specs.declared.alloc.Global.{Global}
use Rattle.actx_outside.specs.Files.{ShelfState, IsFetched}
use Rattle.actx_outside.specs.Streams.{SinkState}
use Rattle.actx_cli.specs.declared.answer.Answer.{Answer}
use Rattle.actx_cli.specs.declared.answer.Answer.TheVariants.{Finished, Usage, CannotRead, TooLong, Refused, WriteFault, Memory}
use Rattle.actx_cli.specs.Words.{Names}
use Rattle.actx_cli.specs.Calls.{Change, from_to}
use Rattle.actx_cli.specs.Accepted.{longest, IsAccepted}
use Rattle.actx_cli.specs.Runs.{NoneFailed, Prints, Comes}
use Rattle.actx_cli.specs.Phases.{SourceFails, ReadingFails, IsRefusal}
use Rattle.actx_cli.proofs.Gained.{appends_none}

-- the file was not handed over
pub unsourced : (words : List (List ℕ)) (shelf : Change ShelfState) (file : List ℕ) (answer : Answer) → Names words file → SourceFails shelf file answer → IsRefusal answer × Comes words shelf answer []
unsourced words shelf file CannotRead n h = (tt, (file, n, h, refl))
unsourced words shelf file TooLong n h = (tt, (h.0, record { file = file; named = n; fetched = h.1; failed = h.3 }, h.2, refl))
unsourced words shelf file (Memory steps) n h = (tt, (file, n, h.1, h.0, refl))
unsourced words shelf file Finished n h = absurd h
unsourced words shelf file Usage n h = absurd h
unsourced words shelf file (Refused kind at) n h = absurd h
unsourced words shelf file WriteFault n h = absurd h

-- the file was handed over, and its reading decides
pub prepared : (words : List (List ℕ)) (shelf : Change ShelfState) (file bytes : List ℕ) (r : Result (Vec (Vec ℕ Global) Global) Answer)
    → Names words file → IsFetched shelf.old.files file longest bytes → length bytes ≤ longest → NoneFailed shelf
    → MatchResult r (λ found. IsAccepted bytes (flat_map (λ piece. piece.items) found.items)) (λ e. ReadingFails bytes e)
    → MatchResult r (λ found. Comes words shelf Finished (flat_map (λ piece. piece.items) found.items)) (λ e. IsRefusal e × Comes words shelf e [])
prepared words shelf file bytes (Ok found) n f short same h = (bytes, record { file = file; named = n; fetched = f; failed = same }, h)
prepared words shelf file bytes (Err (Refused kind at)) n f short same h = (tt, (bytes, record { file = file; named = n; fetched = f; failed = same }, short, h, refl))
prepared words shelf file bytes (Err (Memory steps)) n f short same h = (tt, (file, n, same, h, refl))
prepared words shelf file bytes (Err Finished) n f short same h = absurd h
prepared words shelf file bytes (Err Usage) n f short same h = absurd h
prepared words shelf file bytes (Err CannotRead) n f short same h = absurd h
prepared words shelf file bytes (Err TooLong) n f short same h = absurd h
prepared words shelf file bytes (Err WriteFault) n f short same h = absurd h

-- a refusal writes nothing
pub refused : (words : List (List ℕ)) (shelf : Change ShelfState) (out : SinkState) (answer : Answer) → IsRefusal answer → Comes words shelf answer []
    → (text : List ℕ) × Comes words shelf answer text × Prints answer text (from_to out out)
refused words shelf out Finished i h = absurd i
refused words shelf out WriteFault i h = absurd i
refused words shelf out Usage i h = ([], h, appends_none out.bytes)
refused words shelf out CannotRead i h = ([], h, appends_none out.bytes)
refused words shelf out TooLong i h = ([], h, appends_none out.bytes)
refused words shelf out (Refused kind at) i h = ([], h, appends_none out.bytes)
refused words shelf out (Memory steps) i h = ([], h, appends_none out.bytes)
