-- What each phase of a call says of its refusals.
use Rattle.std.specs.Prelude.{◌≡◌, ℕ, ◌<◌, List, ◌∷◌, [], ◌++◌, length}
use Rattle.actx_outside.specs.Files.{ShelfState, IsFetched}
use Rattle.actx_cli.specs.declared.answer.Answer.{Answer}
use Rattle.actx_cli.specs.declared.answer.Answer.TheVariants.{Finished, CannotRead, TooLong, Refused, WriteFault, Memory}
use Rattle.actx_cli.specs.Calls.{Change}
use Rattle.actx_tree.specs.declared.tree.Tree.{Tree}
use Rattle.actx_printing.specs.declared.lit.Lit.{Lit}
use Rattle.actx_printing.specs.Printing.{Prints}
use Rattle.actx_cli.specs.Accepted.{longest, IsSound, IsRefused}
use Rattle.actx_cli.specs.Runs.{NoneFailed}

-- why there are no bytes of this file
abbrev pub SourceFails : Change ShelfState → List ℕ → Answer → Type 0
SourceFails shelf file CannotRead = shelf.new.failed ≡ shelf.old.failed ++ file ∷ []
SourceFails shelf file TooLong = (bytes : List ℕ) × IsFetched shelf.old.files file longest bytes × (longest < length bytes) × NoneFailed shelf
SourceFails shelf file (Memory steps) = (steps ≡ 0) × NoneFailed shelf
SourceFails shelf file answer = ⊥

-- the bytes are those of a tree without early errors, with the printing statements of these literals
pub record IsPrinting (bytes : List ℕ) (literals : List (List Lit)) : Type 0 where
  pub tree : Tree
  pub is_sound : IsSound bytes tree
  pub prints : Prints tree literals

-- why these bytes print nothing
abbrev pub ReadingFails : List ℕ → Answer → Type 0
ReadingFails bytes (Refused kind at) = IsRefused bytes kind at
ReadingFails bytes (Memory steps) = steps ≡ 0
ReadingFails bytes answer = ⊥

-- an answer under which nothing is due on standard output
abbrev pub IsRefusal : Answer → Type 0
IsRefusal Finished = ⊥
IsRefusal WriteFault = ⊥
IsRefusal answer = Unit {0}
