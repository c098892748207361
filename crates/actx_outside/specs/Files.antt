-- Files by name, as lists of bytes.
use Rattle.std.specs.Prelude.{◌≡◌, ℕ, ◌+◌, List, [], ◌∷◌, ◌++◌, take, map, Option, None, Some, Result, Ok, Err, ⊤, if◌then◌else◌, string_bytes}
use Rattle.std.specs.Str.{bytes_eq}
use Rattle.std.specs.declared.vec.Vec.{Vec}
use Rattle.std.specs.declared.string.String.{String}
use Rattle.std.specs.declared.alloc.Global.{Global}
use Rattle.actx_outside.specs.declared.shelf.ShelfError.{ShelfError}
use Rattle.actx_outside.specs.declared.shelf.ShelfError.TheVariants.{Failed, Memory}

-- the names and contents of a shelf's files, where it tells them, and the names that failed, the newest last
pub record ShelfState : Type 0 where
  pub files : Option (List (List ℕ × List ℕ))
  pub failed : List (List ℕ)

-- the contents of the first file of this name
abbrev pub contents_of : List (List ℕ × List ℕ) → List ℕ → Option (List ℕ)
contents_of [] name = None
contents_of (file ∷ files) name = if bytes_eq file.0 name then Some file.1 else contents_of files name

-- the contents of a file, or their first most + 1 bytes
abbrev pub IsFront : Option (List ℕ) → ℕ → List ℕ → Type 0
IsFront None most bytes = ⊥
IsFront (Some contents) most bytes = bytes ≡ take (most + 1) contents

-- what was fetched, for a shelf that tells its files
abbrev pub IsFetched : Option (List (List ℕ × List ℕ)) → List ℕ → ℕ → List ℕ → Type 0
IsFetched None name most bytes = ⊤
IsFetched (Some files) name most bytes = IsFront (contents_of files name) most bytes

-- the names that failed, after this error
abbrev pub failed_with : List (List ℕ) → List ℕ → ShelfError → List (List ℕ)
failed_with failed name Failed = failed ++ name ∷ []
failed_with failed name Memory = failed

-- the names that failed, after an answer
abbrev pub failed_after : {T : Type 0} → List (List ℕ) → List ℕ → Result T ShelfError → List (List ℕ)
failed_after failed name (Ok bytes) = failed
failed_after failed name (Err e) = failed_with failed name e

-- files as their names and contents
abbrev pub named : List (String Global × Vec ℕ Global) → List (List ℕ × List ℕ)
named files = map (λ file. (string_bytes file.0, file.1.items)) files
