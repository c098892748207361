-- Laws of what is accepted and refused.
use Rattle.std.specs.Prelude.{◌≡◌, ℕ, List}
use Rattle.actx_cli.specs.declared.answer.Refusal.{Refusal}
use Rattle.actx_cli.specs.Accepted.{IsAccepted, IsRefused, Agree}

-- a file meets at most one refusal, at one place, but for what `Agree` says of Tree and Nested
abbrev pub HasOneRefusal : Type 0
HasOneRefusal = (bytes : List ℕ) (kind other : Refusal) (at place : ℕ) → IsRefused bytes kind at → IsRefused bytes other place → Agree bytes kind at other place

-- a file that is accepted meets no refusal
abbrev pub IsNotBoth : Type 0
IsNotBoth = (bytes text : List ℕ) (kind : Refusal) (at : ℕ) → IsAccepted bytes text → IsRefused bytes kind at → ⊥

-- an accepted file prints one text
abbrev pub HasOneText : Type 0
HasOneText = (bytes text other : List ℕ) → IsAccepted bytes text → IsAccepted bytes other → text ≡ other
