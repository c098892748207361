-- Command lines of two words, and bytes compared.
use Rattle.std.proofs.Common.{◌≡◌, ℕ, ◌<◌, ◌≤◌, true, List, [], ◌∷◌, length, get_or, eqb, refl, arith}
use Rattle.std.proofs.lemmas.Bool.Decides.{Decides-eqb}
use Rattle.std.proofs.lemmas.Slice.Eq.{slice_eq-Decides}
use Rattle.std.specs.Cmp.Lexicographic.{pointwise}
use Rattle.std.specs.declared.string.String.{String}
use Rattle.std.specs.declared.alloc.Global.{Global}

pub two_words : (words : List (String Global)) (a b : String Global) → 2 ≤ length words → length words < 3 → a ≡ get_or words 0 a → b ≡ get_or words 1 b → words ≡ a ∷ b ∷ []
two_words [] a b lo hi ea eb = absurd (omega arith)
two_words (x ∷ []) a b lo hi ea eb = absurd (omega arith)
two_words (x ∷ y ∷ []) a b lo hi ea eb = cc
two_words (x ∷ y ∷ z ∷ zs) a b lo hi ea eb = absurd (omega arith)

pub same_bytes : (xs ys : List ℕ) → true ≡ pointwise eqb xs ys → xs ≡ ys
same_bytes xs ys h = (slice_eq-Decides Decides-eqb xs ys true h).0 refl
