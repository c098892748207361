-- Lists of keys with what stands at each, in order of creation, where `eq` says whether two keys are one.
use Rattle.std.specs.Prelude.{Bool, List, [], ◌∷◌, Option, Some, None, if◌then◌else◌}

module _ {K X : Type 0} (eq : K → K → Bool) (k : K) where
  -- what stands at the key
  abbrev pub at_key : List (K × X) → Option X
  at_key [] = None
  at_key (e ∷ es) = if eq k e.0 then Some e.1 else at_key es

  -- the list with x at the key: a key that is there keeps its place, and a new one goes last
  abbrev pub with_key : X → List (K × X) → List (K × X)
  with_key x [] = (k, x) ∷ []
  with_key x (e ∷ es) = if eq k e.0 then (e.0, x) ∷ es else e ∷ with_key x es

  -- the list without the key
  abbrev pub without_key : List (K × X) → List (K × X)
  without_key [] = []
  without_key (e ∷ es) = if eq k e.0 then es else e ∷ without_key es
