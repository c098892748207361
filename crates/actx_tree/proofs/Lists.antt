-- The levels, the size and the bodies of a list that is made of two.
use Rattle.std.proofs.Common.{◌≡◌, ℕ, ◌+◌, max, List, [], ◌∷◌, ◌++◌, refl, sym, ap, ◌∙◌, append_assoc, arith}
use Rattle.actx_tree.specs.Levels.{highest}
use Rattle.actx_tree.specs.Sizes.{total}
use Rattle.actx_tree.specs.Bodies.{Found, all}

pub highest-append : (xs ys : List ℕ) → highest (xs ++ ys) ≡ max (highest xs) (highest ys)
highest-append [] ys = omega arith
highest-append (x ∷ xs) ys = omega (arith, highest-append xs ys)

pub total-append : (xs ys : List ℕ) → total (xs ++ ys) ≡ total xs + total ys
total-append [] ys = omega arith
total-append (x ∷ xs) ys = omega (arith, total-append xs ys)

pub all-append : (fs gs : List Found) (d : ℕ) → all (fs ++ gs) d ≡ all fs d ++ all gs d
all-append [] gs d = refl
all-append (f ∷ fs) gs d = ap (λ rest. f d ++ rest) (all-append fs gs d) ∙ sym (append_assoc (f d) (all fs d) (all gs d))
