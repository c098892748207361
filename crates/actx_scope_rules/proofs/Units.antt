-- What `==` says of two lists of units.
use Rattle.std.proofs.Common.{◌≡◌, refl, ap, Bool, true, false, ◌&&◌, [], ◌∷◌}
use Rattle.std.proofs.lemmas.Bool.{false≢true, eqb-true}
use lib.Dec.{eqb}
use lib.Pointwise.{pointwise}
use Rattle.actx_text.specs.declared.units.Units.{Units}
use Rattle.actx_scope_rules.specs.Words.{same_units}

pub pointwise-same : (a b : Units) → pointwise eqb a b ≡ same_units a b
unfolding same_units
pointwise-same [] [] = refl
pointwise-same [] (d ∷ b) = refl
pointwise-same (c ∷ a) [] = refl
pointwise-same (c ∷ a) (d ∷ b) = ap (λ (z : Bool). eqb c d && z) (pointwise-same a b)

-- ---- the same units are the same list

and_both : (a b : Bool) → (a && b) ≡ true → (a ≡ true) × (b ≡ true)
and_both true b e = (refl, e)
and_both false b e = absurd (false≢true e)

pub same_units-true : (a b : Units) → same_units a b ≡ true → a ≡ b
unfolding same_units
same_units-true [] [] e = refl
same_units-true [] (d ∷ b) e = absurd (false≢true e)
same_units-true (c ∷ a) [] e = absurd (false≢true e)
same_units-true (c ∷ a) (d ∷ b) e = let h = and_both (eqb c d) (same_units a b) e in let p : c ≡ d = eqb-true c d h.0 in let q : a ≡ b = same_units-true a b h.1 in (cc)
