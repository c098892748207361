-- The greatest or the least of the numbers that are left and of the best one so far.
use Rattle.std.proofs.Common.{◌≡◌, ℕ, ℤ, List, [], ◌∷◌, Option, Some, None, option_map, option_and_then, refl, ap, ◌∙◌}
use Rattle.std.specs.List.{fold, reduce}
use Rattle.actx_value.specs.declared.value.Value.{Value}
use Rattle.actx_value.specs.declared.end.Reason.TheVariants.{Conversion}
use Rattle.actx_ops.specs.declared.out.OpOut.{OpOut}
use Rattle.actx_ops.specs.declared.out.OpOut.TheVariants.{OutOfProfile}
use Rattle.actx_ops.specs.Numbers.{safe}
use Rattle.actx_ops.specs.Conversions.{number_of_value}
use Rattle.actx_ops.specs.Operators.{number_out}
use Rattle.actx_scalars.specs.Arguments.{converted}
use Rattle.actx_scalars.specs.Numbers.{chosen, with_first, numbers_in}
use Rattle.actx_scalars.specs.declared.math.Extreme.{Extreme}

-- the best of these numbers and of one that was met before
abbrev pub best_of : Extreme → Option ℤ → List ℤ → Option ℤ
best_of which None ns = reduce (chosen which) ns
best_of which (Some b) ns = Some (fold (chosen which) b ns)

-- the best one with one number more
abbrev pub best_with : Extreme → Option ℤ → ℤ → ℤ
best_with which None n = n
best_with which (Some b) n = chosen which b n

abbrev pub extreme_from : Extreme → List (List ℕ) → Option ℤ → List Value → OpOut
extreme_from which texts best rest =
    converted (numbers_in texts rest) (λ ns. number_out (option_and_then safe (best_of which best ns)))

pub extreme_more : (which : Extreme) (texts : List (List ℕ)) (best : Option ℤ) (v : Value) (vs : List Value) (n : ℤ) → number_of_value texts v ≡ Some n
    → extreme_from which texts best (v ∷ vs) ≡ extreme_from which texts (Some (best_with which best n)) vs
extreme_more which texts best v vs n e =
    ap (λ o. converted (with_first o (numbers_in texts vs)) (λ ns. number_out (option_and_then safe (best_of which best ns)))) e ∙ by best (numbers_in texts vs)
  where
    by : (best : Option ℤ) (o : Option (List ℤ))
        → converted (option_map (λ rest. n ∷ rest) o) (λ ns. number_out (option_and_then safe (best_of which best ns)))
        ≡ converted o (λ ns. number_out (option_and_then safe (best_of which (Some (best_with which best n)) ns)))
    by best None = refl
    by None (Some ns) = refl
    by (Some b) (Some ns) = refl

pub extreme_stops : (which : Extreme) (texts : List (List ℕ)) (best : Option ℤ) (v : Value) (vs : List Value) → number_of_value texts v ≡ None
    → extreme_from which texts best (v ∷ vs) ≡ OutOfProfile Conversion
extreme_stops which texts best v vs e =
    ap (λ o. converted (with_first o (numbers_in texts vs)) (λ ns. number_out (option_and_then safe (best_of which best ns)))) e
