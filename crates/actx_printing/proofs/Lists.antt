-- Lists of parts, of which one is of no value.
use Rattle.std.proofs.Common.{◌≡◌, ℕ, zero, suc, ◌<◌, List, [], ◌∷◌, length, get_or, map, Err, arith}
use Rattle.actx_printing.specs.declared.lit.FirstError.{FirstError}
use Rattle.actx_printing.specs.declared.lit.FirstError.TheVariants.{NotBuilt, Memory}
use Rattle.actx_printing.specs.Printing.{Makes}

not_among : {A B : Type 0} (of : B → A) (xs : List A) (i : ℕ) (x : A) → i < length xs → x ≡ get_or xs i x → ((b : B) → x ≡ of b → ⊥) → (bs : List B) → xs ≡ map of bs → ⊥
not_among of [] i x lt e none bs q = absurd (omega arith)
not_among of (y ∷ ys) i x lt e none [] q = absurd (cc)
not_among of (y ∷ ys) zero x lt e none (b ∷ bs) q = none b (cc)
not_among of (y ∷ ys) (suc i) x lt e none (b ∷ bs) q = not_among of ys i x (omega arith) e none bs (cc)

-- where a part is of no value, its list is of no values; and so for want of memory
pub fails_at : {A B V W : Type 0} (seen : V → B) (all_seen : W → List B) (of : B → A) (xs : List A) (i : ℕ) (x : A) (e : FirstError)
    → i < length xs → x ≡ get_or xs i x → Makes seen of x (Err e) → Makes all_seen (map of) xs (Err e)
fails_at seen all_seen of xs i x NotBuilt lt is none = not_among of xs i x lt is none
fails_at seen all_seen of xs i x Memory lt is none = tt
