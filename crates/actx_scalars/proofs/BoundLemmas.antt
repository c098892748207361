-- New texts that are within a length, and those that are not.
use Rattle.std.proofs.Common.{◌≡◌, ℕ, ◌<◌, ◌≤◌, Bool, true, false, cond, nat_le, List, length, sym, ap, refl, arith}
use Rattle.std.proofs.lemmas.Bool.{leb-true, le-leb}
use Rattle.actx_ops.specs.declared.out.OpOut.TheVariants.{NewText}
use Rattle.actx_scalars.specs.Bounds.{within}
use Rattle.actx_scalars.specs.declared.bounded.Bounded.{Bounded}
use Rattle.actx_scalars.specs.declared.bounded.Bounded.TheVariants.{Out, TooLong}

pub fits : (text : List ℕ) (most : ℕ) → length text ≤ most → Out (NewText text) ≡ within most (NewText text)
fits text most room = sym (ap (λ b. cond b (Out (NewText text)) TooLong) (le-leb (length text) most room))

pub too_long : (text : List ℕ) (most : ℕ) → most < length text → TooLong ≡ within most (NewText text)
too_long text most over = by (nat_le (length text) most) refl
  where
    by : (b : Bool) → nat_le (length text) most ≡ b → TooLong ≡ within most (NewText text)
    by true h = absurd (omega (arith, leb-true (length text) most h))
    by false h = sym (ap (λ b. cond b (Out (NewText text)) TooLong) h)
