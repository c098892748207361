-- Answers in which no text is longer than some length.
use Rattle.std.specs.Prelude.{ℕ, length, nat_le, if◌then◌else◌}
use Rattle.actx_ops.specs.declared.out.OpOut.{OpOut}
use Rattle.actx_ops.specs.declared.out.OpOut.TheVariants.{Value as Gives, NewText, Throw, OutOfProfile}
use Rattle.actx_scalars.specs.declared.bounded.Bounded.{Bounded}
use Rattle.actx_scalars.specs.declared.bounded.Bounded.TheVariants.{Out, TooLong}

-- the answer, unless it is a new text with more units than this
abbrev pub within : ℕ → OpOut → Bounded
within most (Gives v) = Out (Gives v)
within most (NewText text) = if nat_le (length text) most then Out (NewText text) else TooLong
within most (Throw e) = Out (Throw e)
within most (OutOfProfile r) = Out (OutOfProfile r)
