-- How long copies of a text are, and a text that is filled up.
use Rattle.std.proofs.Common.{◌≡◌, ℕ, zero, suc, ◌<◌, ◌≤◌, ◌+◌, ◌-◌, ◌*◌, List, ◌++◌, length, take, arith}
use Rattle.std.proofs.lemmas.List.{length-append, length-take-le}
use Rattle.std.specs.List.{repeat}
use Rattle.actx_scalars.specs.Padding.{filler, padded, padded_length}
use Rattle.actx_scalars.specs.Laws.{LengthsAreTold}
use Rattle.actx_scalars.specs.declared.padding.Side.{Side}
use Rattle.actx_scalars.specs.declared.padding.Side.TheVariants.{Start, End}
use Rattle.actx_scalars.proofs.CopyLemmas.{length-repeat, copies_suffice}

length-filler : (n : ℕ) (fill : List ℕ) → 0 < length fill → length (filler n fill) ≡ n
length-filler n fill filled = length-take-le n (repeat n fill) (copies_suffice n fill filled)

pub length-padded : (side : Side) (n : ℕ) (fill text : List ℕ) → 0 < length fill → length (padded side n fill text) ≡ padded_length n text
length-padded Start n fill text filled =
    omega (arith, length-append (filler (n - length text) fill) text, length-filler (n - length text) fill filled)
length-padded End n fill text filled =
    omega (arith, length-append text (filler (n - length text) fill), length-filler (n - length text) fill filled)

pub lengths_are_told : LengthsAreTold
lengths_are_told = (length-repeat, length-padded)
