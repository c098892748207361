use Rattle.std.proofs.Common.{◌≡◌, drop}
use Rattle.actx_scalars.specs.Numbers.{extreme_of}
use Rattle.actx_scalars.proofs.ExtremeLemmas.{extreme_from}
use Rattle.actx_scalars.proofs.math.extreme_number.Given as goal

-- the values that are left and the best one so far give the answer
abbrev pub invariant-loop-v : goal.invariant-loop-v
invariant-loop-v l = extreme_from l.which l.texts.texts l.best (drop l.v-index l.args) ≡ extreme_of l.which l.texts.texts l.args
