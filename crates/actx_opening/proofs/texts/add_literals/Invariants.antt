use Rattle.std.proofs.Common.{◌≡◌, ◌-◌, drop, length}
use Rattle.std.specs.List.{fold}
use Rattle.actx_opening.specs.Texts.{added}
use Rattle.actx_opening.proofs.texts.add_literals.Given as goal

abbrev pub invariant-loop-text : goal.invariant-loop-text
invariant-loop-text l = (fold added l.texts.texts (drop l.i l.code.literals) ≡ fold added l.fn.texts.texts l.code.literals) × (l.texts.limit ≡ l.fn.texts.limit)

abbrev pub decreases-loop-text : goal.decreases-loop-text
decreases-loop-text l = length l.code.literals - l.i
