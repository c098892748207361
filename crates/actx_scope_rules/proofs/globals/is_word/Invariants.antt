use Rattle.std.proofs.Common.{◌≡◌, length}
use Rattle.actx_scope_rules.specs.Words.{same_units}
use Rattle.actx_scope_rules.proofs.globals.is_word.Given as goal

abbrev pub invariant-loop-left : goal.invariant-loop-left
invariant-loop-left l = same_units l.name l.word ≡ same_units l.left l.sought

abbrev pub decreases-loop-left : goal.decreases-loop-left
decreases-loop-left l = length l.left
