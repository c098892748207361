use Rattle.std.proofs.Common.{length, ◌≤◌}
use Rattle.actx_lex.specs.Numbers.{max_safe_integer}
use Rattle.actx_lex.proofs.Numbers.{Counts}
use Rattle.actx_lex.proofs.cursor.Cursor.digits.Given as goal

abbrev pub invariant-loop-digit : goal.invariant-loop-digit
invariant-loop-digit l = record { counts : Counts l.first l.self l.value l.left; small : l.value ≤ max_safe_integer }

abbrev pub decreases-loop-digit : goal.decreases-loop-digit
decreases-loop-digit l = length l.left
