use Rattle.std.proofs.Common.{◌≡◌, length}
use Rattle.actx_lex.specs.Readers.{strip}
use Rattle.actx_lex.proofs.cursor.Cursor.strip.Given as goal

abbrev pub invariant-loop-sought : goal.invariant-loop-sought
invariant-loop-sought l = strip l.units l.fn.self ≡ strip l.sought l.left

abbrev pub decreases-loop-sought : goal.decreases-loop-sought
decreases-loop-sought l = length l.sought
