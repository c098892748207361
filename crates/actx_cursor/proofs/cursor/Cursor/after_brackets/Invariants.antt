use Rattle.std.proofs.Common.{◌≡◌, ◌≤◌, ◌+◌, length}
use Rattle.actx_grammar.specs.Tokens.{after_brackets}
use Rattle.actx_cursor.proofs.cursor.Cursor.after_brackets.Given as goal

abbrev pub invariant-loop-left : goal.invariant-loop-left
invariant-loop-left l = (l.count + length l.left ≤ length l.fn.self) × (after_brackets l.bracket l.fn.self 0 ≡ after_brackets l.bracket l.left l.count)

abbrev pub decreases-loop-left : goal.decreases-loop-left
decreases-loop-left l = length l.left
