use Rattle.std.proofs.Common.{◌≡◌, ◌≤◌, length}
use Rattle.actx_lex.specs.Readers.{hex_run}
use Rattle.actx_lex.proofs.cursor.Cursor.hex_run.Given as goal

abbrev pub invariant-loop-left : goal.invariant-loop-left
invariant-loop-left l = record { same : hex_run l.first l.fn.self ≡ hex_run l.value l.left; low : l.value ≤ 0x10FFFF }

abbrev pub decreases-loop-left : goal.decreases-loop-left
decreases-loop-left l = length l.left
