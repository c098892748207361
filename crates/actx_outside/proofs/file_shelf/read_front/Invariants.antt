use Rattle.std.proofs.Common.{◌≤◌, ◌-◌, length}
use Rattle.actx_outside.proofs.file_shelf.read_front.Given as goal

abbrev pub invariant-loop-block : goal.invariant-loop-block
invariant-loop-block g l = length l.bytes.items ≤ l.limit

abbrev pub decreases-loop-block : goal.decreases-loop-block
decreases-loop-block g l = l.limit - length l.bytes.items
