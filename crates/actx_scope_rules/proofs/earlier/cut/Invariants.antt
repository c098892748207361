use Rattle.std.proofs.Common.{◌≡◌, ◌≤◌, length, take}
use Rattle.actx_scope_rules.proofs.earlier.cut.Given as goal

abbrev pub invariant-loop-names : goal.invariant-loop-names
invariant-loop-names l = record { enough : l.count ≤ length l.names; keeps : take l.count l.names ≡ take l.count l.fn.names }

abbrev pub decreases-loop-names : goal.decreases-loop-names
decreases-loop-names l = length l.names
