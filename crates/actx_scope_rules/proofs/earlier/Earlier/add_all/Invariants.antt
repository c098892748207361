use Rattle.std.proofs.Common.{◌≡◌, ◌++◌, drop}
use Rattle.actx_scope_rules.specs.Scopes.{slot_names}
use Rattle.actx_scope_rules.proofs.earlier.Earlier.add_all.Given as goal

abbrev pub invariant-loop-slot : goal.invariant-loop-slot
invariant-loop-slot l = l.self ++ slot_names (drop l.slot-index l.slots) ≡ l.fn.self ++ slot_names l.slots
