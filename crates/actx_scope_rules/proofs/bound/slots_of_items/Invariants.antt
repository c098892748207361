use Rattle.std.proofs.Common.{◌≡◌, ◌++◌, map, drop}
use Rattle.actx_scope_rules.specs.Statements.{all_slots, statement}
use Rattle.actx_scope_rules.proofs.bound.slots_of_items.Given as goal

abbrev pub invariant-loop-item : goal.invariant-loop-item
invariant-loop-item l = l.slots ++ all_slots (map statement (drop l.item-index l.items)) ≡ all_slots (map statement l.items)
