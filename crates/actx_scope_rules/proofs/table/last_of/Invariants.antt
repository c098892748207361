use Rattle.std.proofs.Common.{◌≡◌, drop}
use Rattle.actx_text.specs.declared.units.Units.{Units}
use Rattle.actx_scope_rules.specs.Scopes.{last_slot, or_else}
use Rattle.actx_scope_rules.specs.Tables.{at_name}
use Rattle.actx_scope_rules.proofs.table.last_of.Given as goal

abbrev pub invariant-loop-i : goal.invariant-loop-i
invariant-loop-i l = (name : Units) → or_else (last_slot name (drop l.i l.slots) l.i) (at_name l.last name) ≡ last_slot name l.slots 0
