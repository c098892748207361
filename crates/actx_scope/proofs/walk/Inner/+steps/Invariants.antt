-- What the loop keeps: what is left, behind the names so far, gives the whole.
use Rattle.std.proofs.Common.{map, drop}
use Rattle.actx_scope_rules.specs.declared.place.Role.TheVariants as roles
use Rattle.actx_scope.specs.Holds.{inside_of}
use Rattle.actx_scope_rules.specs.Scopes.{slot_names}
use Rattle.actx_scope_rules.specs.Statements as statements
use Rattle.actx_scope.proofs.Adds.{OwesBound}
use Rattle.actx_scope.proofs.walk.Inner.+steps.Given as goal

abbrev pub invariant-of_items-loop-item : goal.invariant-of_items-loop-item
invariant-of_items-loop-item g l = OwesBound (inside_of l.self.bodies) (statements.in_order (map statements.statement l.items)) (statements.in_order (map statements.statement (drop l.item-index l.items))) (slot_names (statements.all_slots (map statements.statement l.items))) (slot_names (statements.all_slots (map statements.statement (drop l.item-index l.items)))) roles.Evaluated l.place l.fn.walk l.walk
