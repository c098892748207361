use Rattle.std.proofs.Common.{refl}
use Rattle.actx_scope_rules.proofs.PartEquations as part
use Rattle.actx_scope_rules.proofs.conditions.is_constructor_member.Goals as goal

pub returns-then-not-member : goal.returns-then-not-member
returns-then-not-member c = rw (part.member_part_of-fields, c.if-not-member.true, part.method_part-fields) c.is_constructor_key.ensures

pub returns-else-not-member : goal.returns-else-not-member
returns-else-not-member c = rw (part.member_part_of-fields, c.if-not-member.false) refl
