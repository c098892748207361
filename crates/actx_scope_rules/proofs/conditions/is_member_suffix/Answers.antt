use Rattle.std.proofs.Common.{refl}
use Rattle.actx_scope_rules.proofs.PartEquations as part
use Rattle.actx_scope_rules.proofs.conditions.is_member_suffix.Goals as goal

pub returns-in-Member : goal.returns-in-Member
returns-in-Member c = rw (c.in-Member.is, part.suffix_part-Member) refl

pub returns-in-Index : goal.returns-in-Index
returns-in-Index c = rw (c.in-Index.is, part.suffix_part-Index) refl

pub returns-in-Call : goal.returns-in-Call
returns-in-Call c = rw (c.in-Call.is, part.suffix_part-Call) refl
