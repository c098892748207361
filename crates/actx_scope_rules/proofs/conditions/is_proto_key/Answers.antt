use Rattle.std.proofs.Common.{refl}
use Rattle.actx_scope_rules.proofs.PartEquations as part
use Rattle.actx_scope_rules.proofs.conditions.is_proto_key.Goals as goal

pub returns-in-Word : goal.returns-in-Word
returns-in-Word c = rw (c.in-Word.is, part.key_part-Word) c.is_proto.ensures

pub returns-in-Text : goal.returns-in-Text
returns-in-Text c = rw (c.in-Text.is, part.key_part-Text) c.is_proto-in-Text.ensures

pub returns-in-Number : goal.returns-in-Number
returns-in-Number c = rw (c.in-Number.is, part.key_part-Number) refl

pub returns-in-Computed : goal.returns-in-Computed
returns-in-Computed c = rw (c.in-Computed.is, part.key_part-Computed) refl
