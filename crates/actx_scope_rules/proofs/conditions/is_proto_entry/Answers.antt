use Rattle.std.proofs.Common.{refl}
use Rattle.actx_scope_rules.proofs.PartEquations as part
use Rattle.actx_scope_rules.proofs.conditions.is_proto_entry.Goals as goal

pub returns-in-Pair : goal.returns-in-Pair
returns-in-Pair c = rw (c.in-Pair.is, part.entry_part-Pair) c.is_proto_key.ensures

pub returns-in-Spread : goal.returns-in-Spread
returns-in-Spread c = rw (c.in-Spread.is, part.entry_part-Spread) refl

pub returns-in-Shorthand : goal.returns-in-Shorthand
returns-in-Shorthand c = rw (c.in-Shorthand.is, part.entry_part-Shorthand) refl

pub returns-in-Method : goal.returns-in-Method
returns-in-Method c = rw (c.in-Method.is, part.entry_part-Method) refl
