use Rattle.std.proofs.Common.{sym}
use Rattle.actx_scope_rules.proofs.Firsts.{has_some, has_none}
use Rattle.actx_scope_rules.proofs.earlier.has_name.Goals as goal

pub returns-in-Some : goal.returns-in-Some
returns-in-Some c = has_some c.args.places.now c.args.names.now c.args.name.now c.in-Some.place.now _ c.requires (sym (rw c.as_units.ensures at c.in-Some.ensures.value)) c.is_at.ensures

pub returns-in-None : goal.returns-in-None
returns-in-None c = has_none c.args.places.now c.args.names.now c.args.name.now c.requires (sym (rw c.as_units.ensures at c.in-None.ensures.value))
