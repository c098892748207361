use Rattle.std.proofs.Common.{◌∙◌}
use Rattle.actx_scope_rules.proofs.Units.{pointwise-same}
use Rattle.actx_scope_rules.proofs.words.is_same.Goals as goal

pub returns : goal.returns
returns c = let e = rw (c.as_units.ensures, c.as_units-2.ensures) at c.eq.ensures in e ∙ pointwise-same c.args.name.now c.args.other.now
