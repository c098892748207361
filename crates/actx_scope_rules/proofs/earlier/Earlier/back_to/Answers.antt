use Rattle.actx_scope_rules.proofs.Firsts.{cut_first}
use Rattle.actx_scope_rules.proofs.earlier.Earlier.back_to.Goals as goal

pub invariant_of-self : goal.invariant_of-self
invariant_of-self c = cut_first c.self.inside.places c.self.inside.names c.cut.new.names c.args.count c.self.invariant c.cut.ensures
