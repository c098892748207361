use Rattle.actx_scope_rules.proofs.Firsts.{none_first}
use Rattle.actx_scope_rules.proofs.earlier.Earlier.new.Goals as goal

pub invariant_of-result : goal.invariant_of-result
invariant_of-result c = rw c.new.ensures (none_first c.new-2.result)
