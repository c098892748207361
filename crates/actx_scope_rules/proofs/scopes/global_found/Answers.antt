use Rattle.std.proofs.Common.{ap}
use Rattle.actx_scope_rules.specs.Scopes.{found_from, global_at}
use Rattle.actx_scope_rules.proofs.scopes.global_found.Goals as goal

pub returns-in-Some : goal.returns-in-Some
unfolding found_from
returns-in-Some c = ap (λ z. global_at z c.args.hops) c.in-Some.ensures

pub returns-in-None : goal.returns-in-None
unfolding found_from
returns-in-None c = ap (λ z. global_at z c.args.hops) c.in-None.ensures
