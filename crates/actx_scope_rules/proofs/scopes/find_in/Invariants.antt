use Rattle.std.proofs.Common.{◌≡◌, drop}
use Rattle.std.specs.Prelude.{reverse}
use Rattle.actx_scope_rules.specs.Scopes.{found_from}
use Rattle.actx_scope_rules.proofs.scopes.find_in.Given as goal

abbrev pub invariant-loop-hops : goal.invariant-loop-hops
invariant-loop-hops l = found_from l.name (drop l.hops (reverse l.tables)) l.hops ≡ found_from l.name (reverse l.tables) 0
