use Rattle.std.proofs.Common.{◌≡◌, false, drop}
use Rattle.actx_scope_rules.proofs.Lists.{ends}
use Rattle.actx_scope_rules.proofs.conditions.ends_in_member.Given as goal

abbrev pub invariant-loop-suffix : goal.invariant-loop-suffix
invariant-loop-suffix l = ends l.last (drop l.suffix-index l.suffixes) ≡ ends false l.suffixes
