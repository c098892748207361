use Rattle.std.proofs.Common.{◌≡◌, drop}
use Rattle.actx_scope_rules.proofs.Lists.{bad_key}
use Rattle.actx_scope_rules.proofs.conditions.has_bad_key.Given as goal

abbrev pub invariant-loop-entry : goal.invariant-loop-entry
invariant-loop-entry l = bad_key (drop l.entry-index l.entries) ≡ bad_key l.entries
