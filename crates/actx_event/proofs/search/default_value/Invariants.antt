use Rattle.std.proofs.Common.{◌≡◌, None}
use Rattle.actx_event.specs.Numbers.{declaration_at}
use Rattle.actx_event.proofs.search.default_value.Given as goal

abbrev pub invariant-loop-n : goal.invariant-loop-n
invariant-loop-n l = declaration_at l.variable.0 l.log l.n ≡ None
