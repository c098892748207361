use Rattle.std.proofs.Common.{◌≡◌, None}
use Rattle.actx_event.specs.Event.{number_made}
use Rattle.actx_event.specs.Numbers.{first_made}
use Rattle.actx_event.proofs.search.first_made.Given as goal

abbrev pub invariant-loop-n : goal.invariant-loop-n
invariant-loop-n l = first_made (number_made l.what) l.number l.log l.n ≡ None
