use Rattle.actx_event.proofs.Compact.{stands_after, stands_value, stands_exec, stands_trigger, newest_same}
use Rattle.actx_event.proofs.laws.standing.Goals as goal

pub returns : goal.returns
returns c = record {
  kept = stands_after;
  same = λ d c h. (λ v. stands_value d c v h, stands_exec d c h, stands_trigger d c h);
  newest = newest_same;
}
