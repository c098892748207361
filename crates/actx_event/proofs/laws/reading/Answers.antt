use Rattle.actx_event.specs.Mappings.{carried}
use Rattle.actx_event.proofs.Agree.{agreement, value_agrees, exec_agrees, trigger_agrees}
use Rattle.actx_event.proofs.laws.reading.Goals as goal

pub returns : goal.returns
returns c = record {
  value = λ es v. value_agrees es (carried es) v (agreement es);
  execution = λ es. exec_agrees es (carried es) (agreement es);
  trigger = λ es. trigger_agrees es (carried es) (agreement es);
  declaration = λ es v. (agreement es).declarations v;
}
