use Rattle.std.proofs.Common.{refl}
use Rattle.actx_event.specs.Walk.{met_binding}
use Rattle.actx_event.specs.Numbers.{met_number, chain_at}
use Rattle.actx_event.proofs.laws.examples.Goals as goal

pub returns : goal.returns
unfolding met_binding met_number chain_at
returns c = record {
  brackets = (refl, refl);
  execution = (refl, refl);
  walk = (refl, refl, refl, refl);
  mappings = (refl, refl);
  off = (refl, refl);
  valid = (refl, refl, refl);
}
