use Rattle.actx_scalars.proofs.PlaceLemmas.{places_are_first}
use Rattle.actx_scalars.proofs.laws.places_are_first.Goals as goal

pub returns : goal.returns
returns c = places_are_first
