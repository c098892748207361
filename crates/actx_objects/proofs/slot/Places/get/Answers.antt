use Rattle.std.proofs.Common.{ap, ◌∙◌}
use Rattle.actx_objects.specs.Keys.{value_eq}
use Rattle.actx_objects.specs.Pairs.{at_key}
use Rattle.actx_objects.proofs.PairLemmas.{lookup_is}
use Rattle.actx_objects.proofs.SameLemmas.{same_value}
use Rattle.actx_objects.proofs.slot.Places.get.Goals as goal

pub returns : goal.returns
returns c = c.copied.ensures ∙ c.get.ensures.value ∙ lookup_is value_eq _ same_value c.args.key c.self.inside.map.entries ∙ ap (at_key value_eq c.args.key) c.self.view_is
