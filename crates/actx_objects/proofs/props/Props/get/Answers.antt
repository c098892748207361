use Rattle.std.proofs.Common.{ap, ◌∙◌}
use Rattle.actx_objects.specs.Keys.{key_eq}
use Rattle.actx_objects.specs.Pairs.{at_key}
use Rattle.actx_objects.proofs.PairLemmas.{lookup_is}
use Rattle.actx_objects.proofs.SameLemmas.{same_key}
use Rattle.actx_objects.proofs.props.Props.get.Goals as goal

pub returns : goal.returns
returns c = c.copied.ensures ∙ c.get.ensures.value ∙ lookup_is key_eq _ same_key c.args.k c.self.inside.map.entries ∙ ap (at_key key_eq c.args.k) c.self.view_is
