use Rattle.std.proofs.Common.{ap, ◌∙◌}
use Rattle.actx_objects.specs.Keys.{key_eq}
use Rattle.actx_objects.specs.Pairs.{without_key}
use Rattle.actx_objects.proofs.PairLemmas.{remove_is}
use Rattle.actx_objects.proofs.SameLemmas.{same_key}
use Rattle.actx_objects.proofs.props.Props.delete.Goals as goal

pub returns : goal.returns
returns c = c.shift_remove.ensures.entries ∙ remove_is key_eq _ same_key c.args.k c.self.inside.map.entries ∙ ap (without_key key_eq c.args.k) c.self.view_is
