use Rattle.std.proofs.Common.{ap, ◌∙◌}
use Rattle.actx_objects.specs.Keys.{key_eq}
use Rattle.actx_objects.specs.Pairs.{with_key}
use Rattle.actx_objects.proofs.PairLemmas.{insert_is}
use Rattle.actx_objects.proofs.SameLemmas.{same_key}
use Rattle.actx_objects.proofs.props.Props.set.Goals as goal

pub returns-clause-ok : goal.returns-clause-ok
returns-clause-ok c = c.in_ok-insert.ensures.entries ∙ insert_is key_eq _ same_key c.args.k c.args.p c.self.inside.map.entries ∙ ap (with_key key_eq c.args.k c.args.p) c.self.view_is
