use Rattle.std.proofs.Common.{None, cond, ap, ◌∙◌}
use Rattle.actx_objects.specs.Keys.{value_eq}
use Rattle.actx_objects.specs.Pairs.{at_key}
use Rattle.actx_objects.proofs.PairLemmas.{update_is}
use Rattle.actx_objects.proofs.SameLemmas.{same_value}
use Rattle.actx_objects.proofs.slot.Places.remove.Goals as goal

pub returns : goal.returns
returns c = λ q.
    update_is value_eq _ same_value c.args.key None c.self.inside.map.entries _ c.swap_remove.ensures.updates.0 q
    ∙ ap (λ f. cond (value_eq c.args.key q) None (at_key value_eq q f)) c.self.view_is
