use Rattle.std.proofs.Common.{Some, cond, ap, ◌∙◌}
use Rattle.actx_objects.specs.Keys.{value_eq}
use Rattle.actx_objects.specs.Pairs.{at_key}
use Rattle.actx_objects.proofs.PairLemmas.{update_is}
use Rattle.actx_objects.proofs.SameLemmas.{same_value}
use Rattle.actx_objects.proofs.slot.Places.insert.Goals as goal

pub returns-clause-ok : goal.returns-clause-ok
returns-clause-ok c = λ q.
    update_is value_eq _ same_value c.args.key (Some c.args.place) c.self.inside.map.entries _ c.in_ok-insert.ensures.updates.0 q
    ∙ ap (λ f. cond (value_eq c.args.key q) (Some c.args.place) (at_key value_eq q f)) c.self.view_is
