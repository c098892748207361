use Rattle.std.proofs.Common.{ap, ◌∙◌, ◌++◌, drop, ◌+◌}
use Rattle.actx_objects.specs.Properties.{shown_keys}
use Rattle.actx_objects.proofs.ShownLemmas.{shown_next}
use Rattle.actx_objects.proofs.props.Props.shown_keys.Goals as goal

pub loop-i-preserved : goal.loop-i-preserved
loop-i-preserved c =
    ap (λ keys. keys ++ shown_keys (drop (c.loop-i.i + 1) c.args.self.now)) c.in_ok-push_shown-in-Some.ensures
    ∙ shown_next c.args.self.now c.loop-i.i (c.in-Some.k, c.in-Some.p) c.loop-i.keys.items c.in-Some.ensures
    ∙ c.loop-i.invariant
