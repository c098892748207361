use Rattle.std.proofs.Common.{map, sym, ap, ◌∙◌}
use Rattle.std.proofs.lemmas.List.{take_all}
use Rattle.actx_code.specs.declared.pattern.Property.{Property}
use Rattle.actx_frame_steps.proofs.PatternLaws.{keys_are}
use Rattle.actx_frame_steps.proofs.patterns.keys.Goals as goal

pub returns : goal.returns
returns c =
    c.loop-property.invariant
    ∙ ap (map (λ (q : Property). q.key)) (take_all c.loop-property.property-index c.args.list.now c.loop-property-test.false)
    ∙ sym (keys_are c.args.list.now)
