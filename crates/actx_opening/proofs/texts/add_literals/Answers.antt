use Rattle.std.proofs.Common.{◌∙◌, ap}
use Rattle.std.specs.List.{fold}
use Rattle.actx_value.specs.Texts.{TextStore}
use Rattle.actx_opening.specs.Texts.{added}
use Rattle.actx_opening.proofs.Literals.{literal_added, all_added, stored}
use Rattle.actx_opening.proofs.texts.add_literals.Goals as goal

pub loop-text-preserved : goal.loop-text-preserved
loop-text-preserved c = (
  literal_added c.args.code.now.literals c.loop-text.texts c.add.new.texts c.loop-text.i c.in_ok-i.i c.in-Some.text.now c.in_ok-copy.field-0 (c.in-Some.ensures {u = tt}) (c.in_ok-copy.ensures {u = tt}) c.in_ok-add.ensures.ok (c.in_ok-i.ensures {u = tt})
      ∙ c.loop-text.invariant.0,
  ap (λ (t : TextStore). t.limit) c.in_ok-add.ensures.ok ∙ c.loop-text.invariant.1,
)

pub returns : goal.returns
returns c =
    stored c.loop-text.texts (fold added c.args.texts.now.texts c.args.code.now.literals) c.args.texts.now.limit
    (all_added c.args.code.now.literals c.loop-text.texts c.loop-text.i (fold added c.args.texts.now.texts c.args.code.now.literals) (c.in_default.ensures {u = tt}) c.loop-text.invariant.0)
    c.loop-text.invariant.1
