use Rattle.std.proofs.Common.{◌≡◌, false, Some, sym, ◌∙◌}
use Rattle.actx_value.specs.Texts.{text_at}
use Rattle.actx_value.specs.declared.value.Key.TheVariants.{Name}
use Rattle.actx_request.specs.Outcomes.{stores}
use Rattle.actx_request.specs.Members.{same_key, unit_at}
use Rattle.actx_request.proofs.members.member_of_text.Goals as goal

pub returns-in_ok-new_text-in-Some : goal.returns-in_ok-new_text-in-Some
returns-in_ok-new_text-in-Some c cells =
    let s = stores c.args.objects.now c.args.texts.now cells in
    let texts = c.args.texts.now.texts in
    let other : same_key texts c.args.k (Name c.args.home.now.length) ≡ false = sym c.same_key.ensures ∙ c.if-same_key.false in
    let unit : unit_at (text_at texts c.args.t.0) c.args.k ≡ Some c.in-Some.unit = sym c.unit_at.ensures ∙ c.in-Some.is in
    rw (other, unit) (rw c.in_ok-text-in-Some.ensures at (c.in_ok-new_text-in-Some.ensures c.args.objects.now cells))
