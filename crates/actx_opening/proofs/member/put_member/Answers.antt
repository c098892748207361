use Rattle.std.proofs.Common.{◌≡◌, ◌+◌, OnOk, true, subst}
use Rattle.actx_value.specs.declared.ids.TextId.{TextId}
use Rattle.actx_value.specs.declared.value.Value.{Value}
use Rattle.actx_value.specs.declared.value.Key.TheVariants.{Name}
use Rattle.actx_objects.specs.Writes.{written}
use Rattle.actx_opening.specs.Members.{with_member}
use Rattle.actx_opening.proofs.member.put_member.Goals as goal

pub returns : goal.returns
unfolding with_member
returns c =
    let named : TextId → Value → Type 0 = λ n v. OnOk c.put.result (c.put.new.objects ≡ written c.args.texts.now.texts c.args.objects.now c.args.member.0 (Name n) v true) in
    subst (λ (v : Value). named (record { 0 = c.args.first + c.args.member.1 }) v) (c.in_ok-value.ensures {u = tt})
    (subst (λ (n : TextId). named n c.in_ok-value.value) (c.in_ok-name.ensures {u = tt}) c.put.ensures)
