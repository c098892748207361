use Rattle.std.proofs.Common.{◌≡◌, ◌∙◌, false, sym}
use Rattle.actx_value.specs.declared.value.Value.TheVariants.{Undefined}
use Rattle.actx_objects.specs.declared.refusal.SetError.TheVariants.{Full}
use Rattle.actx_objects.specs.Kinds.{is_array}
use Rattle.actx_objects.specs.Objects.{kind_of}
use Rattle.actx_objects.specs.Writes.{refusal_of}
use Rattle.actx_request.proofs.WriteLemmas.{refusal_is}
use Rattle.actx_request.proofs.OpenLemmas.{is_opened, shut_full}
use Rattle.actx_request.proofs.pairs.open.Goals as goal

pub returns-in-Ok-clause-opened : goal.returns-in-Ok-clause-opened
returns-in-Ok-clause-opened c =
    let plain : is_array (kind_of c.args.objects.now c.args.o) ≡ false = sym c.is_array.ensures ∙ c.if-is_array.false in
    is_opened c.args.texts.now c.args.objects.now c.args.o c.args.k c.set.new.self plain c.in-Ok.ensures.refused c.in-Ok.ensures.ok

pub returns-in-Err-Full-clause-shut : goal.returns-in-Err-Full-clause-shut
returns-in-Err-Full-clause-shut c =
    let plain : is_array (kind_of c.args.objects.now c.args.o) ≡ false = sym c.is_array.ensures ∙ c.if-is_array.false in
    shut_full c.args.texts.now c.args.objects.now c.args.o c.args.k c.set.new.self plain
    (refusal_is (Unit {0}) (refusal_of c.args.texts.now.texts c.args.objects.now c.args.o c.args.k Undefined) Full (λ e. cc) (rw c.in-Err-Full.field-0-is at c.in-Err-Full.ensures.refused))
