use Rattle.actx_objects.specs.declared.refusal.SetError.TheVariants.{Frozen, Full}
use Rattle.actx_objects.specs.Writes.{refusal_of}
use Rattle.actx_request.proofs.WriteLemmas.{refusal_is}
use Rattle.actx_request.proofs.WriteOutcomes.{write_done, write_full, write_frozen}
use Rattle.actx_request.proofs.writes.write.Goals as goal

pub returns-in-Ok : goal.returns-in-Ok
returns-in-Ok c =
    rw c.go.ensures
    (write_done c.args.hidden c.args.o c.args.k c.args.v c.args.objects.now c.args.texts.now c.set.new.objects c.in-Ok.ensures.refused c.in-Ok.ensures.ok)

pub returns-in-Err-Frozen : goal.returns-in-Err-Frozen
returns-in-Err-Frozen c =
    write_frozen c.args.hidden c.args.o c.args.k c.args.v c.args.objects.now c.args.texts.now c.set.new.objects
    (refusal_is (Unit {0}) (refusal_of c.args.texts.now.texts c.args.objects.now c.args.o c.args.k c.args.v) Frozen (λ e. cc) (rw c.in-Err-Frozen.field-0-is at c.in-Err-Frozen.ensures.refused))
    c.in-Err-Frozen.ensures.err

pub returns-in-Err-Full : goal.returns-in-Err-Full
returns-in-Err-Full c =
    write_full c.args.hidden c.args.o c.args.k c.args.v c.args.objects.now c.args.texts.now c.set.new.objects
    (refusal_is (Unit {0}) (refusal_of c.args.texts.now.texts c.args.objects.now c.args.o c.args.k c.args.v) Full (λ e. cc) (rw c.in-Err-Full.field-0-is at c.in-Err-Full.ensures.refused))
