use Rattle.std.proofs.Common.{◌∙◌, sym}
use Rattle.actx_request.proofs.CopyOutcomes.{units_done, units_stopped}
use Rattle.actx_request.proofs.copies.copy_units.Goals as goal

pub returns-in-None : goal.returns-in-None
returns-in-None c =
    rw c.go-in-None.ensures
    (units_done c.args.o c.args.objects.now c.open.new.objects c.args.texts.now c.in-Some.k (rw c.in_default-2.is at c.in_ok-refused.ensures.opened) c.args.units.now c.put_units.new.objects c.put_units.new.texts
    (sym c.first_index.ensures ∙ c.in-Some.is)
    (sym c.in-None.is ∙ c.in_ok-put_units.ensures.above)
    (rw c.in-None.is at c.in_ok-put_units.ensures.objects)
    (rw c.in-None.is at c.in_ok-put_units.ensures.texts))

pub returns-in-Some-3 : goal.returns-in-Some-3
returns-in-Some-3 c =
    units_stopped c.args.o c.args.objects.now c.open.new.objects c.args.texts.now c.in-Some.k (rw c.in_default-2.is at c.in_ok-refused.ensures.opened) c.args.units.now c.put_units.new.objects c.put_units.new.texts c.in-Some-3.which
    (sym c.first_index.ensures ∙ c.in-Some.is)
    (sym c.in-Some-3.is ∙ c.in_ok-put_units.ensures.above)
