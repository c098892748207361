use Rattle.std.proofs.Common.{◌≡◌, OnOk, subst}
use Rattle.actx_objects.specs.Objects.{ObjectStore}
use Rattle.actx_opening.proofs.Tables.{filled_are}
use Rattle.actx_opening.proofs.store.fill.Goals as goal

pub returns : goal.returns
returns c =
    subst (λ (z : ObjectStore). OnOk c.put_all-2.result (c.put_all-2.new.objects ≡ z))
    (filled_are c.args.texts.now.texts c.args.first c.args.objects.now c.make_all.new.objects c.give_protos.new.objects c.put_all.new.objects (c.in_ok-make_all.ensures {u = tt}) c.give_protos.ensures (c.in_ok-put_all.ensures {u = tt}))
    c.put_all-2.ensures
