use Rattle.std.proofs.Common.{sym}
use Rattle.actx_request.proofs.WriteOutcomes.{delete_done}
use Rattle.actx_request.proofs.writes.delete_on.Goals as goal

pub returns-in-Ok : goal.returns-in-Ok
returns-in-Ok c =
    rw c.go.ensures
    (delete_done c.args.o c.args.k c.args.objects.now c.args.texts.now c.delete.new.self (sym c.in-Ok.ensures.refused) c.in-Ok.ensures.ok)
