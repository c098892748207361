use Rattle.actx_cli.proofs.Gained.{puts_stop, puts_then}
use Rattle.actx_cli.proofs.sinks.put_both.Goals as goal

pub returns-in-Err : goal.returns-in-Err
returns-in-Err g c = puts_stop _ _ _ _ _ c.in-Err.ensures

pub returns : goal.returns
returns g c = puts_then _ _ _ _ _ _ _ c.in-Ok.ensures c.put-2.ensures
