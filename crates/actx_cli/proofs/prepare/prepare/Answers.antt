use Rattle.actx_cli.proofs.Phases.{prepared}
use Rattle.actx_cli.proofs.prepare.prepare.Goals as goal

pub returns : goal.returns
returns g c =
    let s = c.in_ok-bytes.ensures in
    prepared _ _ c.in-Ok.file.now c.in_ok-bytes.bytes.items c.reading.result c.in-Ok.ensures.file s.0 s.1 s.2 (rw c.deref.ensures.value at c.reading.ensures)
