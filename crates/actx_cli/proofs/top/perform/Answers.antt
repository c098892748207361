use Rattle.std.specs.List.{flat_map}
use Rattle.actx_cli.proofs.Phases.{refused}
use Rattle.actx_cli.proofs.top.perform.Goals as goal

pub returns-in-Err : goal.returns-in-Err
returns-in-Err g c = refused _ _ _ c.in-Err.answer c.in-Err.ensures.0 c.in-Err.ensures.1

pub returns-in-Ok-put_all : goal.returns-in-Ok-put_all
returns-in-Ok-put_all g c = (flat_map (λ piece. piece.items) c.in-Ok.pieces.items, c.in-Ok.ensures, rw c.deref.ensures.value at c.in-Ok-put_all.ensures.all)

pub returns : goal.returns
returns g c = (flat_map (λ piece. piece.items) c.in-Ok.pieces.items, c.in-Ok.ensures, (rw c.deref.ensures.value at c.in-Err-put_all.ensures.front, c.in-Err-put_all.ensures.fault))
