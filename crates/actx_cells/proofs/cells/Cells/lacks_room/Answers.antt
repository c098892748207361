use Rattle.std.proofs.Common.{arith}
use Rattle.std.proofs.lemmas.Bool.{ltb-true, lt-ltb}
use Rattle.actx_cells.proofs.SpanLemmas.{count_is}
use Rattle.actx_cells.proofs.cells.Cells.lacks_room.Goals as goal

pub returns : goal.returns
returns c = rw (← c.self.view_is) (
  λ h. omega (arith, ltb-true _ _ h, count_is c.self.inside.cells.items c.self.inside.spans.items c.self.invariant.laid),
  λ h. lt-ltb _ _ (omega (arith, h, count_is c.self.inside.cells.items c.self.inside.spans.items c.self.invariant.laid)),
)
