use Rattle.std.proofs.Common.{◌<◌, length, arith}
use Rattle.actx_scope.proofs.Knots.{fewer, found_ok, body_missing}
use Rattle.actx_scope.proofs.walk.knot.+knot.Goals as goal

pub returns-in-Some : goal.returns-in-Some
returns-in-Some t c = found_ok _ _ c.args.bodies.list.now c.args.range _ _ _ _ _ c.of_body_items.result c.in-Some.ensures.0 c.in-Some.ensures.1 (rw c.as_slice.ensures at c.of_body_items.ensures)

pub returns-in-None : goal.returns-in-None
returns-in-None t c = body_missing c.args.bodies.count c.args.bodies.list.now c.args.range _ _ c.in-None.ensures

pub of_body_items-requires : goal.of_body_items-requires
of_body_items-requires t c =
    let f : length c.in-Some.behind.list.now < length c.args.bodies.list.now = fewer c.args.bodies.count c.args.bodies.list.now c.args.range c.in-Some.body.now c.in-Some.behind.list.now c.in-Some.ensures.1 in
    record { holds = record { callable = λ range place old. (omega (arith, f), tt); adds = λ range place old new r k. k.3 } }
