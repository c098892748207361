use Rattle.std.proofs.Common.{◌-◌, arith, sym}
use Rattle.actx_scope.proofs.Skips.{skip_long, skip_absent, skip_before, skip_to}
use Rattle.actx_scope.proofs.bodies.place_of.Goals as goal

pub returns-then-bodies-range : goal.returns-then-bodies-range
returns-then-bodies-range c = skip_long c.args.bodies.count c.args.bodies.list.now c.args.range _ c.if-bodies-range.true

pub returns-then-place-bodies : goal.returns-then-place-bodies
returns-then-place-bodies c = skip_before c.args.bodies.places.now.map c.args.bodies.start c.args.bodies.count (c.args.bodies.count - c.args.range.from) c.in-Some.place.now c.args.bodies.list.now c.args.range _ (c.args.bodies.placed c.if-not-bodies.false) (omega arith) (sym c.in-Some.ensures.value) c.if-place-bodies.true

pub returns-else-place-bodies : goal.returns-else-place-bodies
returns-else-place-bodies c = skip_to c.args.bodies.places.now.map c.args.bodies.start c.args.bodies.count (c.args.bodies.count - c.args.range.from) c.in-Some.place.now c.args.bodies.list.now c.args.range (c.args.bodies.placed c.if-not-bodies.false) (omega arith) (sym c.in-Some.ensures.value) c.if-place-bodies.false

pub returns-in-None : goal.returns-in-None
returns-in-None c = skip_absent c.args.bodies.places.now.map c.args.bodies.start c.args.bodies.count (c.args.bodies.count - c.args.range.from) c.args.bodies.list.now c.args.range _ (c.args.bodies.placed c.if-not-bodies.false) (omega arith) (sym c.in-None.ensures.value)
