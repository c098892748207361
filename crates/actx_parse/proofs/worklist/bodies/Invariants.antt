use Rattle.std.proofs.Common.{◌≡◌, ◌-◌, drop}
use Rattle.actx_program.specs.TreeReader.{bodies, bodies_from}
use Rattle.actx_parse.proofs.worklist.bodies.Given as goal

abbrev pub invariant-loop-turn : goal.invariant-loop-turn
invariant-loop-turn l = bodies l.tokens 201 l.items ≡ bodies_from l.tokens 201 (l.turn-end - l.turn) (drop l.turn l.work) l.found
