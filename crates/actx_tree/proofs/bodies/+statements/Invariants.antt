-- What the loops keep: the bodies found so far and those in what is left are all of them.
use Rattle.std.proofs.Common.{◌≡◌, ◌++◌, ◌+◌, ◌≤◌, map, drop}
use Rattle.actx_tree.specs.Bodies as bodies
use Rattle.actx_tree.specs.Levels as levels
use Rattle.actx_tree.proofs.bodies.+statements.Given as goal

abbrev pub invariant-bodies_of_stmts-loop-item : goal.invariant-bodies_of_stmts-loop-item
invariant-bodies_of_stmts-loop-item l = (l.found ++ bodies.all (map bodies.stmt_bodies (drop l.item-index l.items)) l.depth ≡ l.fn.found ++ bodies.all (map bodies.stmt_bodies l.items) l.depth) × (l.depth + levels.highest (map levels.stmt_levels (drop l.item-index l.items)) ≤ 1000)
