use Rattle.std.proofs.Common.{◌≡◌, ◌-◌, ◌≤◌, []}
use Rattle.actx_grammar.specs.Reader.{count, many_from}
use Rattle.actx_grammar.specs.Lines.{below, has_operator, operand, operands}
use Rattle.actx_expr.proofs.chains.operands.Given as goal

abbrev pub invariant-loop-turn : goal.invariant-loop-turn
invariant-loop-turn g l = record {
  reads : many_from (has_operator l.own) (operand (below l.inner.room) l.own l.inner_level) (count l.fn.cursor) [] l.fn.levels l.fn.cursor ≡ many_from (has_operator l.own) (operand (below l.inner.room) l.own l.inner_level) (l._turn-end - l._turn) l.found l.highest l.cursor;
  low : l.highest ≤ l.inner.room;
}
