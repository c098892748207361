use Rattle.std.proofs.Common.{◌≡◌, ◌-◌, ◌≤◌, []}
use Rattle.actx_grammar.specs.Reader.{count, many_from}
use Rattle.actx_grammar.specs.Lines.{below, goes_on_comma, next_assign, commas}
use Rattle.actx_expr.proofs.exprs.commas.Given as goal

abbrev pub invariant-loop-turn : goal.invariant-loop-turn
invariant-loop-turn g l = record {
  reads : many_from goes_on_comma (next_assign (below l.inner.room)) (count l.fn.cursor) [] l.fn.levels l.fn.cursor ≡ many_from goes_on_comma (next_assign (below l.inner.room)) (l._turn-end - l._turn) l.found l.highest l.cursor;
  low : l.highest ≤ l.inner.room;
}
