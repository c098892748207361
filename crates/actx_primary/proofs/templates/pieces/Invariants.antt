use Rattle.std.proofs.Common.{◌≡◌, ◌-◌, ◌≤◌, []}
use Rattle.actx_grammar.specs.Reader.{count}
use Rattle.actx_grammar.specs.Lines.{below, pieces_from}
use Rattle.actx_primary.proofs.templates.pieces.Given as goal

-- what is left gives what the whole gives
abbrev pub invariant-loop-turn : goal.invariant-loop-turn
invariant-loop-turn g l = record {
  reads : pieces_from (below l.inner.room) (count l.fn.cursor) [] 0 l.fn.cursor ≡ pieces_from (below l.inner.room) (l._turn-end - l._turn) l.found l.highest l.cursor;
  low : l.highest ≤ l.inner.room;
}
