use Rattle.std.proofs.Common.{◌≡◌, ◌-◌, ◌≤◌}
use Rattle.actx_grammar.specs.Lines.{below}
use Rattle.actx_grammar.specs.Patterns.{elems, elem, ends_elems}
use Rattle.actx_grammar.specs.Reader.{row_from}
use Rattle.actx_pattern.proofs.elements.elems.Given as goal

abbrev pub invariant-loop-turn : goal.invariant-loop-turn
invariant-loop-turn g l = record {
  reads : elems (below l.inner.room) l.bracket l.fn.cursor ≡ row_from l.bracket (ends_elems l.bracket) (elem (below l.inner.room)) (l._turn-end - l._turn) l.found l.highest l.cursor;
  low : l.highest ≤ l.inner.room;
}
