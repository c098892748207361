use Rattle.std.proofs.Common.{◌≡◌, ◌-◌, ◌≤◌}
use Rattle.actx_grammar.specs.declared.bracket.Bracket.TheVariants as bracket
use Rattle.actx_grammar.specs.Lines.{below}
use Rattle.actx_grammar.specs.Patterns.{props, prop, ends_elems}
use Rattle.actx_grammar.specs.Reader.{row_from}
use Rattle.actx_pattern.proofs.properties.props.Given as goal

abbrev pub invariant-loop-turn : goal.invariant-loop-turn
invariant-loop-turn g l = record {
  reads : props (below l.inner.room) l.fn.cursor ≡ row_from bracket.Curly (ends_elems bracket.Curly) (prop (below l.inner.room)) (l._turn-end - l._turn) l.found l.highest l.cursor;
  low : l.highest ≤ l.inner.room;
}
