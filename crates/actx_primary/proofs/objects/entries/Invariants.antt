use Rattle.std.proofs.Common.{◌≡◌, ◌-◌, ◌≤◌, []}
use Rattle.actx_grammar.specs.Reader.{count, row_from}
use Rattle.actx_grammar.specs.Lines.{below, entry}
use Rattle.actx_grammar.specs.Kinds.{closes}
use Rattle.actx_grammar.specs.declared.bracket.Bracket.TheVariants as bracket
use Rattle.actx_primary.proofs.objects.entries.Given as goal

-- what is left gives what the whole gives
abbrev pub invariant-loop-turn : goal.invariant-loop-turn
invariant-loop-turn g l = record {
  reads : row_from bracket.Curly (closes bracket.Curly) (entry (below l.inner.room)) (count l.fn.cursor) [] 0 l.fn.cursor ≡ row_from bracket.Curly (closes bracket.Curly) (entry (below l.inner.room)) (l._turn-end - l._turn) l.found l.highest l.cursor;
  low : l.highest ≤ l.inner.room;
}
