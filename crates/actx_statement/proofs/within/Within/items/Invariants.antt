use Rattle.std.proofs.Common.{◌≡◌, ◌-◌, ◌≤◌, []}
use Rattle.actx_grammar.specs.Reader.{many_from, count}
use Rattle.actx_program.specs.StatementReader.{inside, items, goes_on_items}
use Rattle.actx_statement.proofs.within.Within.items.Given as goal

abbrev pub invariant-loop-turn : goal.invariant-loop-turn
invariant-loop-turn g l = record {
  reads : items (inside l.self.room) l.fn.cursor ≡ many_from goes_on_items (inside l.self.room).item (l._turn-end - l._turn) l.found l.highest l.cursor;
  low : l.highest ≤ l.self.room;
}
