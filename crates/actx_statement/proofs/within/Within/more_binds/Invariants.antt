use Rattle.std.proofs.Common.{◌≡◌, ◌-◌, ◌≤◌, []}
use Rattle.actx_grammar.specs.Reader.{many_from, count}
use Rattle.actx_grammar.specs.Lines.{goes_on_comma}
use Rattle.actx_program.specs.StatementReader.{inside, more_binds, next_bind}
use Rattle.actx_statement.proofs.within.Within.more_binds.Given as goal

abbrev pub invariant-loop-turn : goal.invariant-loop-turn
invariant-loop-turn g l = record {
  reads : more_binds (inside l.self.room) l.is_const (l.fn.first, l.fn.levels) l.fn.cursor ≡ many_from goes_on_comma (next_bind (inside l.self.room) l.is_const) (l._turn-end - l._turn) l.found l.highest l.cursor;
  low : l.highest ≤ l.self.room;
}
