use Rattle.std.proofs.Common.{◌≡◌, ◌-◌, ◌≤◌, []}
use Rattle.actx_grammar.specs.Lines.{below}
use Rattle.actx_grammar.specs.Patterns.{members_from}
use Rattle.actx_grammar.specs.Reader.{count}
use Rattle.actx_pattern.proofs.classes.members.Given as goal

abbrev pub invariant-loop-turn : goal.invariant-loop-turn
invariant-loop-turn g l = record {
  reads : members_from (below l.inner.room) (count l.fn.cursor) [] l.fn.levels l.fn.cursor ≡ members_from (below l.inner.room) (l._turn-end - l._turn) l.found l.highest l.cursor;
  low : l.highest ≤ l.inner.room;
}
