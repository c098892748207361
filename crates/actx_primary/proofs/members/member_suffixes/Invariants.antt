use Rattle.std.proofs.Common.{◌≡◌, ◌-◌, ◌≤◌, []}
use Rattle.actx_grammar.specs.Reader.{count, many_from}
use Rattle.actx_grammar.specs.Lines.{below, goes_on_member, member_suffix}
use Rattle.actx_primary.proofs.members.member_suffixes.Given as goal

-- what is left gives what the whole gives
abbrev pub invariant-loop-turn : goal.invariant-loop-turn
invariant-loop-turn g l = record {
  reads : many_from goes_on_member (member_suffix (below l.inner.room)) (count l.fn.cursor) [] l.fn.highest l.fn.cursor ≡ many_from goes_on_member (member_suffix (below l.inner.room)) (l._turn-end - l._turn) l.found l.highest l.cursor;
  low : l.highest ≤ l.inner.room;
}
