use Rattle.std.proofs.Common.{length, ◌≤◌}
use Rattle.actx_lex.specs.Readers.{opened}
use Rattle.actx_lex.proofs.Runs.{Reached}
use Rattle.actx_lex.proofs.lex.tokens.Given as goal

abbrev pub invariant-loop-left : goal.invariant-loop-left
invariant-loop-left l = record {
  reached : Reached (length l.text) (opened l.text) l.braces.items l.first l.found.items l.left;
  low : length l.left ≤ length l.text;
}

abbrev pub decreases-loop-left : goal.decreases-loop-left
decreases-loop-left l = length l.left
