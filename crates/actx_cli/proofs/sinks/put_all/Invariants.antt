use Rattle.std.proofs.Common.{◌≤◌, take}
use Rattle.std.specs.List.{flat_map}
use Rattle.std.specs.Io.KnownBytes.{Appends}
use Rattle.actx_cli.proofs.sinks.put_all.Given as goal

-- the pieces before this one were gained
abbrev pub invariant-loop-piece : goal.invariant-loop-piece
invariant-loop-piece g l = record {
  gained : Appends (g.S.Sink.state l.fn.sink).bytes (g.S.Sink.state l.sink).bytes (flat_map (λ piece. piece.items) (take l.piece-index l.pieces));
  later : (g.S.Sink.state l.fn.sink).faults ≤ (g.S.Sink.state l.sink).faults;
}
