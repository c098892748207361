use Rattle.std.proofs.Common.{◌≡◌, drop}
use Rattle.std.specs.List.{fold}
use Rattle.actx_opening.specs.Starts.{started}
use Rattle.actx_opening.proofs.start.make_all.Given as goal

abbrev pub invariant-loop-start : goal.invariant-loop-start
invariant-loop-start l = fold started l.objects (drop l.start-index l.table) ≡ fold started l.fn.objects l.fn.table
