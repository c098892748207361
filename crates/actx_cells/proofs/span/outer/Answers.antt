use Rattle.std.proofs.Common.{sym, ◌∙◌, map}
use Rattle.actx_cells.specs.declared.span.Span.{Span}
use Rattle.actx_cells.proofs.PushLemmas.{outer_step}
use Rattle.actx_cells.proofs.span.outer.Goals as goal

pub loop-hop-preserved : goal.loop-hop-preserved
loop-hop-preserved c =
    outer_step (map (λ (span : Span). span.parent) c.args.spans.now) c.args.hops c.loop-hop.hop c.loop-hop.scope c.in_ok-scope.scope c.loop-hop-test.true (sym c.in_ok-scope.ensures)
    ∙ c.loop-hop.invariant
