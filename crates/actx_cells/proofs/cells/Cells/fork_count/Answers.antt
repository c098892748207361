use Rattle.std.proofs.Common.{◌≡◌, length, sym, ap, ◌∙◌}
use Rattle.actx_cells.specs.Scopes.{Scope}
use Rattle.actx_cells.specs.declared.span.Span.{Span}
use Rattle.actx_cells.specs.Spans.{span_of}
use Rattle.actx_cells.proofs.RangeLemmas.{length-range}
use Rattle.actx_cells.proofs.SpanLemmas.{fork_is, span_within}
use Rattle.actx_cells.proofs.cells.Cells.fork_count.Goals as goal

pub returns : goal.returns
returns c =
    let is : c.span_of.result ≡ span_of c.self.inside.spans.items c.args.s = rw c.as_slice.ensures.value at c.span_of.ensures in
    let own : Span = span_of c.self.inside.spans.items c.args.s in
    rw (← c.self.view_is) (
    ap (λ (span : Span). span.count) is
    ∙ sym (ap (λ (scope : Scope). length scope.cells) (fork_is c.self.inside.cells.items c.self.inside.spans.items c.args.s)
    ∙ length-range c.self.inside.cells.items own.start own.count (span_within c.self.inside.cells.items c.self.inside.spans.items c.self.invariant.laid c.args.s)))
