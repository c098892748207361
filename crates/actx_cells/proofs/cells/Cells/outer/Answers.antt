use Rattle.std.proofs.Common.{List, Option, sym, ap, ◌∙◌}
use Rattle.actx_value.specs.declared.ids.ScopeId.{ScopeId}
use Rattle.actx_cells.specs.Scopes.{outer_of}
use Rattle.actx_cells.proofs.SpanLemmas.{parents_in}
use Rattle.actx_cells.proofs.cells.Cells.outer.Goals as goal

pub returns : goal.returns
returns c =
    rw (← c.self.view_is)
    (rw c.as_slice.ensures.value at c.outer.ensures
    ∙ sym (ap (λ (parents : List (Option ScopeId)). outer_of parents c.args.hops c.args.s) (parents_in c.self.inside.cells.items c.self.inside.spans.items)))
