use Rattle.std.proofs.Common.{◌≡◌, Option, sym, ap, ◌∙◌}
use Rattle.std.specs.Option.{option_map_or}
use Rattle.actx_value.specs.declared.ids.ScopeId.{ScopeId}
use Rattle.actx_cells.specs.Scopes.{ScopeStore, with_cell, with_value_at}
use Rattle.actx_request.proofs.ScopeLemmas.{cell_written}
use Rattle.actx_request.proofs.scopes.init.Goals as goal
use Rattle.actx_request.proofs.scopes.init.Goals.{in-Some, in-None}

pub returns : goal.returns
returns c = rw c.go.ensures (cell_written c.args.scope c.args.hops c.args.slot c.args.v c.args.cells.now c.match-outer.cells is)
  where
    is : c.match-outer.cells ≡ record { scopes = with_value_at c.args.cells.now.scopes c.args.scope c.args.hops c.args.slot c.args.v; limit = c.args.cells.now.limit }
    is = elim c.match-outer.branch [
      | in-Some w ↦ w.cells-is ∙ w.init.ensures ∙ ap (λ (o : Option ScopeId). let x : ScopeStore = record { scopes = option_map_or (with_cell c.args.cells.now.scopes c.args.slot c.args.v) o c.args.cells.now.scopes; limit = c.args.cells.now.limit } in x) (sym w.in-Some.is ∙ c.outer.ensures)
      | in-None w ↦ w.cells-is ∙ ap (λ (o : Option ScopeId). let x : ScopeStore = record { scopes = option_map_or (with_cell c.args.cells.now.scopes c.args.slot c.args.v) o c.args.cells.now.scopes; limit = c.args.cells.now.limit } in x) (sym w.in-None.is ∙ c.outer.ensures)
    ]
