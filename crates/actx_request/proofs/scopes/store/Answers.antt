use Rattle.std.proofs.Common.{◌≡◌, Option, Some, None, refl, sym, subst}
use Rattle.actx_value.specs.declared.value.Value.{Value}
use Rattle.actx_cells.specs.Scopes.{value_at}
use Rattle.actx_request.specs.Outcomes.{stores}
use Rattle.actx_request.specs.Limits.{IsMet}
use Rattle.actx_request.specs.Scopes.{where_initialised, init_at}
use Rattle.actx_request.proofs.ScopeLemmas.{cell_written}
use Rattle.actx_request.proofs.scopes.store.Goals as goal

pub returns-in-Ok : goal.returns-in-Ok
returns-in-Ok c objects texts = by (value_at c.args.cells.now.scopes c.args.scope c.args.hops c.args.slot) refl
  where
    by : (w : Option Value) → value_at c.args.cells.now.scopes c.args.scope c.args.hops c.args.slot ≡ w → IsMet (where_initialised (value_at c.args.cells.now.scopes c.args.scope c.args.hops c.args.slot) (λ _. init_at c.args.scope c.args.hops c.args.slot c.args.v) (stores objects texts c.args.cells.now)) (stores objects texts c.args.cells.now) c.go.result (stores objects texts c.set.new.self)
    by None e = absurd (let h = c.in-Ok.ensures.uninitialised.1 e in cc)
    by (Some w) e =
        let P : Option Value → Type 0 = λ w. IsMet (where_initialised w (λ _. init_at c.args.scope c.args.hops c.args.slot c.args.v) (stores objects texts c.args.cells.now)) (stores objects texts c.args.cells.now) c.go.result (stores objects texts c.set.new.self) in
        subst P (sym e) (rw c.go.ensures (cell_written c.args.scope c.args.hops c.args.slot c.args.v c.args.cells.now c.set.new.self c.in-Ok.ensures.ok objects texts))
