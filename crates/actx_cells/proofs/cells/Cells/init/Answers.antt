use Rattle.std.proofs.Common.{◌≡◌, ◌<◌, List, Option, Some, None, length, sym, ap, arith}
use Rattle.actx_value.specs.declared.value.Value.{Value}
use Rattle.actx_cells.specs.declared.span.Span.{Span}
use Rattle.actx_cells.specs.Scopes.{Scope, ScopeStore}
use Rattle.actx_cells.specs.Spans.{place_in, place_here}
use Rattle.actx_cells.proofs.SpanLemmas.{place_within, cell_set, cell_missed}
use Rattle.actx_cells.proofs.cells.Cells.init.Goals as goal

pub index_mut-requires : goal.index_mut-requires
index_mut-requires c =
    let cells : List (Option Value) = c.self.inside.cells.items in
    let spans : List Span = c.self.inside.spans.items in
    let found : place_in spans 0 c.args.s c.args.slot ≡ Some c.in-Some.place = sym (rw c.as_slice.ensures.value at c.in-Some.ensures) in
    let less : c.in-Some.place < length cells = place_within cells spans c.self.invariant.laid c.args.s 0 c.args.slot c.in-Some.place found in
    omega arith

pub returns-in-Some : goal.returns-in-Some
returns-in-Some c =
    let cells : List (Option Value) = c.self.inside.cells.items in
    let spans : List Span = c.self.inside.spans.items in
    let found : place_here spans c.args.slot c.args.s ≡ Some c.in-Some.place = sym (rw c.as_slice.ensures.value at c.in-Some.ensures) in
    let whole : List Scope → ScopeStore = λ scopes. record { scopes = scopes; limit = c.self.inside.limit } in
    rw (← c.self.view_is) (ap whole (cell_set cells spans c.self.invariant.laid c.args.slot c.args.v c.args.s c.in-Some.place found))

pub returns-in-None : goal.returns-in-None
returns-in-None c =
    let cells : List (Option Value) = c.self.inside.cells.items in
    let spans : List Span = c.self.inside.spans.items in
    let missed : place_here spans c.args.slot c.args.s ≡ None = sym (rw c.as_slice.ensures.value at c.in-None.ensures) in
    let whole : List Scope → ScopeStore = λ scopes. record { scopes = scopes; limit = c.self.inside.limit } in
    rw (← c.self.view_is) (ap whole (sym (cell_missed cells spans c.self.invariant.laid c.args.slot c.args.v c.args.s missed)))
