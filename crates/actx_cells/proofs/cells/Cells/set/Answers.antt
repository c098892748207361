use Rattle.std.proofs.Common.{◌≡◌, ◌<◌, ◌∙◌, ℕ, List, Option, Some, None, length, slice_get, refl, sym, ap, arith}
use Rattle.std.proofs.lemmas.Option.{slice_get_read, none-some}
use Rattle.actx_value.specs.declared.value.Value.{Value}
use Rattle.actx_cells.specs.declared.span.Span.{Span}
use Rattle.actx_cells.specs.Scopes.{Scope, ScopeStore, held}
use Rattle.actx_cells.specs.Spans.{place_in}
use Rattle.actx_cells.proofs.SpanLemmas.{cell_at, value_is, value_set, place_within}
use Rattle.actx_cells.proofs.cells.Cells.set.Goals as goal

pub index-requires : goal.index-requires
index-requires c =
    let cells : List (Option Value) = c.self.inside.cells.items in
    let spans : List Span = c.self.inside.spans.items in
    let p : ℕ = c.in-Some.place in
    let found : place_in spans c.args.hops c.args.s c.args.slot ≡ Some p = sym (rw c.as_slice.ensures.value at c.in-Some.ensures) in
    let less : p < length cells = place_within cells spans c.self.invariant.laid c.args.s c.args.hops c.args.slot p found in
    omega arith

pub index_mut-requires : goal.index_mut-requires
index_mut-requires c =
    let cells : List (Option Value) = c.self.inside.cells.items in
    let spans : List Span = c.self.inside.spans.items in
    let p : ℕ = c.in-Some.place in
    let found : place_in spans c.args.hops c.args.s c.args.slot ≡ Some p = sym (rw c.as_slice.ensures.value at c.in-Some.ensures) in
    let less : p < length cells = place_within cells spans c.self.invariant.laid c.args.s c.args.hops c.args.slot p found in
    omega arith

pub returns-in-Some-index-clause-ok : goal.returns-in-Some-index-clause-ok
returns-in-Some-index-clause-ok c =
    let cells : List (Option Value) = c.self.inside.cells.items in
    let spans : List Span = c.self.inside.spans.items in
    let p : ℕ = c.in-Some.place in
    let found : place_in spans c.args.hops c.args.s c.args.slot ≡ Some p = sym (rw c.as_slice.ensures.value at c.in-Some.ensures) in
    let less : p < length cells = place_within cells spans c.self.invariant.laid c.args.s c.args.hops c.args.slot p found in
    let whole : List Scope → ScopeStore = λ scopes. record { scopes = scopes; limit = c.self.inside.limit } in
    rw (← c.self.view_is) (ap whole (value_set cells spans c.self.invariant.laid c.args.s c.args.hops c.args.slot c.args.v p found))

pub returns-in-Some-index-clause-uninitialised : goal.returns-in-Some-index-clause-uninitialised
returns-in-Some-index-clause-uninitialised c =
    let cells : List (Option Value) = c.self.inside.cells.items in
    let spans : List Span = c.self.inside.spans.items in
    let p : ℕ = c.in-Some.place in
    let found : place_in spans c.args.hops c.args.s c.args.slot ≡ Some p = sym (rw c.as_slice.ensures.value at c.in-Some.ensures) in
    let less : p < length cells = place_within cells spans c.self.invariant.laid c.args.s c.args.hops c.args.slot p found in
    let at : slice_get cells p ≡ Some c.index.result.now = slice_get_read cells (length cells) p c.index.result.now refl less c.index.ensures in
    let value = value_is cells spans c.self.invariant.laid c.args.s c.args.hops c.args.slot ∙ ap (cell_at cells) found ∙ ap held at ∙ c.in-Some-index.is in
    rw (← c.self.view_is) (λ h. cc, λ none. absurd (none-some c.in-Some-index.field-0 (sym none ∙ value)))

pub returns-in-None-index-clause-uninitialised : goal.returns-in-None-index-clause-uninitialised
returns-in-None-index-clause-uninitialised c =
    let cells : List (Option Value) = c.self.inside.cells.items in
    let spans : List Span = c.self.inside.spans.items in
    let p : ℕ = c.in-Some.place in
    let found : place_in spans c.args.hops c.args.s c.args.slot ≡ Some p = sym (rw c.as_slice.ensures.value at c.in-Some.ensures) in
    let less : p < length cells = place_within cells spans c.self.invariant.laid c.args.s c.args.hops c.args.slot p found in
    let at : slice_get cells p ≡ Some c.index.result.now = slice_get_read cells (length cells) p c.index.result.now refl less c.index.ensures in
    let value = value_is cells spans c.self.invariant.laid c.args.s c.args.hops c.args.slot ∙ ap (cell_at cells) found ∙ ap held at ∙ c.in-None-index.is in
    rw (← c.self.view_is) (λ h. value, λ none. refl)

pub returns-in-None-clause-uninitialised : goal.returns-in-None-clause-uninitialised
returns-in-None-clause-uninitialised c =
    let cells : List (Option Value) = c.self.inside.cells.items in
    let spans : List Span = c.self.inside.spans.items in
    let missed : place_in spans c.args.hops c.args.s c.args.slot ≡ None = sym (rw c.as_slice.ensures.value at c.in-None.ensures) in
    rw (← c.self.view_is) (λ h. value_is cells spans c.self.invariant.laid c.args.s c.args.hops c.args.slot ∙ ap (cell_at cells) missed, λ none. refl)
