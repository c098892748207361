use Rattle.std.proofs.Common.{◌≡◌, ◌<◌, ◌∙◌, ℕ, List, Option, Some, None, length, slice_get, refl, sym, ap, arith}
use Rattle.std.proofs.lemmas.Option.{slice_get_read}
use Rattle.actx_value.specs.declared.value.Value.{Value}
use Rattle.actx_cells.specs.declared.span.Span.{Span}
use Rattle.actx_cells.specs.Scopes.{held}
use Rattle.actx_cells.specs.Spans.{place_in}
use Rattle.actx_cells.proofs.SpanLemmas.{cell_at, value_is, place_within}
use Rattle.actx_cells.proofs.cells.Cells.get.Goals as goal

pub index-requires : goal.index-requires
index-requires c =
    let cells : List (Option Value) = c.self.inside.cells.items in
    let spans : List Span = c.self.inside.spans.items in
    let found : place_in spans c.args.hops c.args.s c.args.slot ≡ Some c.in-Some.place = sym (rw c.as_slice.ensures.value at c.in-Some.ensures) in
    let less : c.in-Some.place < length cells = place_within cells spans c.self.invariant.laid c.args.s c.args.hops c.args.slot c.in-Some.place found in
    omega arith

pub returns-in-Some : goal.returns-in-Some
returns-in-Some c =
    let cells : List (Option Value) = c.self.inside.cells.items in
    let spans : List Span = c.self.inside.spans.items in
    let p : ℕ = c.in-Some.place in
    let found : place_in spans c.args.hops c.args.s c.args.slot ≡ Some p = sym (rw c.as_slice.ensures.value at c.in-Some.ensures) in
    let less : p < length cells = place_within cells spans c.self.invariant.laid c.args.s c.args.hops c.args.slot p found in
    let at : slice_get cells p ≡ Some c.index.result.now = slice_get_read cells (length cells) p c.index.result.now refl less c.index.ensures in
    rw (← c.self.view_is) (sym (value_is cells spans c.self.invariant.laid c.args.s c.args.hops c.args.slot ∙ ap (cell_at cells) found ∙ ap held at ∙ c.ok_or.ensures.ok_part))

pub returns-in-None : goal.returns-in-None
returns-in-None c =
    let cells : List (Option Value) = c.self.inside.cells.items in
    let spans : List Span = c.self.inside.spans.items in
    let missed : place_in spans c.args.hops c.args.s c.args.slot ≡ None = sym (rw c.as_slice.ensures.value at c.in-None.ensures) in
    rw (← c.self.view_is) (sym (value_is cells spans c.self.invariant.laid c.args.s c.args.hops c.args.slot ∙ ap (cell_at cells) missed))
