use Rattle.std.proofs.Common.{◌≡◌, List, length, slice_get, Some, None, option_map, refl, sym, ap, ◌∙◌}
use Rattle.std.proofs.lemmas.Bool.{ltb-true, ltb-false}
use Rattle.std.proofs.lemmas.Option.{slice_get_read, slice_get_past, slice_get-map}
use Rattle.actx_cells.specs.declared.span.Span.{Span}
use Rattle.actx_cells.specs.Scopes.{held}
use Rattle.actx_cells.proofs.span.parent_of.Goals as goal

pub returns-in-Some : goal.returns-in-Some
returns-in-Some c =
    let spans : List Span = c.args.spans.now in
    let found = c.in-Some.ensures.lookup in
    let at : slice_get spans c.args.s.0 ≡ Some c.in-Some.span.now = slice_get_read spans (length spans) c.args.s.0 c.in-Some.span.now refl (ltb-true _ _ (sym found.0)) found.1 in
    sym (ap held (slice_get-map (λ (span : Span). span.parent) spans c.args.s.0 ∙ ap (option_map (λ (span : Span). span.parent)) at))

pub returns-in-None : goal.returns-in-None
returns-in-None c =
    let spans : List Span = c.args.spans.now in
    let missed = c.in-None.ensures.lookup in
    let at : slice_get spans c.args.s.0 ≡ None = slice_get_past spans c.args.s.0 (ltb-false _ _ (sym missed.0)) in
    sym (ap held (slice_get-map (λ (span : Span). span.parent) spans c.args.s.0 ∙ ap (option_map (λ (span : Span). span.parent)) at))
