use Rattle.std.proofs.Common.{◌≡◌, ◌≤◌, ◌+◌, ◌∷◌, ◌++◌, ◌∙◌, ℕ, suc, List, [], Option, length, take, drop, sym, ap, arith}
use Rattle.actx_value.specs.declared.value.Value.{Value}
use Rattle.actx_cells.specs.declared.span.Span.{Span}
use Rattle.actx_cells.specs.Scopes.{Scope, ScopeStore, count_of, fork_of}
use Rattle.actx_cells.specs.Spans.{scopes_in, span_of}
use Rattle.actx_cells.proofs.RangeLemmas.{length-range}
use Rattle.actx_cells.proofs.SpanLemmas.{fork_is, span_within}
use Rattle.actx_cells.proofs.PushLemmas.{IsPushed, pushed, range_is}
use Rattle.actx_cells.proofs.cells.Cells.push_fork.Goals as goal

pub extend_from_within-requires-clause-in_bounds : goal.extend_from_within-requires-clause-in_bounds
extend_from_within-requires-clause-in_bounds c =
    let spans : List Span = c.self.inside.spans.items in
    let is : c.span_of-span.result ≡ span_of spans c.args.s = rw c.as_slice.ensures.value at c.span_of-span.ensures in
    let first : c.span_of-span.result.start ≡ (span_of spans c.args.s).start = ap (λ (span : Span). span.start) is in
    let count : c.span_of-span.result.count ≡ (span_of spans c.args.s).count = ap (λ (span : Span). span.count) is in
    omega (arith, first, count, span_within c.self.inside.cells.items spans c.self.invariant.laid c.args.s)

pub invariant_of-self-2 : goal.invariant_of-self-2
invariant_of-self-2 c =
    let cells : List (Option Value) = c.self.inside.cells.items in
    let spans : List Span = c.self.inside.spans.items in
    let limit : ℕ = c.self.inside.limit in
    let own : Span = span_of spans c.args.s in
    let copied : List (Option Value) = take own.count (drop own.start cells) in
    let is : c.span_of-span.result ≡ own = rw c.as_slice.ensures.value at c.span_of-span.ensures in
    let long : length copied ≡ own.count = length-range cells own.start own.count (span_within cells spans c.self.invariant.laid c.args.s) in
    let asked : count_of (scopes_in cells spans) + suc (length (fork_of (scopes_in cells spans) c.args.s).cells) ≤ limit = rw (← c.self.view_is) at c.requires in
    let counted : length (fork_of (scopes_in cells spans) c.args.s).cells ≡ own.count = ap (λ (scope : Scope). length scope.cells) (fork_is cells spans c.args.s) ∙ long in
    let done : IsPushed spans cells own.parent copied own.count limit = pushed spans cells limit c.self.invariant own.parent copied own.count long (omega (arith, asked, counted)) in
    let start : c.len-copies.result ≡ length cells = omega arith in
    let more : c.extend_from_within.new.self.items ≡ cells ++ copied = c.in_ok-extend_from_within.ensures.items ∙ rw is (ap (λ m. cells ++ m) (range_is cells own.start own.count)) in
    rw (c.push_reserved.ensures.items, c.in_ok-reserve.ensures.items, more, start, is) done.kept

pub returns-clause-ok : goal.returns-clause-ok
returns-clause-ok c =
    let cells : List (Option Value) = c.self.inside.cells.items in
    let spans : List Span = c.self.inside.spans.items in
    let limit : ℕ = c.self.inside.limit in
    let own : Span = span_of spans c.args.s in
    let copied : List (Option Value) = take own.count (drop own.start cells) in
    let is : c.span_of-span.result ≡ own = rw c.as_slice.ensures.value at c.span_of-span.ensures in
    let long : length copied ≡ own.count = length-range cells own.start own.count (span_within cells spans c.self.invariant.laid c.args.s) in
    let asked : count_of (scopes_in cells spans) + suc (length (fork_of (scopes_in cells spans) c.args.s).cells) ≤ limit = rw (← c.self.view_is) at c.requires in
    let counted : length (fork_of (scopes_in cells spans) c.args.s).cells ≡ own.count = ap (λ (scope : Scope). length scope.cells) (fork_is cells spans c.args.s) ∙ long in
    let done : IsPushed spans cells own.parent copied own.count limit = pushed spans cells limit c.self.invariant own.parent copied own.count long (omega (arith, asked, counted)) in
    let start : c.len-copies.result ≡ length cells = omega arith in
    let more : c.extend_from_within.new.self.items ≡ cells ++ copied = c.in_ok-extend_from_within.ensures.items ∙ rw is (ap (λ m. cells ++ m) (range_is cells own.start own.count)) in
    let whole : List Scope → ScopeStore = λ scopes. record { scopes = scopes; limit = limit } in
    rw (← c.self.view_is, c.push_reserved.ensures.items, c.in_ok-reserve.ensures.items, more, start, is)
    (ap whole (done.scopes ∙ ap (λ (scope : Scope). scopes_in cells spans ++ scope ∷ []) (sym (fork_is cells spans c.args.s))))
