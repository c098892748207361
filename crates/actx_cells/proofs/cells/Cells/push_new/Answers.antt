use Rattle.std.proofs.Common.{◌≡◌, ◌≤◌, ◌+◌, ◌++◌, ◌∙◌, suc, List, Option, None, length, vec_len, replicate, ap, arith}
use Rattle.std.proofs.lemmas.List.{length-replicate}
use Rattle.actx_value.specs.declared.value.Value.{Value}
use Rattle.actx_cells.specs.declared.span.Span.{Span}
use Rattle.actx_cells.specs.Scopes.{Scope, ScopeStore, count_of}
use Rattle.actx_cells.specs.Spans.{scopes_in}
use Rattle.actx_cells.proofs.PushLemmas.{pushed, resized}
use Rattle.actx_cells.proofs.cells.Cells.push_new.Goals as goal

pub invariant_of-self-2 : goal.invariant_of-self-2
invariant_of-self-2 c =
    let cells : List (Option Value) = c.self.inside.cells.items in
    let spans : List Span = c.self.inside.spans.items in
    let room : count_of (scopes_in cells spans) + suc c.args.n ≤ c.self.inside.limit = rw (← c.self.view_is) at c.requires in
    let done = pushed spans cells c.self.inside.limit c.self.invariant c.args.parent (replicate c.args.n None) c.args.n (length-replicate c.args.n None) room in
    let start : c.len-start.result ≡ length cells = omega arith in
    let size : vec_len c.self.inside.cells ≡ length cells = omega arith in
    let more : c.resize.new.self.items ≡ cells ++ replicate c.args.n None = c.in_ok-resize.ensures.items ∙ rw (start, size) (resized cells c.args.n) in
    rw (c.push_reserved.ensures.items, c.in_ok-reserve.ensures.items, more, start) done.kept

pub returns-clause-ok : goal.returns-clause-ok
returns-clause-ok c =
    let cells : List (Option Value) = c.self.inside.cells.items in
    let spans : List Span = c.self.inside.spans.items in
    let room : count_of (scopes_in cells spans) + suc c.args.n ≤ c.self.inside.limit = rw (← c.self.view_is) at c.requires in
    let done = pushed spans cells c.self.inside.limit c.self.invariant c.args.parent (replicate c.args.n None) c.args.n (length-replicate c.args.n None) room in
    let start : c.len-start.result ≡ length cells = omega arith in
    let whole : List Scope → ScopeStore = λ scopes. record { scopes = scopes; limit = c.self.inside.limit } in
    let size : vec_len c.self.inside.cells ≡ length cells = omega arith in
    let more : c.resize.new.self.items ≡ cells ++ replicate c.args.n None = c.in_ok-resize.ensures.items ∙ rw (start, size) (resized cells c.args.n) in
    rw (← c.self.view_is, c.push_reserved.ensures.items, c.in_ok-reserve.ensures.items, more, start) (ap whole done.scopes)
