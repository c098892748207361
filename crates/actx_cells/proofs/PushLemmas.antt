-- One scope more.
use Rattle.std.proofs.Common.{◌≡◌, ℕ, suc, ◌<◌, ◌≤◌, ◌+◌, ◌-◌, List, [], ◌∷◌, ◌++◌, length, replicate, take, drop, slice_get, Option, Some, None, option_and_then, refl, sym, subst, ap, ◌∙◌, arith, length-append}
use Rattle.std.proofs.lemmas.List.{map-append, take_all}
use Rattle.actx_value.specs.declared.ids.ScopeId.{ScopeId}
use Rattle.actx_value.specs.declared.value.Value.{Value}
use Rattle.actx_cells.specs.declared.span.Span.{Span}
use Rattle.actx_cells.specs.Scopes.{Scope, count_of, held, outer_of}
use Rattle.actx_cells.specs.Spans.{scope_in, scopes_in, AreLaid, IsKept}
use Rattle.actx_cells.proofs.RangeLemmas.{range_added}
use Rattle.actx_cells.proofs.SpanLemmas.{laid_push, count_is, scopes_append}

-- what stands for a scope more
pub record IsPushed (spans : List Span) (cells : List (Option Value)) (parent : Option ScopeId) (more : List (Option Value)) (n limit : ℕ) : Type 0 where
  pub kept : IsKept (spans ++ record { parent = parent; start = length cells; count = n } ∷ []) (cells ++ more) limit
  pub scopes : scopes_in (cells ++ more) (spans ++ record { parent = parent; start = length cells; count = n } ∷ []) ≡ scopes_in cells spans ++ record { parent = parent; cells = more } ∷ []

pub pushed : (spans : List Span) (cells : List (Option Value)) (limit : ℕ) → IsKept spans cells limit → (parent : Option ScopeId) (more : List (Option Value)) (n : ℕ) → length more ≡ n
    → count_of (scopes_in cells spans) + suc n ≤ limit → IsPushed spans cells parent more n limit
pushed spans cells limit kept parent more n long room =
    let span : Span = record { parent = parent; start = length cells; count = n } in
    let total : length cells + n ≡ length (cells ++ more) = omega (arith, length-append cells more, long) in
    record {
      kept = record {
        laid = subst (λ end. AreLaid 0 (spans ++ span ∷ []) end) total (laid_push 0 spans (length cells) kept.laid parent n);
        roomy = omega (arith, length-append spans (span ∷ []), total, count_is cells spans kept.laid, room);
        small = kept.small;
      };
      scopes = map-append (scope_in (cells ++ more)) spans (span ∷ [])
          ∙ ap (λ (front : List Scope). front ++ scope_in (cells ++ more) span ∷ []) (scopes_append cells more 0 spans (length cells) kept.laid (omega arith))
          ∙ ap (λ (own : List (Option Value)). let scope : Scope = record { parent = parent; cells = own } in scopes_in cells spans ++ scope ∷ []) (range_added cells more n long);
    }

-- the cells after a new scope's are put at the end
pub resized : (cells : List (Option Value)) (n : ℕ) → take (length cells + n) cells ++ replicate (length cells + n - length cells) None ≡ cells ++ replicate n None
resized cells n =
    let all : take (length cells + n) cells ≡ cells = take_all (length cells + n) cells (omega arith) in
    let left : length cells + n - length cells ≡ n = omega arith in
    rw (all, left) refl

-- the cells of a range
pub range_is : (cells : List (Option Value)) (from n : ℕ) → take (from + n - from) (drop from cells) ≡ take n (drop from cells)
range_is cells from n = let same : from + n - from ≡ n = omega arith in rw same refl

-- one hop further out
pub outer_step : (parents : List (Option ScopeId)) (hops hop : ℕ) (s p : ScopeId) → hop < hops → held (slice_get parents s.0) ≡ Some p → outer_of parents (hops - (hop + 1)) p ≡ outer_of parents (hops - hop) s
outer_step parents hops hop s p less h =
    let left : hops - hop ≡ suc (hops - (hop + 1)) = omega arith in
    sym (ap (λ k. outer_of parents k s) left ∙ ap (option_and_then (outer_of parents (hops - (hop + 1)))) h)

pub outer_stop : (parents : List (Option ScopeId)) (hops hop : ℕ) (s : ScopeId) → hop < hops → held (slice_get parents s.0) ≡ None → None ≡ outer_of parents (hops - hop) s
outer_stop parents hops hop s less h =
    let left : hops - hop ≡ suc (hops - (hop + 1)) = omega arith in
    sym (ap (λ k. outer_of parents k s) left ∙ ap (option_and_then (outer_of parents (hops - (hop + 1)))) h)
