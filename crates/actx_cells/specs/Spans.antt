-- The cells of all scopes in one list, of which each scope has a range.
use Rattle.std.specs.Prelude.{◌≡◌, ℕ, ◌+◌, ◌≤◌, ◌<◌, nat_lt, List, [], ◌∷◌, Option, Some, None, length, map, slice_get, take, drop, unwrap_or, option_and_then, if◌then◌else◌}
use Rattle.actx_value.specs.declared.ids.ScopeId.{ScopeId}
use Rattle.actx_value.specs.declared.value.Value.{Value}
use Rattle.actx_cells.specs.declared.span.Span.{Span}
use Rattle.actx_cells.specs.Scopes.{Scope, outer_of}

-- the scope of a range
abbrev pub scope_in : List (Option Value) → Span → Scope
scope_in cells span = record { parent = span.parent; cells = take span.count (drop span.start cells) }

abbrev pub scopes_in : List (Option Value) → List Span → List Scope
scopes_in cells spans = map (scope_in cells) spans

-- the place of a cell of this range
abbrev pub place_of_slot : ℕ → Span → Option ℕ
place_of_slot slot span = if nat_lt slot span.count then Some (span.start + slot) else None

-- the place of a cell of this scope
abbrev pub place_here : List Span → ℕ → ScopeId → Option ℕ
place_here spans slot s = option_and_then (place_of_slot slot) (slice_get spans s.0)

-- the place of a cell, this many hops further out
abbrev pub place_in : List Span → ℕ → ScopeId → ℕ → Option ℕ
place_in spans hops s slot = option_and_then (place_here spans slot) (outer_of (map (λ span. span.parent) spans) hops s)

-- the range of a scope, and an empty one for a scope that isn't there
abbrev pub span_of : List Span → ScopeId → Span
span_of spans s = unwrap_or (slice_get spans s.0) (record { parent = None; start = 0; count = 0 })

-- the ranges follow one another from one place up to another
abbrev pub AreLaid : ℕ → List Span → ℕ → Type 0
AreLaid start [] end = start ≡ end
AreLaid start (span ∷ spans) end = (span.start ≡ start) × AreLaid (start + span.count) spans end

-- the ranges cover the cells, and the counts are within the limit
pub record IsKept (spans : List Span) (cells : List (Option Value)) (limit : ℕ) : Type 0 where
  pub laid : AreLaid 0 spans (length cells)
  pub roomy : length spans + length cells ≤ limit
  pub small : limit < 2147483648
