-- The scopes that ranges stand for, as ranges are added and cells are written.
use Rattle.std.proofs.Common.{◌≡◌, ℕ, zero, suc, ◌<◌, ◌≤◌, ◌+◌, ◌-◌, Bool, true, false, cond, nat_lt, List, [], ◌∷◌, ◌++◌, length, map, get_or, set, take, drop, slice_get, slice_set, unwrap_or, Option, Some, None, option_map, option_and_then, refl, sym, subst, ap, ◌∙◌, arith}
use Rattle.std.proofs.lemmas.Bool.{ltb-true, ltb-false}
use Rattle.std.proofs.lemmas.List.{set-get_or, set_past}
use Rattle.std.proofs.lemmas.Option.{none-some, same_Some, slice_get-map, get_or_from_slice_get}
use Rattle.std.proofs.lemmas.List.Sums.{sum_by-cons}
use Rattle.std.specs.Option.{option_map_or}
use Rattle.actx_value.specs.declared.ids.ScopeId.{ScopeId}
use Rattle.actx_value.specs.declared.value.Value.{Value}
use Rattle.actx_cells.specs.declared.span.Span.{Span}
use Rattle.actx_cells.specs.Scopes.{Scope, count_of, parents_of, held, outer_of, cell_of, value_at, with_cell, with_value_at, fork_of}
use Rattle.actx_cells.specs.Spans.{scope_in, scopes_in, place_of_slot, place_here, place_in, span_of, AreLaid}
use Rattle.actx_cells.proofs.RangeLemmas.{length-range, range_get, range_past, range_append, range_set_before, range_set_behind, range_set_in}

-- ranges end no sooner than they begin
laid_le : (start : ℕ) (spans : List Span) (end : ℕ) → AreLaid start spans end → start ≤ end
laid_le start [] end h = omega (arith, h)
laid_le start (s ∷ ss) end h = omega (arith, laid_le (start + s.count) ss end h.1)

-- each range is within them
pub laid_within : (start : ℕ) (spans : List Span) (end : ℕ) → AreLaid start spans end → (i : ℕ) (span : Span) → slice_get spans i ≡ Some span → (start ≤ span.start) × (span.start + span.count ≤ end)
laid_within start [] end h i span e = absurd (none-some span e)
laid_within start (s ∷ ss) end h zero span e =
    subst (λ x. (start ≤ x.start) × (x.start + x.count ≤ end)) (same_Some s span e) (omega (arith, h.0), omega (arith, h.0, laid_le (start + s.count) ss end h.1))
laid_within start (s ∷ ss) end h (suc i) span e =
    let r = laid_within (start + s.count) ss end h.1 i span e in
    (omega (arith, r.0), r.1)

-- one range more
pub laid_push : (start : ℕ) (spans : List Span) (end : ℕ) → AreLaid start spans end → (parent : Option ScopeId) (n : ℕ) → AreLaid start (spans ++ record { parent = parent; start = end; count = n } ∷ []) (end + n)
laid_push start [] end h parent n = (sym h, ap (λ k. k + n) h)
laid_push start (s ∷ ss) end h parent n = (h.0, laid_push (start + s.count) ss end h.1 parent n)

module _ (cells : List (Option Value)) where
  -- the scopes and cells in all
  count_from : (start : ℕ) (spans : List Span) (end : ℕ) → AreLaid start spans end → end ≤ length cells → count_of (scopes_in cells spans) + start ≡ length spans + end
  count_from start [] end h within = omega (arith, h)
  count_from start (s ∷ ss) end h within =
      let rest : count_of (scopes_in cells ss) + (start + s.count) ≡ length ss + end = count_from (start + s.count) ss end h.1 within in
      let long : length (take s.count (drop s.start cells)) ≡ s.count = length-range cells s.start s.count (omega (arith, h.0, laid_le (start + s.count) ss end h.1)) in
      omega (arith, rest, long, sum_by-cons (λ (scope : Scope). suc (length scope.cells)) (scope_in cells s) (scopes_in cells ss))

  pub count_is : (spans : List Span) → AreLaid 0 spans (length cells) → count_of (scopes_in cells spans) ≡ length spans + length cells
  count_is spans h = omega (arith, count_from 0 spans (length cells) h (omega arith))

  -- the scopes stay where cells are added
  pub scopes_append : (more : List (Option Value)) (start : ℕ) (spans : List Span) (end : ℕ) → AreLaid start spans end → end ≤ length cells → scopes_in (cells ++ more) spans ≡ scopes_in cells spans
  scopes_append more start [] end h within = refl
  scopes_append more start (s ∷ ss) end h within =
      let inside : s.start + s.count ≤ length cells = omega (arith, h.0, laid_le (start + s.count) ss end h.1) in
      ap (λ (own : List (Option Value)). let scope : Scope = record { parent = s.parent; cells = own } in scope ∷ scopes_in (cells ++ more) ss) (range_append cells more s.start s.count inside)
      ∙ ap (λ (rest : List Scope). scope_in cells s ∷ rest) (scopes_append more (start + s.count) ss end h.1 within)

  -- the parents are those of the ranges
  pub parents_in : (spans : List Span) → parents_of (scopes_in cells spans) ≡ map (λ span. span.parent) spans
  parents_in [] = refl
  parents_in (s ∷ ss) = ap (λ (rest : List (Option ScopeId)). s.parent ∷ rest) (parents_in ss)

  -- the cell at a place
  abbrev pub cell_at : Option ℕ → Option Value
  cell_at place = option_and_then (λ p. held (slice_get cells p)) place

  module _ (spans : List Span) (laid : AreLaid 0 spans (length cells)) where
    slot_is : (span : Span) (slot : ℕ) → span.start + span.count ≤ length cells → held (slice_get (take span.count (drop span.start cells)) slot) ≡ cell_at (place_of_slot slot span)
    slot_is span slot within = by (nat_lt slot span.count) refl
      where
        by : (b : Bool) → nat_lt slot span.count ≡ b → held (slice_get (take span.count (drop span.start cells)) slot) ≡ cell_at (place_of_slot slot span)
        by true e = ap held (range_get cells span.start span.count slot None within (ltb-true slot span.count e)) ∙ sym (ap (λ b. cell_at (cond b (Some (span.start + slot)) None)) e)
        by false e = ap held (range_past cells span.start span.count slot within (ltb-false slot span.count e)) ∙ sym (ap (λ b. cell_at (cond b (Some (span.start + slot)) None)) e)

    cell_here : (slot : ℕ) (s : ScopeId) → cell_of (scopes_in cells spans) slot s ≡ cell_at (place_here spans slot s)
    cell_here slot s = ap (option_and_then (λ scope. held (slice_get scope.cells slot))) (slice_get-map (scope_in cells) spans s.0) ∙ by (slice_get spans s.0) refl
      where
        by : (o : Option Span) → slice_get spans s.0 ≡ o → option_and_then (λ scope. held (slice_get scope.cells slot)) (option_map (scope_in cells) (slice_get spans s.0)) ≡ cell_at (place_here spans slot s)
        by None e =
            ap (λ o. option_and_then (λ scope. held (slice_get scope.cells slot)) (option_map (scope_in cells) o)) e
            ∙ sym (ap (λ o. cell_at (option_and_then (place_of_slot slot) o)) e)
        by (Some span) e =
            ap (λ o. option_and_then (λ scope. held (slice_get scope.cells slot)) (option_map (scope_in cells) o)) e
            ∙ slot_is span slot (laid_within 0 spans (length cells) laid s.0 span e).1
            ∙ sym (ap (λ o. cell_at (option_and_then (place_of_slot slot) o)) e)

    -- a value is what stands at its place
    pub value_is : (s : ScopeId) (hops slot : ℕ) → value_at (scopes_in cells spans) s hops slot ≡ cell_at (place_in spans hops s slot)
    value_is s hops slot =
        ap (λ parents. option_and_then (cell_of (scopes_in cells spans) slot) (outer_of parents hops s)) (parents_in spans)
        ∙ by (outer_of (map (λ span. span.parent) spans) hops s)
      where
        by : (o : Option ScopeId) → option_and_then (cell_of (scopes_in cells spans) slot) o ≡ cell_at (option_and_then (place_here spans slot) o)
        by None = refl
        by (Some outer) = cell_here slot outer

    -- a place is one of the cells, in the range of its scope
    pub record StandsAt (slot : ℕ) (s : ScopeId) (p : ℕ) : Type 0 where
      pub span : Span
      pub there : slice_get spans s.0 ≡ Some span
      pub slot_within : slot < span.count
      pub place : span.start + slot ≡ p
      pub within : p < length cells

    pub stands_here : (slot : ℕ) (s : ScopeId) (p : ℕ) → place_here spans slot s ≡ Some p → StandsAt slot s p
    stands_here slot s p h = by (slice_get spans s.0) refl
      where
        in_span : (span : Span) → slice_get spans s.0 ≡ Some span → (b : Bool) → nat_lt slot span.count ≡ b → cond b (Some (span.start + slot)) None ≡ Some p → StandsAt slot s p
        in_span span e true less same =
            let place : span.start + slot ≡ p = same_Some (span.start + slot) p same in
            let inside : slot < span.count = ltb-true slot span.count less in
            let last : span.start + span.count ≤ length cells = (laid_within 0 spans (length cells) laid s.0 span e).1 in
            record { span = span; there = e; slot_within = inside; place = place; within = omega arith }
        in_span span e false less none = absurd (none-some p none)

        by : (o : Option Span) → slice_get spans s.0 ≡ o → StandsAt slot s p
        by None e = absurd (none-some p (sym (ap (option_and_then (place_of_slot slot)) e) ∙ h))
        by (Some span) e =
            in_span span e (nat_lt slot span.count) refl (sym (ap (option_and_then (place_of_slot slot)) e) ∙ h)

    -- the scope that is `hops` further out
    pub record Leads (s : ScopeId) (hops slot p : ℕ) : Type 0 where
      pub scope : ScopeId
      pub outer : outer_of (parents_of (scopes_in cells spans)) hops s ≡ Some scope
      pub here : place_here spans slot scope ≡ Some p

    pub leads : (s : ScopeId) (hops slot p : ℕ) → place_in spans hops s slot ≡ Some p → Leads s hops slot p
    leads s hops slot p h = by (outer_of (map (λ span. span.parent) spans) hops s) refl
      where
        by : (o : Option ScopeId) → outer_of (map (λ span. span.parent) spans) hops s ≡ o → Leads s hops slot p
        by None e = absurd (none-some p (sym (ap (option_and_then (place_here spans slot)) e) ∙ h))
        by (Some outer) e = record {
          scope = outer;
          outer = ap (λ parents. outer_of parents hops s) (parents_in spans) ∙ e;
          here = sym (ap (option_and_then (place_here spans slot)) e) ∙ h;
        }

-- a place is one of the cells
pub place_within : (cells : List (Option Value)) (spans : List Span) → AreLaid 0 spans (length cells) → (s : ScopeId) (hops slot p : ℕ) → place_in spans hops s slot ≡ Some p → p < length cells
place_within cells spans laid s hops slot p h =
    let to = leads cells spans laid s hops slot p h in
    (stands_here cells spans laid slot to.scope p to.here).within

-- a write to a cell
module _ (cells : List (Option Value)) (c : Option Value) where
  -- later scopes stay
  later_same : (p start : ℕ) (spans : List Span) (end : ℕ) → AreLaid start spans end → p < start → scopes_in (set cells p c) spans ≡ scopes_in cells spans
  later_same p start [] end h less = refl
  later_same p start (s ∷ ss) end h less =
      ap (λ (own : List (Option Value)). let scope : Scope = record { parent = s.parent; cells = own } in scope ∷ scopes_in (set cells p c) ss) (range_set_before cells s.start s.count p c (omega (arith, h.0)))
      ∙ ap (λ (rest : List Scope). scope_in cells s ∷ rest) (later_same p (start + s.count) ss end h.1 (omega arith))

  -- the scope with this cell, and the scope with the cell written
  abbrev pub written : Span → ℕ → Scope
  written span slot = record { parent = span.parent; cells = set (take span.count (drop span.start cells)) slot c }

  scopes_set : (start : ℕ) (spans : List Span) (end : ℕ) → AreLaid start spans end → (i : ℕ) (span : Span) → slice_get spans i ≡ Some span → (slot : ℕ) → slot < span.count
      → scopes_in (set cells (span.start + slot) c) spans ≡ set (scopes_in cells spans) i (written span slot)
  scopes_set start [] end h i span e slot less = absurd (none-some span e)
  scopes_set start (s ∷ ss) end h zero span e slot less =
      subst (λ x. slot < x.count → scopes_in (set cells (x.start + slot) c) (s ∷ ss) ≡ set (scopes_in cells (s ∷ ss)) zero (written x slot)) (same_Some s span e)
      (λ inside.
      ap (λ (own : List (Option Value)). let scope : Scope = record { parent = s.parent; cells = own } in scope ∷ scopes_in (set cells (s.start + slot) c) ss) (range_set_in cells s.start s.count slot c inside)
      ∙ ap (λ (rest : List Scope). written s slot ∷ rest) (later_same (s.start + slot) (start + s.count) ss end h.1 (omega (arith, h.0))))
      less
  scopes_set start (s ∷ ss) end h (suc i) span e slot less =
      let after : start + s.count ≤ span.start = (laid_within (start + s.count) ss end h.1 i span e).0 in
      let place : s.start + (span.start + slot - s.start) ≡ span.start + slot = omega (arith, h.0) in
      let behind : s.count ≤ span.start + slot - s.start = omega (arith, h.0) in
      let same : take s.count (drop s.start (set cells (span.start + slot) c)) ≡ take s.count (drop s.start cells) =
      ap (λ k. take s.count (drop s.start (set cells k c))) (sym place) ∙ range_set_behind cells s.start s.count (span.start + slot - s.start) c behind in
      ap (λ (own : List (Option Value)). let scope : Scope = record { parent = s.parent; cells = own } in scope ∷ scopes_in (set cells (span.start + slot) c) ss) same
      ∙ ap (λ (rest : List Scope). scope_in cells s ∷ rest) (scopes_set (start + s.count) ss end h.1 i span e slot less)

-- a value written to its place
pub cell_set : (cells : List (Option Value)) (spans : List Span) → AreLaid 0 spans (length cells) → (slot : ℕ) (v : Value) (s : ScopeId) (p : ℕ) → place_here spans slot s ≡ Some p
    → scopes_in (set cells p (Some v)) spans ≡ with_cell (scopes_in cells spans) slot v s
cell_set cells spans laid slot v s p h =
    let at = stands_here cells spans laid slot s p h in
    let there : slice_get (scopes_in cells spans) s.0 ≡ Some (scope_in cells at.span) = slice_get-map (scope_in cells) spans s.0 ∙ ap (option_map (scope_in cells)) at.there in
    ap (λ k. scopes_in (set cells k (Some v)) spans) (sym at.place)
    ∙ scopes_set cells (Some v) 0 spans (length cells) laid s.0 at.span at.there slot at.slot_within
    ∙ sym (ap (λ o. option_map_or (λ scope. slice_set (scopes_in cells spans) s.0 (record { parent = scope.parent; cells = slice_set scope.cells slot (Some v) })) o (scopes_in cells spans)) there)

-- the same, hops further out
pub value_set : (cells : List (Option Value)) (spans : List Span) → AreLaid 0 spans (length cells) → (s : ScopeId) (hops slot : ℕ) (v : Value) (p : ℕ) → place_in spans hops s slot ≡ Some p
    → scopes_in (set cells p (Some v)) spans ≡ with_value_at (scopes_in cells spans) s hops slot v
value_set cells spans laid s hops slot v p h =
    let to = leads cells spans laid s hops slot p h in
    cell_set cells spans laid slot v to.scope p to.here
    ∙ sym (ap (λ o. option_map_or (with_cell (scopes_in cells spans) slot v) o (scopes_in cells spans)) to.outer)

-- a cell that isn't there changes nothing
pub cell_missed : (cells : List (Option Value)) (spans : List Span) → AreLaid 0 spans (length cells) → (slot : ℕ) (v : Value) (s : ScopeId) → place_here spans slot s ≡ None
    → with_cell (scopes_in cells spans) slot v s ≡ scopes_in cells spans
cell_missed cells spans laid slot v s h = by (slice_get spans s.0) refl
  where
    writes : Scope → List Scope
    writes scope = slice_set (scopes_in cells spans) s.0 (record { parent = scope.parent; cells = slice_set scope.cells slot (Some v) })

    in_span : (span : Span) → slice_get spans s.0 ≡ Some span → (b : Bool) → nat_lt slot span.count ≡ b → cond b (Some (span.start + slot)) None ≡ None → slice_set (scopes_in cells spans) s.0 (record { parent = span.parent; cells = slice_set (take span.count (drop span.start cells)) slot (Some v) }) ≡ scopes_in cells spans
    in_span span e true less none = absurd (none-some (span.start + slot) (sym none))
    in_span span e false less none =
        let there : slice_get (scopes_in cells spans) s.0 ≡ Some (scope_in cells span) = slice_get-map (scope_in cells) spans s.0 ∙ ap (option_map (scope_in cells)) e in
        let long : length (take span.count (drop span.start cells)) ≡ span.count = length-range cells span.start span.count (laid_within 0 spans (length cells) laid s.0 span e).1 in
        let past : length (take span.count (drop span.start cells)) ≤ slot = omega (arith, long, ltb-false slot span.count less) in
        let own : get_or (scopes_in cells spans) s.0 (scope_in cells span) ≡ scope_in cells span = get_or_from_slice_get (scopes_in cells spans) s.0 (scope_in cells span) (scope_in cells span) there in
        ap (λ (cs : List (Option Value)). let scope : Scope = record { parent = span.parent; cells = cs } in set (scopes_in cells spans) s.0 scope) (set_past (take span.count (drop span.start cells)) slot (Some v) past)
        ∙ ap (λ (scope : Scope). set (scopes_in cells spans) s.0 scope) (sym own)
        ∙ set-get_or (scopes_in cells spans) s.0 (scope_in cells span)

    by : (o : Option Span) → slice_get spans s.0 ≡ o → with_cell (scopes_in cells spans) slot v s ≡ scopes_in cells spans
    by None e =
        let there : slice_get (scopes_in cells spans) s.0 ≡ None = slice_get-map (scope_in cells) spans s.0 ∙ ap (option_map (scope_in cells)) e in
        ap (λ o. option_map_or (λ scope. slice_set (scopes_in cells spans) s.0 (record { parent = scope.parent; cells = slice_set scope.cells slot (Some v) })) o (scopes_in cells spans)) there
    by (Some span) e =
        let there : slice_get (scopes_in cells spans) s.0 ≡ Some (scope_in cells span) = slice_get-map (scope_in cells) spans s.0 ∙ ap (option_map (scope_in cells)) e in
        ap (λ o. option_map_or (λ scope. slice_set (scopes_in cells spans) s.0 (record { parent = scope.parent; cells = slice_set scope.cells slot (Some v) })) o (scopes_in cells spans)) there
        ∙ in_span span e (nat_lt slot span.count) refl (sym (ap (option_and_then (place_of_slot slot)) e) ∙ h)

-- the scope that a fork copies
pub fork_is : (cells : List (Option Value)) (spans : List Span) (s : ScopeId) → fork_of (scopes_in cells spans) s ≡ scope_in cells (span_of spans s)
fork_is cells spans s =
    ap (λ o. unwrap_or o (record { parent = None; cells = [] })) (slice_get-map (scope_in cells) spans s.0) ∙ by (slice_get spans s.0)
  where
    by : (o : Option Span) → unwrap_or (option_map (scope_in cells) o) (record { parent = None; cells = [] }) ≡ scope_in cells (unwrap_or o (record { parent = None; start = 0; count = 0 }))
    by None = refl
    by (Some span) = refl

-- its range is there
pub span_within : (cells : List (Option Value)) (spans : List Span) → AreLaid 0 spans (length cells) → (s : ScopeId) → (span_of spans s).start + (span_of spans s).count ≤ length cells
span_within cells spans laid s = by (slice_get spans s.0) refl
  where
    by : (o : Option Span) → slice_get spans s.0 ≡ o → (span_of spans s).start + (span_of spans s).count ≤ length cells
    by None e =
        let is : span_of spans s ≡ record { parent = None; start = 0; count = 0 } = ap (λ o. unwrap_or o (record { parent = None; start = 0; count = 0 })) e in
        subst (λ (span : Span). span.start + span.count ≤ length cells) (sym is) (omega arith)
    by (Some span) e =
        let is : span_of spans s ≡ span = ap (λ o. unwrap_or o (record { parent = None; start = 0; count = 0 })) e in
        subst (λ (x : Span). x.start + x.count ≤ length cells) (sym is) (laid_within 0 spans (length cells) laid s.0 span e).1
