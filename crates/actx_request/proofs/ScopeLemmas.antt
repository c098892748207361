-- How many scopes and cells there are after a cell is written.
use Rattle.std.proofs.Common.{◌≡◌, ℕ, suc, false, List, length, get_or, slice_get, slice_set, Option, Some, None, refl, sym, ap, ◌∙◌, arith}
use Rattle.std.proofs.Math.ListN.{length-set}
use Rattle.std.proofs.lemmas.Option.{get_or_from_slice_get, slice_get_within}
use Rattle.std.proofs.lemmas.List.Sums.{sum_by-set}
use Rattle.std.specs.Option.{option_map_or}
use Rattle.actx_value.specs.declared.ids.ScopeId.{ScopeId}
use Rattle.actx_value.specs.declared.value.Value.{Value}
use Rattle.actx_value.specs.declared.value.Value.TheVariants as values
use Rattle.actx_value.specs.declared.value.Answer.TheVariants.{Go}
use Rattle.actx_cells.specs.Scopes.{Scope, ScopeStore, count_of, parents_of, outer_of, with_cell, with_value_at}
use Rattle.actx_request.specs.declared.given.Given.TheVariants.{Answer}
use Rattle.actx_request.specs.Outcomes.{stores}
use Rattle.actx_request.specs.Limits.{MeetsCells, within, first_above}
use Rattle.actx_request.specs.Scopes.{init_at}
use Rattle.actx_request.proofs.Above.{cells_alone, kept}

-- a cell that is written changes no count
count-with_cell : (scopes : List Scope) (slot : ℕ) (v : Value) (s : ScopeId) → count_of (with_cell scopes slot v s) ≡ count_of scopes
count-with_cell scopes slot v s = by (slice_get scopes s.0) refl
  where
    by : (w : Option Scope) → slice_get scopes s.0 ≡ w → count_of (with_cell scopes slot v s) ≡ count_of scopes
    by None e = ap (λ w. count_of (option_map_or (λ x. slice_set scopes s.0 (record { parent = x.parent; cells = slice_set x.cells slot (Some v) })) w scopes)) e
    by (Some x) e =
        let long : length (slice_set x.cells slot (Some v)) ≡ length x.cells = length-set x.cells slot (Some v) in
        let read : suc (length (get_or scopes s.0 x).cells) ≡ suc (length x.cells) = ap (λ (y : Scope). suc (length y.cells)) (get_or_from_slice_get scopes s.0 x x e) in
        let same : count_of (slice_set scopes s.0 (record { parent = x.parent; cells = slice_set x.cells slot (Some v) })) ≡ count_of scopes =
        omega (arith, sum_by-set (λ (y : Scope). suc (length y.cells)) scopes s.0 (record { parent = x.parent; cells = slice_set x.cells slot (Some v) }) x (slice_get_within scopes s.0 x e)) in
        ap (λ w. count_of (option_map_or (λ x. slice_set scopes s.0 (record { parent = x.parent; cells = slice_set x.cells slot (Some v) })) w scopes)) e ∙ same

pub count-with_value_at : (scopes : List Scope) (s : ScopeId) (hops slot : ℕ) (v : Value) → count_of (with_value_at scopes s hops slot v) ≡ count_of scopes
count-with_value_at scopes s hops slot v = by (outer_of (parents_of scopes) hops s)
  where
    by : (w : Option ScopeId) → count_of (option_map_or (with_cell scopes slot v) w scopes) ≡ count_of scopes
    by None = refl
    by (Some outer) = count-with_cell scopes slot v outer

-- a cell that is written
pub cell_written : (s : ScopeId) (hops slot : ℕ) (v : Value) (c d : ScopeStore) → d ≡ record { scopes = with_value_at c.scopes s hops slot v; limit = c.limit } → MeetsCells (init_at s hops slot v) c (Answer (Go values.Undefined)) d
cell_written s hops slot v c d is o t =
    let after : ScopeStore = record { scopes = with_value_at c.scopes s hops slot v; limit = c.limit } in
    let same : count_of after.scopes ≡ count_of c.scopes = count-with_value_at c.scopes s hops slot v in
    let above : first_above (stores o t c) (stores o t after) ≡ None = cells_alone o t c after false (kept c.limit (count_of c.scopes) (count_of after.scopes) (omega arith)) in
    (sym (ap (within (Answer (Go values.Undefined))) above), ap (stores o t) is)
