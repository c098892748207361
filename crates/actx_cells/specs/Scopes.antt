-- Scopes by number, as their parents and cells (Declarative Environment Records, ECMA-262 §9.1.1.1).
use Rattle.std.specs.Prelude.{ℕ, zero, suc, List, [], Option, Some, None, length, map, replicate, slice_get, slice_set, sum_by, unwrap_or, option_and_then}
use Rattle.std.specs.Option.{option_map_or}
use Rattle.actx_value.specs.declared.ids.ScopeId.{ScopeId}
use Rattle.actx_value.specs.declared.value.Value.{Value}

-- the scope around it, and its cells from slot 0 on; a cell that was never initialised has no value
pub record Scope : Type 0 where
  pub parent : Option ScopeId
  pub cells : List (Option Value)

-- the scopes from number 0 on, and the most scopes and cells in all
pub record ScopeStore : Type 0 where
  pub scopes : List Scope
  pub limit : ℕ

-- a scope counts one, and each of its cells counts one
abbrev pub count_of : List Scope → ℕ
count_of scopes = sum_by (λ scope. suc (length scope.cells)) scopes

abbrev pub parents_of : List Scope → List (Option ScopeId)
parents_of scopes = map (λ scope. scope.parent) scopes

-- what an option of an option holds
abbrev pub held : {A : Type 0} → Option (Option A) → Option A
held None = None
held (Some o) = o

-- the scope that is this many hops further out
abbrev pub outer_of : List (Option ScopeId) → ℕ → ScopeId → Option ScopeId
outer_of parents zero s = Some s
outer_of parents (suc hops) s = option_and_then (outer_of parents hops) (held (slice_get parents s.0))

-- the value of a cell of this scope, where it is there and was initialised
abbrev pub cell_of : List Scope → ℕ → ScopeId → Option Value
cell_of scopes slot s = option_and_then (λ scope. held (slice_get scope.cells slot)) (slice_get scopes s.0)

-- the value of a cell, this many hops further out (GetBindingValue, §9.1.1.1.6)
abbrev pub value_at : List Scope → ScopeId → ℕ → ℕ → Option Value
value_at scopes s hops slot = option_and_then (cell_of scopes slot) (outer_of (parents_of scopes) hops s)

-- the scopes where a cell of this scope has this value; a cell that isn't there changes nothing
-- (InitializeBinding, §9.1.1.1.4)
abbrev pub with_cell : List Scope → ℕ → Value → ScopeId → List Scope
with_cell scopes slot v s =
    option_map_or (λ scope. slice_set scopes s.0 (record { parent = scope.parent; cells = slice_set scope.cells slot (Some v) })) (slice_get scopes s.0) scopes

-- the same, this many hops further out (SetMutableBinding, §9.1.1.1.5)
abbrev pub with_value_at : List Scope → ScopeId → ℕ → ℕ → Value → List Scope
with_value_at scopes s hops slot v = option_map_or (with_cell scopes slot v) (outer_of (parents_of scopes) hops s) scopes

-- a scope with this many cells that aren't initialised (NewDeclarativeEnvironment, §9.1.2.2)
abbrev pub new_scope : Option ScopeId → ℕ → Scope
new_scope parent n = record { parent = parent; cells = replicate n None }

-- a scope's parent and cells once more (CreatePerIterationEnvironment, §14.7.4.4); a scope that isn't
-- there gives one without parent and cells
abbrev pub fork_of : List Scope → ScopeId → Scope
fork_of scopes s = unwrap_or (slice_get scopes s.0) (record { parent = None; cells = [] })
