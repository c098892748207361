-- Requests on scopes and their cells.
use Rattle.std.specs.Prelude.{ℕ, [], ◌∷◌, ◌++◌, length, Option, Some, None}
use Rattle.actx_value.specs.declared.ids.ScopeId.{ScopeId}
use Rattle.actx_value.specs.declared.value.Value.{Value}
use Rattle.actx_value.specs.declared.value.Value.TheVariants.{Undefined, Scope as InScope}
use Rattle.actx_value.specs.declared.error_kind.ErrorKind.TheVariants.{ReferenceError}
use Rattle.actx_cells.specs.Scopes.{Scope, new_scope, fork_of, value_at, with_value_at}
use Rattle.actx_request.specs.Outcomes.{Stores, Outcome, gives, throws, with_scopes}

-- one more scope
abbrev pub adds_scope : Scope → Stores → Outcome
adds_scope scope s = gives (InScope (record { 0 = length s.cells.scopes })) (with_scopes (s.cells.scopes ++ scope ∷ []) s)

-- Scope (NewDeclarativeEnvironment, ECMA-262 §9.1.2.2)
abbrev pub scope_in : ScopeId → ℕ → Stores → Outcome
scope_in parent n s = adds_scope (new_scope (Some parent) n) s

-- Fork (CreatePerIterationEnvironment, §14.7.4.4)
abbrev pub fork_at : ScopeId → Stores → Outcome
fork_at scope s = adds_scope (fork_of s.cells.scopes scope) s

-- Init (InitializeBinding, §9.1.1.1.4): the cell, so many scopes further out, has this value; a cell that isn't there
-- changes nothing
abbrev pub init_at : ScopeId → ℕ → ℕ → Value → Stores → Outcome
init_at scope hops slot v s = gives Undefined (with_scopes (with_value_at s.cells.scopes scope hops slot v) s)

-- a cell that was never initialised, or isn't there, is ReferenceError 0
abbrev pub where_initialised : Option Value → (Value → Stores → Outcome) → Stores → Outcome
where_initialised None f s = throws (ReferenceError 0) s
where_initialised (Some v) f s = f v s

-- Load (GetBindingValue, §9.1.1.1.6)
abbrev pub load_at : ScopeId → ℕ → ℕ → Stores → Outcome
load_at scope hops slot s = where_initialised (value_at s.cells.scopes scope hops slot) gives s

-- Store (SetMutableBinding, §9.1.1.1.5)
abbrev pub store_at : ScopeId → ℕ → ℕ → Value → Stores → Outcome
store_at scope hops slot v s = where_initialised (value_at s.cells.scopes scope hops slot) (λ _. init_at scope hops slot v) s
