-- Function values that read what lies right in a statement.
use Rattle.std.specs.Prelude.{ℕ, ◌≤◌, Result, IfOk}
use Rattle.std.specs.declared.alloc.Global.{Global}
use denote.Ref.{MutBor}
use Rattle.actx_tree.specs.declared.stmt.Stmt.{Stmt}
use Rattle.actx_grammar.specs.declared.error.Cause.{Cause}
use Rattle.actx_grammar.specs.Tokens.{Tokens}
use Rattle.actx_grammar.specs.Reader.{Read}
use Rattle.actx_grammar.specs.Reads.{Reads}
use Rattle.actx_program.specs.StatementReader.{inside}

-- The first reads statements, the second items, each as the definition does that has room for so many levels; and there
-- are no more than 201 of them.
pub record Holds (room : ℕ) (pre : Global → MutBor Tokens → ℕ → Type 0)
    (post : Global → MutBor Tokens → ℕ → Result (Read Stmt) Cause → MutBor Tokens → Type 0)
    (item_pre : Global → MutBor Tokens → ℕ → Type 0)
    (item_post : Global → MutBor Tokens → ℕ → Result (Read Stmt) Cause → MutBor Tokens → Type 0) : Type 0 where
  pub bounded : room ≤ 201
  pub callable : (alloc : Global) (old : MutBor Tokens) → pre alloc old room
  pub reads : (alloc : Global) (old new : MutBor Tokens) (r : Result (Read Stmt) Cause) → post alloc old room r new
      → Reads ((inside room).stmt old.now) r new.now
  pub low : (alloc : Global) (old new : MutBor Tokens) (r : Result (Read Stmt) Cause) → post alloc old room r new → IfOk r (λ x. x.1 ≤ room)
  pub item_callable : (alloc : Global) (old : MutBor Tokens) → item_pre alloc old room
  pub item_reads : (alloc : Global) (old new : MutBor Tokens) (r : Result (Read Stmt) Cause) → item_post alloc old room r new
      → Reads ((inside room).item old.now) r new.now
  pub item_low : (alloc : Global) (old new : MutBor Tokens) (r : Result (Read Stmt) Cause) → item_post alloc old room r new → IfOk r (λ x. x.1 ≤ room)
