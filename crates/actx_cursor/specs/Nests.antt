-- Function values that read what lies right in a node.
use Rattle.std.specs.Prelude.{ℕ, ◌≤◌, Result, IfOk}
use Rattle.std.specs.declared.alloc.Global.{Global}
use denote.Ref.{MutBor}
use Rattle.actx_tree.specs.declared.expr.Expr.{Expr}
use Rattle.actx_tree.specs.declared.pattern.Target.{Target}
use Rattle.actx_grammar.specs.declared.error.Cause.{Cause}
use Rattle.actx_grammar.specs.declared.line.Line.{Line}
use Rattle.actx_grammar.specs.Tokens.{Tokens}
use Rattle.actx_grammar.specs.Reader.{Read, Inner}
use Rattle.actx_grammar.specs.Lines.{below}
use Rattle.actx_grammar.specs.Reads.{Reads}

-- The first reads the lines of the grammar, the second targets, each as the definition does that has room for so many
-- levels; and there are no more than 201 of them.
pub record Nests (room : ℕ) (pre : Global → MutBor Tokens → ℕ → Line → Type 0)
    (post : Global → MutBor Tokens → ℕ → Line → Result (Read Expr) Cause → MutBor Tokens → Type 0)
    (target_pre : Global → MutBor Tokens → ℕ → Type 0)
    (target_post : Global → MutBor Tokens → ℕ → Result (Read Target) Cause → MutBor Tokens → Type 0) : Type 0 where
  pub bounded : room ≤ 201
  pub callable : (alloc : Global) (old : MutBor Tokens) (l : Line) → pre alloc old room l
  pub reads : (alloc : Global) (old new : MutBor Tokens) (l : Line) (r : Result (Read Expr) Cause) → post alloc old room l r new
      → Reads ((below room).read l old.now) r new.now
  pub low : (alloc : Global) (old new : MutBor Tokens) (l : Line) (r : Result (Read Expr) Cause) → post alloc old room l r new
      → IfOk r (λ x. x.1 ≤ room)
  pub target_callable : (alloc : Global) (old : MutBor Tokens) → target_pre alloc old room
  pub target_reads : (alloc : Global) (old new : MutBor Tokens) (r : Result (Read Target) Cause) → target_post alloc old room r new
      → Reads ((below room).target old.now) r new.now
  pub target_low : (alloc : Global) (old new : MutBor Tokens) (r : Result (Read Target) Cause) → target_post alloc old room r new
      → IfOk r (λ x. x.1 ≤ room)
