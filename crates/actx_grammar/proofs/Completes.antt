-- The readers of what lies in a node read all that is spelled.
use Rattle.std.proofs.Common.{ℕ, ◌+◌, ◌<◌}
use Rattle.actx_tree.specs.declared.expr.Expr.{Expr}
use Rattle.actx_tree.specs.declared.pattern.Target.{Target}
use Rattle.actx_grammar.specs.declared.line.Line.TheVariants as line
use Rattle.actx_grammar.specs.Tokens.{Tokens}
use Rattle.actx_grammar.specs.Reader.{Inner}
use Rattle.actx_grammar.specs.Grammar.{SpExpr, SpAssign, SpUnary, SpLevel, SpLeft, SpMade, SpTarget}
use Rattle.actx_grammar.proofs.Following.{after}
use Rattle.actx_grammar.proofs.Gets.{Gets}

pub record Completes (inner : Inner) : Type 0 where
  pub expr : {x : Expr} {h : ℕ} {a b : Tokens} → SpExpr x h a b → 12 < after b → Gets inner.room h (inner.read line.Expr a) (x, h) b
  pub assign : {x : Expr} {h : ℕ} {a b : Tokens} → SpAssign x h a b → 11 < after b → Gets inner.room h (inner.read line.Assign a) (x, h) b
  pub unary : {x : Expr} {h : ℕ} {a b : Tokens} → SpUnary x h a b → 2 < after b → Gets inner.room h (inner.read line.Unary a) (x, h) b
  pub level : (l : ℕ) {x : Expr} {h : ℕ} {a b : Tokens} → SpLevel l x h a b → 2 + l < after b → Gets inner.room h (inner.read (line.Level l) a) (x, h) b
  pub left : {x : Expr} {h : ℕ} {a b : Tokens} → SpLeft x h a b → 1 < after b → Gets inner.room h (inner.read line.Left a) (x, h) b
  pub made : {x : Expr} {h : ℕ} {a b : Tokens} → SpMade x h a b → Gets inner.room h (inner.read line.Made a) (x, h) b
  pub target : {x : Target} {h : ℕ} {a b : Tokens} → SpTarget x h a b → Gets inner.room h (inner.target a) (x, h) b
