-- What the readers of what lies in a node read is spelled.
use Rattle.std.proofs.Common.{ℕ}
use Rattle.actx_grammar.specs.declared.line.Line.TheVariants as line
use Rattle.actx_grammar.specs.Tokens.{Tokens}
use Rattle.actx_grammar.specs.Reader.{Inner}
use Rattle.actx_grammar.specs.Grammar.{SpExpr, SpAssign, SpUnary, SpLevel, SpLeft, SpMade, SpTarget}
use Rattle.actx_grammar.proofs.Holds.{Holds, Low}

pub record Sounds (inner : Inner) : Type 0 where
  pub expr : (a : Tokens) → Holds (Low inner.room SpExpr a) (inner.read line.Expr a)
  pub assign : (a : Tokens) → Holds (Low inner.room SpAssign a) (inner.read line.Assign a)
  pub unary : (a : Tokens) → Holds (Low inner.room SpUnary a) (inner.read line.Unary a)
  pub level : (l : ℕ) (a : Tokens) → Holds (Low inner.room (SpLevel l) a) (inner.read (line.Level l) a)
  pub left : (a : Tokens) → Holds (Low inner.room SpLeft a) (inner.read line.Left a)
  pub made : (a : Tokens) → Holds (Low inner.room SpMade a) (inner.read line.Made a)
  pub target : (a : Tokens) → Holds (Low inner.room SpTarget a) (inner.target a)
