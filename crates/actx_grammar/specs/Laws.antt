-- Laws of the grammar: two spellings of one text are one, and what a spelled tree has against its tokens.
use Rattle.std.specs.Prelude.{◌≡◌, ℕ, ◌+◌, ◌*◌, ◌≤◌, true, length}
use Rattle.actx_tree.specs.declared.expr.Expr.{Expr}
use Rattle.actx_tree.specs.declared.pattern.Target.{Target}
use Rattle.actx_tree.specs.declared.pattern.Params.{Params}
use Rattle.actx_tree.specs.Bodies.{Found}
use Rattle.actx_grammar.specs.Weights.{weight, reach}
use Rattle.actx_grammar.specs.Tokens.{Tokens, ends_expression, ends_assign, ends_left}
use Rattle.actx_grammar.specs.Grammar.{SpExpr, SpAssign, SpLeft, SpTarget, SpParams}

abbrev pub OneExpression : Type 0
OneExpression = (x y : Expr) (g h : ℕ) (a b c : Tokens) → SpExpr x g a b → SpExpr y h a c → ends_expression b ≡ true → ends_expression c ≡ true → (x ≡ y) × (b ≡ c)

abbrev pub OneAssign : Type 0
OneAssign = (x y : Expr) (g h : ℕ) (a b c : Tokens) → SpAssign x g a b → SpAssign y h a c → ends_assign b ≡ true → ends_assign c ≡ true → (x ≡ y) × (b ≡ c)

abbrev pub OneLeft : Type 0
OneLeft = (x y : Expr) (g h : ℕ) (a b c : Tokens) → SpLeft x g a b → SpLeft y h a c → ends_left b ≡ true → ends_left c ≡ true → (x ≡ y) × (b ≡ c)

abbrev pub OneTarget : Type 0
OneTarget = (x y : Target) (g h : ℕ) (a b c : Tokens) → SpTarget x g a b → SpTarget y h a c → (x ≡ y) × (b ≡ c)

abbrev pub OneParams : Type 0
OneParams = (x y : Params) (g h : ℕ) (a b c : Tokens) → SpParams x g a b → SpParams y h a c → (x ≡ y) × (b ≡ c)

-- ---- what a spelled tree has against its tokens. A line of the grammar is a relation of trees, levels and tokens.

abbrev pub Line : Type 0 → Type 1
Line A = A → ℕ → Tokens → Tokens → Type 0

-- its size is at most 16 for each token that stands in no function body
abbrev pub IsSmall : {A : Type 0} → Line A → (A → ℕ) → (A → Found) → Type 0
IsSmall {A = A} S size bodies = (x : A) (h d : ℕ) (a b : Tokens) → S x h a b → size x + 16 * weight (bodies x d) + 16 * length b ≤ 16 * length a

-- the levels that the spelling counts are those of the tree, and there are no more of them than tokens
abbrev pub CountsLevels : {A : Type 0} → Line A → (A → ℕ) → Type 0
CountsLevels {A = A} S levels = (x : A) (h : ℕ) (a b : Tokens) → S x h a b → (levels x ≡ h) × (h + length b ≤ length a)

-- a function body in it lies no deeper than there are tokens around it
abbrev pub IsReached : {A : Type 0} → Line A → (A → Found) → Type 0
IsReached {A = A} S bodies = (x : A) (h d : ℕ) (a b : Tokens) → S x h a b → reach (bodies x d) + 1 + length b ≤ d + length a
