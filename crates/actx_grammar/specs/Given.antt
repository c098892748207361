-- What the public calls give.
use Rattle.std.specs.Prelude.{◌≡◌, ℕ, ◌≤◌, Bool, if◌then◌else◌, length, drop, Result, Ok, Err}
use Rattle.actx_grammar.specs.declared.error.Cause.{Cause}
use Rattle.actx_grammar.specs.declared.error.Cause.TheVariants as cause
use Rattle.actx_grammar.specs.declared.error.ParseError.{ParseError}
use Rattle.actx_grammar.specs.declared.error.ParseError.TheVariants.{NoTree, TooNested, Memory}
use Rattle.actx_grammar.specs.declared.end.End.{End}
use Rattle.actx_grammar.specs.declared.end.End.TheVariants as end
use Rattle.actx_grammar.specs.Tokens.{Tokens, ends_expression, ends_assign, ends_left}
use Rattle.actx_grammar.specs.Reader.{Outcome, Read}

-- the tokens end a line of the grammar
abbrev pub closes : End → Tokens → Bool
closes end.Expression = ends_expression
closes end.Assign = ends_assign
closes end.Left = ends_left

-- what is read, if it ends as the test wants
unfoldable pub ended : {A : Type 0} → (Tokens → Bool) → Outcome A → Outcome A
ended test (Ok p) = if test p.1 then Ok p else Err cause.NoTree
ended test (Err e) = Err e

-- the tree, and the place where b begins, or want of memory
abbrev pub Gives : {A : Type 0} → A → Tokens → Tokens → Result (A × ℕ) ParseError → Type 0
Gives t b tokens (Ok x) = (x.0 ≡ t) × (drop x.1 tokens ≡ b)
Gives t b tokens (Err Memory) = Unit {0}
Gives t b tokens (Err (NoTree at)) = ⊥
Gives t b tokens (Err (TooNested at)) = ⊥

-- the fact, if the answer is NoTree
abbrev pub OnNoTree : {A : Type 0} → Result A ParseError → Type 0 → Type 0
OnNoTree (Err (NoTree at)) P = P
OnNoTree _ P = Unit {0}

-- the fact, if the answer is TooNested
abbrev pub OnTooNested : {A : Type 0} → Result A ParseError → Type 0 → Type 0
OnTooNested (Err (TooNested at)) P = P
OnTooNested _ P = Unit {0}

-- the answer is what the definition reads, unless memory fails
abbrev pub Answers : {A : Type 0} → Outcome (Read A) → Tokens → Result (A × ℕ) ParseError → Type 0
Answers outcome tokens (Ok x) = (h : ℕ) × (outcome ≡ Ok ((x.0, h), drop x.1 tokens)) × (x.1 ≤ length tokens)
Answers outcome tokens (Err (NoTree at)) = outcome ≡ Err cause.NoTree
Answers outcome tokens (Err (TooNested at)) = outcome ≡ Err cause.TooNested
Answers outcome tokens (Err Memory) = Unit {0}

-- the error of a cause
abbrev pub FailsBy : Cause → ParseError → Type 0
FailsBy cause.NoTree (NoTree at) = Unit {0}
FailsBy cause.TooNested (TooNested at) = Unit {0}
FailsBy cause.Memory Memory = Unit {0}
FailsBy _ _ = ⊥
