-- What the public calls promise, of a line of the grammar: a relation of trees, levels and tokens.
use Rattle.std.specs.Prelude.{◌≡◌, ℕ, ◌+◌, ◌<◌, ◌≤◌, Bool, true, length, drop, Result, IfOk}
use Rattle.actx_grammar.specs.declared.error.ParseError.{ParseError}
use Rattle.actx_grammar.specs.Tokens.{Tokens}
use Rattle.actx_grammar.specs.Laws.{Line}
use Rattle.actx_grammar.specs.Given.{Gives, OnNoTree, OnTooNested}

-- the line, where a closer stands behind it
abbrev pub UpTo : {A : Type 0} → (Tokens → Bool) → Line A → Line A
UpTo ends S = λ t h a b. S t h a b × (ends b ≡ true)

-- inside of `depth` nodes, no node has more than 200 nodes around it
abbrev pub Fits : ℕ → ℕ → Type 0
Fits depth levels = depth + levels ≤ 201

-- What is given is spelled from the place on, inside of `depth` nodes with none too deep, and the place behind it is one of
-- the tokens.
abbrev pub Spelled : {A : Type 0} → Line A → Tokens → ℕ → ℕ → Result (A × ℕ) ParseError → Type 0
Spelled S tokens from depth r = IfOk r (λ x. (h : ℕ) × S x.0 h (drop from tokens) (drop x.1 tokens) × Fits depth h × (x.1 ≤ length tokens))

-- What is spelled from the place on, with no node too deep, is given, unless memory runs out.
abbrev pub Given : {A : Type 0} → Line A → Tokens → ℕ → ℕ → Result (A × ℕ) ParseError → Type 0
Given {A = A} S tokens from depth r = (t : A) (h : ℕ) (b : Tokens) → S t h (drop from tokens) b → Fits depth h → Gives t b tokens r

-- Where the answer is NoTree, nothing is spelled from the place on, of any depth.
abbrev pub HasNoTree : {A : Type 0} → Line A → Tokens → ℕ → Result (A × ℕ) ParseError → Type 0
HasNoTree {A = A} S tokens from r = OnNoTree r ((t : A) (h : ℕ) (b : Tokens) → S t h (drop from tokens) b → ⊥)

-- Where the answer is TooNested, what is spelled from the place on has a node too deep.
abbrev pub IsTooNested : {A : Type 0} → Line A → Tokens → ℕ → ℕ → Result (A × ℕ) ParseError → Type 0
IsTooNested {A = A} S tokens from depth r = OnTooNested r ((t : A) (h : ℕ) (b : Tokens) → S t h (drop from tokens) b → 201 < depth + h)
