-- What the public calls promise follows from what they read.
use Rattle.std.proofs.Common.{◌≡◌, ℕ, ◌+◌, ◌-◌, ◌<◌, ◌≤◌, Bool, true, false, length, drop, Ok, Err, Result, refl, sym, ap, ◌∙◌, subst, arith}
use Rattle.actx_grammar.specs.declared.error.Cause.{Cause}
use Rattle.actx_grammar.specs.declared.error.Cause.TheVariants as cause
use Rattle.actx_grammar.specs.declared.error.ParseError.{ParseError}
use Rattle.actx_grammar.specs.declared.error.ParseError.TheVariants.{NoTree, TooNested, Memory}
use Rattle.actx_grammar.specs.Tokens.{Tokens}
use Rattle.actx_grammar.specs.Laws.{Line}
use Rattle.actx_grammar.specs.Reader.{Outcome, Read}
use Rattle.actx_grammar.specs.Reads.{Reads}
use Rattle.actx_grammar.specs.Given.{Answers, FailsBy, ended}
use Rattle.actx_grammar.proofs.Past.{Ends, not_longer}
use Rattle.actx_grammar.proofs.Answering.{given_one, none_given, sunk_given, place, behind_from}
use Rattle.actx_grammar.proofs.TopLaws.{Reading}
use Rattle.actx_expr.specs.Calls.{UpTo, Spelled, Given, HasNoTree, IsTooNested}

-- ---- of a line with a closer behind it

module _ {A : Type 0} {S : A → ℕ → Tokens → Tokens → Type 0} {test : Tokens → Bool} {o : ℕ → Tokens → Outcome (Read A)} (law : Reading S test o) (tokens : Tokens) (from depth : ℕ) (within : depth ≤ 200) where
  pub spelled_to : (r : Result (A × ℕ) ParseError) → Answers (o (201 - depth) (drop from tokens)) tokens r → Spelled (UpTo test S) tokens from depth r
  spelled_to (Ok x) z = let s = law.sound (201 - depth) (drop from tokens) (x.0, z.0) (drop x.1 tokens) z.1 in (z.0, (s.1, s.2), (let l = s.0 in omega arith), z.2)
  spelled_to (Err e) z = tt

  pub given_to : (r : Result (A × ℕ) ParseError) → Answers (o (201 - depth) (drop from tokens)) tokens r → Given (UpTo test S) tokens from depth r
  given_to (Ok x) z t h b d l = given_one (x.0, z.0) (drop x.1 tokens) z.1 (law.complete (201 - depth) t h (drop from tokens) b d.0 d.1)
  given_to (Err (NoTree at)) z t h b d l = none_given z (law.complete (201 - depth) t h (drop from tokens) b d.0 d.1)
  given_to (Err (TooNested at)) z t h b d l = let w = sunk_given z (law.complete (201 - depth) t h (drop from tokens) b d.0 d.1) in Prim.absurd (omega arith)
  given_to (Err Memory) z t h b d l = tt

  pub none_to : (r : Result (A × ℕ) ParseError) → Answers (o (201 - depth) (drop from tokens)) tokens r → HasNoTree (UpTo test S) tokens from r
  none_to (Ok x) z = tt
  none_to (Err (NoTree at)) z = λ t h b d. none_given z (law.complete (201 - depth) t h (drop from tokens) b d.0 d.1)
  none_to (Err (TooNested at)) z = tt
  none_to (Err Memory) z = tt

  pub nested_to : (r : Result (A × ℕ) ParseError) → Answers (o (201 - depth) (drop from tokens)) tokens r → IsTooNested (UpTo test S) tokens from depth r
  nested_to (Ok x) z = tt
  nested_to (Err (NoTree at)) z = tt
  nested_to (Err (TooNested at)) z = λ t h b d. (let w = sunk_given z (law.complete (201 - depth) t h (drop from tokens) b d.0 d.1) in omega arith)
  nested_to (Err Memory) z = tt

-- ---- of a line that ends by itself

module _ {A : Type 0} {S : A → ℕ → Tokens → Tokens → Type 0} {o : ℕ → Tokens → Outcome (Read A)} (law : Reading S (λ b. true) o) (tokens : Tokens) (from depth : ℕ) (within : depth ≤ 200) where
  pub spelled_by : (r : Result (A × ℕ) ParseError) → Answers (o (201 - depth) (drop from tokens)) tokens r → Spelled S tokens from depth r
  spelled_by (Ok x) z = let s = law.sound (201 - depth) (drop from tokens) (x.0, z.0) (drop x.1 tokens) z.1 in (z.0, s.1, (let l = s.0 in omega arith), z.2)
  spelled_by (Err e) z = tt

  pub given_by : (r : Result (A × ℕ) ParseError) → Answers (o (201 - depth) (drop from tokens)) tokens r → Given S tokens from depth r
  given_by (Ok x) z t h b d l = given_one (x.0, z.0) (drop x.1 tokens) z.1 (law.complete (201 - depth) t h (drop from tokens) b d refl)
  given_by (Err (NoTree at)) z t h b d l = none_given z (law.complete (201 - depth) t h (drop from tokens) b d refl)
  given_by (Err (TooNested at)) z t h b d l = let w = sunk_given z (law.complete (201 - depth) t h (drop from tokens) b d refl) in Prim.absurd (omega arith)
  given_by (Err Memory) z t h b d l = tt

  pub none_by : (r : Result (A × ℕ) ParseError) → Answers (o (201 - depth) (drop from tokens)) tokens r → HasNoTree S tokens from r
  none_by (Ok x) z = tt
  none_by (Err (NoTree at)) z = λ t h b d. none_given z (law.complete (201 - depth) t h (drop from tokens) b d refl)
  none_by (Err (TooNested at)) z = tt
  none_by (Err Memory) z = tt

  pub nested_by : (r : Result (A × ℕ) ParseError) → Answers (o (201 - depth) (drop from tokens)) tokens r → IsTooNested S tokens from depth r
  nested_by (Ok x) z = tt
  nested_by (Err (NoTree at)) z = tt
  nested_by (Err (TooNested at)) z = λ t h b d. (let w = sunk_given z (law.complete (201 - depth) t h (drop from tokens) b d refl) in omega arith)
  nested_by (Err Memory) z = tt

-- ---- from what a reader leaves to a place

-- a tree, and the place where the tokens c begin
pub answers_ok : {A : Type 0} (tokens : Tokens) (from at : ℕ) (o : Outcome (Read A)) (x : A) (h : ℕ) (c : Tokens) → o ≡ Ok ((x, h), c) → Ends (drop from tokens) c
    → at ≡ length tokens - length c → Answers o tokens (Ok (x, at))
answers_ok tokens from at o x h c q e l =
    let p : drop at tokens ≡ c = rw l (place (behind_from tokens from e)) in
    (h, subst (λ (b : Tokens). o ≡ Ok ((x, h), b)) (sym p) q, omega arith)

-- the error of a cause
pub answers_err : {A : Type 0} (tokens : Tokens) (o : Outcome (Read A)) (e : Cause) (new : Tokens) (f : ParseError)
    → Reads o (Err e) new → FailsBy e f → Answers o tokens (Err f)
answers_err tokens o cause.NoTree new (NoTree at) z w = z (λ q. cc)
answers_err tokens o cause.TooNested new (TooNested at) z w = z (λ q. cc)
answers_err tokens o cause.Memory new Memory z w = tt
answers_err tokens o cause.NoTree new (TooNested at) z w = absurd w
answers_err tokens o cause.NoTree new Memory z w = absurd w
answers_err tokens o cause.TooNested new (NoTree at) z w = absurd w
answers_err tokens o cause.TooNested new Memory z w = absurd w
answers_err tokens o cause.Memory new (NoTree at) z w = absurd w
answers_err tokens o cause.Memory new (TooNested at) z w = absurd w

-- the same of a line that is to have a closer behind it
pub ended_yes : {A : Type 0} (test : Tokens → Bool) (o : Outcome A) (v : A) (c : Tokens) → o ≡ Ok (v, c) → test c ≡ true → ended test o ≡ Ok (v, c)
unfolding ended
ended_yes test o v c q t = rw q (rw t refl)

pub ended_no : {A : Type 0} (test : Tokens → Bool) (o : Outcome A) (v : A) (c : Tokens) → o ≡ Ok (v, c) → test c ≡ false → ended test o ≡ Err cause.NoTree
unfolding ended
ended_no test o v c q t = rw q (rw t refl)

pub ended_err : {A : Type 0} (test : Tokens → Bool) (o : Outcome A) (e : Cause) (new : Tokens) → Reads o (Err e) new → (let r : Result A Cause = Err e in Reads (ended test o) r new)
unfolding ended
ended_err test o e new z = λ n. rw (z n) refl
