-- What a public call says follows from what it reads.
use Rattle.std.proofs.Common.{◌≡◌, ℕ, ◌+◌, ◌-◌, ◌<◌, ◌≤◌, Bool, true, length, drop, Ok, Err, IfOk, Result, refl, subst, arith}
use Rattle.actx_tree.specs.declared.expr.Expr.{Expr}
use Rattle.actx_tree.specs.declared.pattern.Target.{Target}
use Rattle.actx_tree.specs.declared.pattern.Params.{Params}
use Rattle.actx_grammar.specs.declared.error.ParseError.{ParseError}
use Rattle.actx_grammar.specs.declared.error.ParseError.TheVariants.{NoTree, TooNested, Memory}
use Rattle.actx_grammar.specs.declared.line.Line.{Line}
use Rattle.actx_grammar.specs.declared.line.Line.TheVariants as line
use Rattle.actx_grammar.specs.Tokens.{Tokens, ends_expression, ends_assign, ends_left}
use Rattle.actx_grammar.specs.Reader.{Outcome, Read}
use Rattle.actx_grammar.specs.Patterns as patterns
use Rattle.actx_grammar.specs.Lines.{below}
use Rattle.actx_grammar.specs.Given.{ended, Gives, OnNoTree, OnTooNested, Answers}
use Rattle.actx_grammar.specs.Laws.{OneExpression, OneAssign, OneLeft, OneTarget, OneParams}
use Rattle.actx_grammar.specs.Grammar.{SpExpr, SpAssign, SpLeft, SpTarget, SpParams}
use Rattle.actx_grammar.proofs.Past.{Ends, some}
use Rattle.actx_grammar.proofs.PastLines.{past-expr, past-assign, past-unary, past-level, past-left, past-made, past-target, past-params}
use Rattle.actx_grammar.proofs.Following.{after_end, after_assign_end, after_left}
use Rattle.actx_grammar.proofs.Gets.{Gets, got, deep}
use Rattle.actx_grammar.proofs.GetPatterns.{get-params}
use Rattle.actx_grammar.proofs.SoundPatterns.{sound-params}
use Rattle.actx_grammar.proofs.SoundExprs.{sounds}
use Rattle.actx_grammar.proofs.Complete.{completes, room_is}
use Rattle.actx_grammar.proofs.Holds.{Holds, Low}
use Rattle.actx_grammar.proofs.Answering.{given_one, none_given, sunk_given, gets_ended, ended_ok}

-- a reader of a line, exact on both sides
pub record Reading {A : Type 0} (S : A → ℕ → Tokens → Tokens → Type 0) (test : Tokens → Bool) (o : ℕ → Tokens → Outcome (Read A)) : Type 0 where
  pub complete : (n : ℕ) (x : A) (h : ℕ) (a b : Tokens) → S x h a b → test b ≡ true → Gets n h (o n a) (x, h) b
  pub sound : (n : ℕ) (a : Tokens) (v : Read A) (b : Tokens) → o n a ≡ Ok (v, b) → (v.1 ≤ n) × S v.0 v.1 a b × (test b ≡ true)

module _ {A : Type 0} {S : A → ℕ → Tokens → Tokens → Type 0} {test : Tokens → Bool} {o : ℕ → Tokens → Outcome (Read A)} (law : Reading S test o) (tokens : Tokens) (from depth : ℕ) (within : depth ≤ 200) where
  abbrev Said : Result (A × ℕ) ParseError → Type 0
  Said r = Answers (o (201 - depth) (drop from tokens)) tokens r

  pub spelled : (r : Result (A × ℕ) ParseError) → Said r → IfOk r (λ x. (h : ℕ) × S x.0 h (drop from tokens) (drop x.1 tokens) × (depth + h ≤ 201))
  spelled (Ok x) z = let s = law.sound (201 - depth) (drop from tokens) (x.0, z.0) (drop x.1 tokens) z.1 in (z.0, s.1, let l = s.0 in omega arith)
  spelled (Err e) z = tt

  pub closed : (r : Result (A × ℕ) ParseError) → Said r → IfOk r (λ x. test (drop x.1 tokens) ≡ true)
  closed (Ok x) z = let s = law.sound (201 - depth) (drop from tokens) (x.0, z.0) (drop x.1 tokens) z.1 in s.2
  closed (Err e) z = tt

  pub placed : (r : Result (A × ℕ) ParseError) → Said r → IfOk r (λ x. x.1 ≤ length tokens)
  placed (Ok x) z = z.2
  placed (Err e) z = tt

  pub given : (r : Result (A × ℕ) ParseError) → Said r → (t : A) (h : ℕ) (b : Tokens) → S t h (drop from tokens) b → test b ≡ true → depth + h ≤ 201 → Gives t b tokens r
  given (Ok x) z t h b d e l = given_one (x.0, z.0) (drop x.1 tokens) z.1 (law.complete (201 - depth) t h (drop from tokens) b d e)
  given (Err (NoTree at)) z t h b d e l = none_given z (law.complete (201 - depth) t h (drop from tokens) b d e)
  given (Err (TooNested at)) z t h b d e l = let w = sunk_given z (law.complete (201 - depth) t h (drop from tokens) b d e) in Prim.absurd (omega arith)
  given (Err Memory) z t h b d e l = tt

  pub no_tree : (r : Result (A × ℕ) ParseError) → Said r → OnNoTree r ((t : A) (h : ℕ) (b : Tokens) → S t h (drop from tokens) b → test b ≡ true → ⊥)
  no_tree (Ok x) z = tt
  no_tree (Err (NoTree at)) z = λ t h b d e. none_given z (law.complete (201 - depth) t h (drop from tokens) b d e)
  no_tree (Err (TooNested at)) z = tt
  no_tree (Err Memory) z = tt

  pub too_nested : (r : Result (A × ℕ) ParseError) → Said r → OnTooNested r ((t : A) (h : ℕ) (b : Tokens) → S t h (drop from tokens) b → test b ≡ true → 201 < depth + h)
  too_nested (Ok x) z = tt
  too_nested (Err (NoTree at)) z = tt
  too_nested (Err (TooNested at)) z = λ t h b d e. (let w = sunk_given z (law.complete (201 - depth) t h (drop from tokens) b d e) in omega arith)
  too_nested (Err Memory) z = tt

-- two spellings of one text are one
pub one : {A : Type 0} {S : A → ℕ → Tokens → Tokens → Type 0} {test : Tokens → Bool} {o : ℕ → Tokens → Outcome (Read A)} → Reading S test o
    → (x y : A) (g h : ℕ) (a b c : Tokens) → S x g a b → S y h a c → test b ≡ true → test c ≡ true → (x ≡ y) × (b ≡ c)
one {A = A} {o = o} law x y g h a b c d e s t = go (law.complete (g + h) x g a b d s)
  where
    go : Gets (g + h) g (o (g + h) a) (x, g) b → (x ≡ y) × (b ≡ c)
    go (got l q) = given_one (x, g) b q (law.complete (g + h) y h a c e t)
    go (deep l q) = Prim.absurd (omega arith)

-- ---- the readers of the five lines

in_room : {A : Type 0} (n : ℕ) {h : ℕ} {o : Outcome A} {v : A} {b : Tokens} → Gets (below n).room h o v b → Gets n h o v b
in_room n {h = h} {o = o} {v = v} {b = b} g = subst (λ r. Gets r h o v b) (room_is n) g

low_is : {A : Type 0} {S : A → ℕ → Tokens → Tokens → Type 0} (n : ℕ) {a : Tokens} {v : Read A} {b : Tokens} → Low (below n).room S a v b → (v.1 ≤ n) × S v.0 v.1 a b
low_is n {v = v} d = (subst (λ r. v.1 ≤ r) (room_is n) d.low, d.is)

ended_sound : {A : Type 0} {S : A → ℕ → Tokens → Tokens → Type 0} (test : Tokens → Bool) (n : ℕ) (a : Tokens) (o : Outcome (Read A)) → Holds (Low (below n).room S a) o
    → (v : Read A) (b : Tokens) → ended test o ≡ Ok (v, b) → (v.1 ≤ n) × S v.0 v.1 a b × (test b ≡ true)
ended_sound test n a o s v b e = let q = ended_ok test o v b e in let d = low_is n (s.ok v b q.0) in (d.0, d.1, q.1)

pub reads-expression : Reading SpExpr ends_expression (λ n a. ended ends_expression ((below n).read line.Expr a))
reads-expression = record {
  complete = λ n x h a b d e. gets_ended ends_expression e (in_room n ((completes n).expr d (let l = after_end b e in omega arith)));
  sound = λ n a v b e. ended_sound ends_expression n a ((below n).read line.Expr a) ((sounds n).expr a) v b e;
}

pub reads-assign : Reading SpAssign ends_assign (λ n a. ended ends_assign ((below n).read line.Assign a))
reads-assign = record {
  complete = λ n x h a b d e. gets_ended ends_assign e (in_room n ((completes n).assign d (after_assign_end b e)));
  sound = λ n a v b e. ended_sound ends_assign n a ((below n).read line.Assign a) ((sounds n).assign a) v b e;
}

pub reads-left : Reading SpLeft ends_left (λ n a. ended ends_left ((below n).read line.Left a))
reads-left = record {
  complete = λ n x h a b d e. gets_ended ends_left e (in_room n ((completes n).left d (after_left b e)));
  sound = λ n a v b e. ended_sound ends_left n a ((below n).read line.Left a) ((sounds n).left a) v b e;
}

pub reads-target : Reading SpTarget (λ b. true) (λ n a. (below n).target a)
reads-target = record {
  complete = λ n x h a b d e. in_room n ((completes n).target d);
  sound = λ n a v b e. (let d = low_is n (((sounds n).target a).ok v b e) in (d.0, d.1, refl));
}

pub reads-params : Reading SpParams (λ b. true) (λ n a. patterns.params (below n) a)
reads-params = record {
  complete = λ n x h a b d e. in_room n (get-params (below n) (completes n) d);
  sound = λ n a v b e. (let d = low_is n ((sound-params (below n) (sounds n) a).ok v b e) in (d.0, d.1, refl));
}

pub one_expression : OneExpression
one_expression = one reads-expression

pub one_assign : OneAssign
one_assign = one reads-assign

pub one_left : OneLeft
one_left = one reads-left

pub one_target : OneTarget
one_target x y g h a b c d e = one reads-target x y g h a b c d e refl refl

pub one_params : OneParams
one_params x y g h a b c d e = one reads-params x y g h a b c d e refl refl

-- ---- what is read leaves an end of the tokens

pub line_ends : (n : ℕ) (l : Line) (a : Tokens) (v : Read Expr) (b : Tokens) → (below n).read l a ≡ Ok (v, b) → Ends a b
line_ends n line.Expr a v b e = some (past-expr (((sounds n).expr a).ok v b e).is)
line_ends n line.Assign a v b e = some (past-assign (((sounds n).assign a).ok v b e).is)
line_ends n line.Unary a v b e = some (past-unary (((sounds n).unary a).ok v b e).is)
line_ends n (line.Level l) a v b e = some (past-level (((sounds n).level l a).ok v b e).is)
line_ends n line.Left a v b e = some (past-left (((sounds n).left a).ok v b e).is)
line_ends n line.Made a v b e = some (past-made (((sounds n).made a).ok v b e).is)

pub target_ends : (n : ℕ) (a : Tokens) (v : Read Target) (b : Tokens) → (below n).target a ≡ Ok (v, b) → Ends a b
target_ends n a v b e = some (past-target (((sounds n).target a).ok v b e).is)

pub params_end : (n : ℕ) (a : Tokens) (v : Read Params) (b : Tokens) → patterns.params (below n) a ≡ Ok (v, b) → Ends a b
params_end n a v b e = some (past-params ((sound-params (below n) (sounds n) a).ok v b e).is)
