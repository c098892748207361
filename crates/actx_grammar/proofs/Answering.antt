-- From what a reader reads to what a public call says.
use Rattle.std.proofs.Common.{◌≡◌, ℕ, ◌-◌, ◌<◌, ◌≤◌, Bool, true, false, if◌then◌else◌, length, drop, Ok, Err, Result, refl, sym, ap, ◌∙◌, subst, arith}
use Rattle.actx_grammar.specs.declared.error.Cause.{Cause}
use Rattle.actx_grammar.specs.declared.error.Cause.TheVariants.{NoTree, TooNested}
use Rattle.actx_grammar.specs.Tokens.{Tokens}
use Rattle.actx_grammar.specs.Reader.{Outcome, Read}
use Rattle.actx_grammar.specs.Given.{ended}
use Rattle.actx_grammar.proofs.Past.{Ends, both, not_longer, drop_to, dropped}
use Rattle.actx_grammar.proofs.Gets.{Gets, got, deep}

value_or : {A : Type 0} → A → Result A Cause → A
value_or d (Ok p) = p
value_or d (Err e) = d

same_pair : {A : Type 0} (v w : A) (b c : Tokens) → (let r : Outcome A = Ok (v, b) in r) ≡ Ok (w, c) → (let p : A × Tokens = (v, b) in p) ≡ (w, c)
unfolding value_or
same_pair v w b c e = ap (value_or (v, b)) e

-- ---- of a spelling with an end that the test wants

-- what is read is that spelling
pub given_one : {A : Type 0} {lim h : ℕ} {o : Outcome (Read A)} {x : A} {b : Tokens} (v : Read A) (c : Tokens) → o ≡ Ok (v, c) → Gets lim h o (x, h) b → (v.0 ≡ x) × (c ≡ b)
given_one {x = x} {b = b} v c q (got l e) = let p = same_pair v (x, _) c b (sym q ∙ e) in (ap (λ (z : Read _ × Tokens). z.0.0) p, ap (λ (z : Read _ × Tokens). z.1) p)
given_one v c q (deep l e) = Prim.absurd (cc)

pub none_given : {A : Type 0} {lim h : ℕ} {o : Outcome A} {v : A} {b : Tokens} → o ≡ Err NoTree → Gets lim h o v b → ⊥
none_given q (got l e) = Prim.absurd (cc)
none_given q (deep l e) = Prim.absurd (cc)

pub sunk_given : {A : Type 0} {lim h : ℕ} {o : Outcome A} {v : A} {b : Tokens} → o ≡ Err TooNested → Gets lim h o v b → lim < h
sunk_given q (got l e) = Prim.absurd (cc)
sunk_given q (deep l e) = l

pub read_given : {A : Type 0} {lim h : ℕ} {o : Outcome A} {v : A} {b : Tokens} (w : A) (c : Tokens) → o ≡ Ok (w, c) → Gets lim h o v b → h ≤ lim
read_given w c q (got l e) = l
read_given w c q (deep l e) = Prim.absurd (cc)

-- with its end
pub gets_ended : {A : Type 0} {lim h : ℕ} {o : Outcome A} {v : A} {b : Tokens} (test : Tokens → Bool) → test b ≡ true → Gets lim h o v b → Gets lim h (ended test o) v b
unfolding ended
gets_ended {v = v} {b = b} test t (got l e) = got l (rw e (rw t refl))
gets_ended test t (deep l e) = deep l (rw e refl)

ended_by : {A : Type 0} (test : Tokens → Bool) (p : A × Tokens) (c : Bool) → test p.1 ≡ c → (v : A) (b : Tokens) → (if c then Ok p else Err NoTree) ≡ Ok (v, b) → (let o : Outcome A = Ok p in o ≡ Ok (v, b)) × (test b ≡ true)
ended_by test p true t v b e = (e, subst (λ (z : _ × Tokens). test z.1 ≡ true) (same_pair p.0 v p.1 b e) t)
ended_by test p false t v b e = Prim.absurd (cc)

-- what is read with its end is read
pub ended_ok : {A : Type 0} (test : Tokens → Bool) (o : Outcome A) (v : A) (b : Tokens) → ended test o ≡ Ok (v, b) → (o ≡ Ok (v, b)) × (test b ≡ true)
unfolding ended
ended_ok test (Ok p) v b e = ended_by test p (test p.1) refl v b e
ended_ok test (Err f) v b e = Prim.absurd (cc)

-- ---- places

pub place : {tokens c : Tokens} → Ends tokens c → drop (length tokens - length c) tokens ≡ c
place {tokens = tokens} {c = c} e = let s = not_longer e in drop_to (length tokens - length c) e (omega arith)

pub behind_from : (tokens : Tokens) (from : ℕ) {c : Tokens} → Ends (drop from tokens) c → Ends tokens c
behind_from tokens from e = both (dropped from tokens) e
