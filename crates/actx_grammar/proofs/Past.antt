-- What is left behind a spelling: a proper end of the tokens, or an end of them where the spelling may be empty.
use Rattle.std.proofs.Common.{◌≡◌, ℕ, zero, suc, ◌+◌, ◌<◌, ◌≤◌, [], ◌∷◌, length, drop, Option, Some, None, refl, subst, arith}
use Rattle.actx_lex.specs.declared.token.Token.{Token}
use Rattle.actx_grammar.specs.Kinds.{kind_of}
use Rattle.actx_grammar.specs.declared.bracket.Bracket.{Bracket}
use Rattle.actx_grammar.specs.Tokens.{Tokens, after_brackets, after_one, open_after}

pub data Past : Tokens → Tokens → Type 0 where
  here : {t : Token} {b : Tokens} → Past (t ∷ b) b
  there : {t : Token} {a b : Tokens} → Past a b → Past (t ∷ a) b

pub data Ends : Tokens → Tokens → Type 0 where
  whole : {a : Tokens} → Ends a a
  some : {a b : Tokens} → Past a b → Ends a b

pub join : {a m b : Tokens} → Past a m → Past m b → Past a b
join here e = there e
join (there d) e = there (join d e)

pub upto : {a m b : Tokens} → Past a m → Ends m b → Past a b
upto d whole = d
upto d (some e) = join d e

pub onto : {a m b : Tokens} → Ends a m → Past m b → Past a b
onto whole e = e
onto (some d) e = join d e

pub both : {a m b : Tokens} → Ends a m → Ends m b → Ends a b
both whole e = e
both (some d) e = some (upto d e)

pub shorter : {a b : Tokens} → Past a b → length b < length a
shorter here = omega arith
shorter (there d) = let e = shorter d in omega arith

pub not_longer : {a b : Tokens} → Ends a b → length b ≤ length a
not_longer whole = omega arith
not_longer (some d) = let e = shorter d in omega arith

pub drop_to : {a b : Tokens} (n : ℕ) → Ends a b → n + length b ≡ length a → drop n a ≡ b
drop_to zero whole e = refl
drop_to (suc n) whole e = Prim.absurd (omega arith)
drop_to n (some d) e = go n d e
  where
    go : {a b : Tokens} (n : ℕ) → Past a b → n + length b ≡ length a → drop n a ≡ b
    go zero here e = Prim.absurd (omega arith)
    go (suc zero) here e = refl
    go (suc (suc n)) here e = Prim.absurd (omega arith)
    go zero (there d) e = let s = shorter d in Prim.absurd (omega arith)
    go (suc n) (there d) e = go n d (omega arith)

pub dropped : (n : ℕ) (a : Tokens) → Ends a (drop n a)
dropped zero a = whole
dropped (suc n) [] = whole
dropped (suc n) (t ∷ a) = both (some here) (dropped n a)

past-one : (o : Option ℕ) (t : Token) (ts b : Tokens) (c : Bracket) → ((n : ℕ) → after_brackets c ts n ≡ Some b → Past ts b) → after_one o ts (after_brackets c ts) ≡ Some b → Past (t ∷ ts) b
past-one None t ts b c ih q = let e : ts ≡ b = cc in subst (λ z. Past (t ∷ ts) z) e here
past-one (Some n) t ts b c ih q = there (ih n q)

pub past-brackets : (c : Bracket) (a : Tokens) (n : ℕ) (b : Tokens) → after_brackets c a n ≡ Some b → Past a b
unfolding after_brackets
past-brackets c [] n b q = Prim.absurd (cc)
past-brackets c (t ∷ ts) n b q = past-one (open_after c (kind_of t.kind) n) t ts b c (λ n' e. past-brackets c ts n' b e) q
