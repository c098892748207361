-- The tokens of a text stand in order.
use Rattle.std.proofs.Common.{ℕ, ◌+◌, ◌-◌, ◌≤◌, Bool, List, [], ◌∷◌, length, ap, arith}
use Rattle.actx_lex.specs.declared.token.Token.{Token}
use Rattle.actx_lex.specs.Units.{Text}
use Rattle.actx_lex.specs.TokenLists.{Braces, TokensFrom, end, token, SpellsTokens, StandBetween}
use Rattle.actx_lex.proofs.GapItems.{opened-told, opened-short}
use Rattle.actx_lex.proofs.Gaps.{gap-short}
use Rattle.actx_lex.proofs.Classes.{token-short}

-- tokens that stand from a later place on stand from an earlier one on
earlier : (low low2 high : ℕ) (ts : List Token) → low2 ≤ low → StandBetween low high ts → StandBetween low2 high ts
earlier low low2 high [] l h = omega arith
earlier low low2 high (t ∷ ts) l h = let x = h.0 in (omega arith, h.1, h.2)

in-order : {n : ℕ} {s : Braces} {f : Bool} {ts : List Token} {a c : Text} → length a ≤ n → TokensFrom n s f ts a c → StandBetween (n - length a) n ts
in-order l (end g) = omega arith
in-order {n} l (token {ts = ts} {a = a} {m = m} {b = b} g r v d) =
    let x = gap-short g in
    let y = token-short r in
    let deep = in-order (omega arith) d in
    (omega arith, omega arith, deep)

pub tokens-in-order : {text : Text} {ts : List Token} → SpellsTokens ts text → StandBetween 0 (length text) ts
tokens-in-order {text} {ts} d =
    let x = opened-short text in
    let e = ap length (opened-told d.opened) in
    earlier (length text - length d.start) 0 (length text) ts (omega arith) (in-order (omega arith) d.spelled)

pub between-count : (low high : ℕ) (ts : List Token) → StandBetween low high ts → length ts + low ≤ high
between-count low high [] h = omega arith
between-count low high (t ∷ ts) h = let x = h.0 in let y = h.1 in let z = between-count t.to high ts h.2 in omega arith
