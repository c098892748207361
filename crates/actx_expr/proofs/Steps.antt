-- The definitions that recurse on a number, at a number that is not 0.
use Rattle.std.proofs.Common.{◌≡◌, ℕ, suc, ◌-◌, ◌<◌, refl, sym, subst, arith}
use Rattle.actx_grammar.specs.Tokens.{Tokens}
use Rattle.actx_grammar.specs.Reader.{Inner, and_then}
use Rattle.actx_grammar.specs.Lines.{level, chain_after}

pub level_above : (inner : Inner) (own : ℕ) (i : Tokens) → 0 < own → level inner own i ≡ and_then (level inner (own - 1) i) (chain_after inner own (own - 1))
unfolding level
level_above inner own i some =
    let e : own ≡ suc (own - 1) = omega arith in
    subst (λ n. level inner n i ≡ and_then (level inner (own - 1) i) (chain_after inner n (own - 1))) (sym e) refl
