-- A text has at most one token list: by the relation alone.
use Rattle.std.proofs.Common.{◌≡◌, ℕ, ◌-◌, Bool, true, false, List, [], ◌∷◌, ◌++◌, length, take, Option, Some, None, refl, sym, ap, ◌∙◌, subst, arith}
use Rattle.actx_lex.specs.declared.token.TokenKind.{TokenKind}
use Rattle.actx_lex.specs.declared.token.TokenKind.TheVariants as k
use Rattle.actx_lex.specs.declared.token.Token.{Token}
use Rattle.actx_lex.specs.Units.{Text, rest}
use Rattle.actx_lex.specs.Words.{WordRest}
use Rattle.actx_lex.specs.Templates.{TemplatePiece}
use Rattle.actx_lex.specs.TokenAt as at
use Rattle.actx_lex.specs.TokenAt.{word_kind, TokenAt, Longest}
use Rattle.actx_lex.specs.TokenLists.{Braces, in_template, braces_after, TokensFrom, end, token, SpellsTokens}
use Rattle.actx_lex.specs.Readers.{after_character}
use Rattle.actx_lex.specs.Scans.{Found}
use Rattle.actx_lex.proofs.Gaps.{same_gap}
use Rattle.actx_lex.proofs.Words.{found, longer, front, word-first}
use Rattle.actx_lex.proofs.Numbers.{number-only}
use Rattle.actx_lex.proofs.Quotes.{quoted-only, piece-only}
use Rattle.actx_lex.proofs.Signs.{sign-longest}
use Rattle.actx_lex.proofs.Classes.{kind-class, classed, ungapped, token-short}
use Rattle.actx_lex.proofs.OneKind.{word-token, number-token, text-token, first-token, later-token, piece-token, sign-token}
use Rattle.actx_lex.proofs.Runs.{made, one_token, nothing, from_start}

-- the longest token at a place is the one that a reader finds
longest-found : {i : Bool} {j : TokenKind} {a b : Text} → TokenAt i j a b → Longest i a b → Found (TokenAt i) a j b
longest-found {i} {j} {a} {b} (at.word {us = us} w) l = let f = word-first w in by f.0 f.1 f.2 f.3 (after_character false b) refl
  where
    by : (m : Text) → after_character true a ≡ Some m → WordRest m b → a ≡ us ++ b → (o : Option Text) → after_character false b ≡ o → Found (TokenAt i) a (word_kind us) b
    by m r d e None n = word-token i a us b (classed {i = i} (at.word w) ∙ kind-class us) (found a m b us r d n (front a us b e))
    by m r d e (Some n) s =
        let x = longer a m b n r d s in
        let y = l (word_kind (take (length a - length n) a)) n (at.word x.0) in
        let z = x.1 in Prim.absurd (omega arith)
longest-found {i} {j} {a} {b} (at.number {n = n} w) l = number-token i a n b (classed {i = i} (at.number w)) (number-only w)
longest-found {i} {j} {a} {b} (at.text {us = us} w) l = text-token i a us b (classed {i = i} (at.text w)) (quoted-only w)
longest-found {i} {j} {a} {b} (at.first_piece {us = us} {closes = e} h w) l =
    first-token i a (k.Template us true e) b (h ∙ ap (λ x. 96 ∷ x) (sym (ap rest h))) (classed {i = i} (at.first_piece h w))
    (piece-token true (rest a) us b e (piece-only (subst (λ x. TemplatePiece (us, e) x b) (sym (ap rest h)) w)))
longest-found {i} {j} {a} {b} (at.later_piece {us = us} {closes = e} t h w) l =
    later-token i a (k.Template us false e) b t (h ∙ ap (λ x. 125 ∷ x) (sym (ap rest h))) (classed {i = i} (at.later_piece t h w))
    (piece-token false (rest a) us b e (piece-only (subst (λ x. TemplatePiece (us, e) x b) (sym (ap rest h)) w)))
longest-found {i} {j} {a} {b} (at.sign {s = s} w) l =
    sign-token i a s b (classed {i = i} (at.sign w)) (sign-longest i a b s w (λ t e g. l (k.Punct t) e (at.sign g)))

pub unique : {n : ℕ} {s : Braces} {f : Bool} {a : Text} {ts us : List Token} → TokensFrom n s f ts a [] → TokensFrom n s f us a [] → ts ≡ us
unique (end g) (end d) = refl
unique (end g) (token {m = m} d r l k) = let x = same_gap g nothing d (ungapped r) in let y = token-short r in let z = ap length x.1 in Prim.absurd (omega arith)
unique (token {m = m} d r l k) (end g) = let x = same_gap g nothing d (ungapped r) in let y = token-short r in let z = ap length x.1 in Prim.absurd (omega arith)
unique {n} {s} {f} (token {e = e} {j = j} {ts = ts} {m = m} {b = b} g q v h) (token {e = e2} {j = j2} {ts = us} {m = m2} {b = b2} d r l k) =
    let x = same_gap d (ungapped r) g (ungapped q) in
    let y = one_token (longest-found q v) (subst (λ z. TokenAt (in_template s) j2 z b2) x.1 r) (subst (λ z. Longest (in_template s) z b2) x.1 l) in
    let more = subst (λ z. TokensFrom n (braces_after z s) false us b []) y.0 (subst (λ z. TokensFrom n (braces_after j2 s) false us z []) y.1 k) in
    let same = ap (λ z. made n f z j2 m2 b2) x.0 ∙ ap (λ z. made n f e j2 z b2) x.1 ∙ ap (λ z. made n f e z m b2) y.0 ∙ ap (λ z. made n f e j m z) y.1 in
    sym (ap (λ z. z ∷ us) same ∙ ap (λ z. made n f e j m b ∷ z) (sym (unique h more)))

pub one-list : {text : Text} {ts us : List Token} → SpellsTokens ts text → SpellsTokens us text → ts ≡ us
one-list d e = unique (from_start d) (from_start e)
