-- Token lists and the texts that they spell (ECMA-262 §12).
use Rattle.std.specs.Prelude.{◌≡◌, ℕ, ◌-◌, ◌+◌, ◌<◌, ◌≤◌, Bool, true, false, ◌||◌, List, [], ◌∷◌, ◌++◌, length, take, get_or}
use Rattle.actx_lex.specs.declared.token.Punct.TheVariants as p
use Rattle.actx_lex.specs.declared.token.TokenKind.{TokenKind}
use Rattle.actx_lex.specs.declared.token.TokenKind.TheVariants as k
use Rattle.actx_lex.specs.declared.token.Token.{Token}
use Rattle.actx_lex.specs.Units.{Text}
use Rattle.actx_lex.specs.Gaps.{Gap, Opened}
use Rattle.actx_lex.specs.TokenAt.{TokenAt, Longest}

-- The braces that are open, the innermost last: true is "${", false is "{".
abbrev pub Braces : Type 0
Braces = List Bool

-- whether the innermost is "${"
abbrev pub in_template : Braces → Bool
in_template s = get_or s (length s - 1) false

-- without the innermost
unfoldable pub closed : Braces → Braces
closed s = take (length s - 1) s

-- the braces that are open after a token
abbrev pub braces_after : TokenKind → Braces → Braces
braces_after (k.Template us true true) s = s
braces_after (k.Template us true false) s = s ++ true ∷ []
braces_after (k.Template us false true) s = closed s
braces_after (k.Template us false false) s = s
braces_after (k.Punct p.OpenBrace) s = s ++ false ∷ []
braces_after (k.Punct p.CloseBrace) s = closed s
braces_after _ s = s

-- Of a text of n units a part is left, a: it is a gap, then for each token the longest spelling and a gap, and then c.
-- The braces s are open before a. The next token is first on its line where f holds or the gap before it holds a line end.
pub data TokensFrom (n : ℕ) : Braces → Bool → List Token → Text → Text → Type 0 where
  end : {s : Braces} {f e : Bool} {a c : Text} → Gap e a c → TokensFrom n s f [] a c
  token : {s : Braces} {f e : Bool} {j : TokenKind} {ts : List Token} {a m b c : Text}
      → Gap e a m → TokenAt (in_template s) j m b → Longest (in_template s) m b → TokensFrom n (braces_after j s) false ts b c
      → TokensFrom n s f (record { kind = j; from = n - length m; to = n - length b; first = f || e } ∷ ts) a c

-- The token list spells the text up to c: a comment "#!" may stand at the start, and the first token is first on its line.
pub record SpellsUpTo (c : Text) (ts : List Token) (text : Text) : Type 0 where
  pub start : Text
  pub opened : Opened text start
  pub spelled : TokensFrom (length text) [] true ts start c

-- The token list spells the text.
abbrev pub SpellsTokens : List Token → Text → Type 0
SpellsTokens ts text = SpellsUpTo [] ts text

-- Gaps and tokens spell the text up to this place, and c is left.
pub record Reaches (text : Text) (at : ℕ) : Type 0 where
  pub tokens : List Token
  pub left : Text
  pub spelled : SpellsUpTo left tokens text
  pub place : at + length left ≡ length text

-- From this place on up to the other one the tokens stand one after another, and each has a unit.
abbrev pub StandBetween : ℕ → ℕ → List Token → Type 0
StandBetween low high [] = low ≤ high
StandBetween low high (t ∷ ts) = (low ≤ t.from) × (t.from < t.to) × StandBetween t.to high ts
