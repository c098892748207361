-- Which files are accepted, what they print, and which refusal the others meet.
use Rattle.std.specs.Prelude.{◌≡◌, ℕ, ◌<◌, ◌≤◌, List, [], length, Some}
use Rattle.actx_text.specs.Utf8.{IsFirstIllFormed}
use Rattle.actx_text.specs.Texts.{IsTextOf}
use Rattle.actx_lex.specs.declared.token.Token.{Token}
use Rattle.actx_lex.specs.TokenLists.{SpellsTokens, Reaches}
use Rattle.actx_tree.specs.declared.tree.Tree.{Tree}
use Rattle.actx_program.specs.Trees.{SpTree}
use Rattle.actx_scope_rules.specs.declared.early.EarlyKind.{EarlyKind}
use Rattle.actx_scope_rules.specs.Early.{early_errors, first_error}
use Rattle.actx_printing.specs.declared.lit.Lit.{Lit}
use Rattle.actx_printing.specs.Printing.{Prints}
use Rattle.actx_cli.specs.declared.answer.Refusal.{Refusal}
use Rattle.actx_cli.specs.declared.answer.Refusal.TheVariants as refusal
use Rattle.actx_cli.specs.Printed.{printed}

-- the most bytes that a file may have
abbrev pub longest : ℕ
longest = 1048576

-- the bytes are UTF-8, and these tokens spell their text
pub record IsTokenized (bytes : List ℕ) (tokens : List Token) : Type 0 where
  pub text : List ℕ
  pub is_text : IsTextOf bytes text
  pub spelled : SpellsTokens tokens text

-- no token list spells the text, and this is the greatest place up to which gaps and tokens do
pub record IsBadToken (text : List ℕ) (at : ℕ) : Type 0 where
  pub none : (tokens : List Token) → SpellsTokens tokens text → ⊥
  pub reached : Reaches text at
  pub no_further : (place : ℕ) → Reaches text place → place ≤ at

-- the bytes are those of a tree with at most 201 levels of nodes
pub record IsParsed (bytes : List ℕ) (tree : Tree) : Type 0 where
  pub tokens : List Token
  pub tokenized : IsTokenized bytes tokens
  pub levels : ℕ
  pub spelled : SpTree tokens tree levels
  pub fits : levels ≤ 201

-- the bytes are those of a tree without early errors
pub record IsSound (bytes : List ℕ) (tree : Tree) : Type 0 where
  pub parsed : IsParsed bytes tree
  pub sound : early_errors tree ≡ []

-- the tokens spell no tree
abbrev pub HasNoTree : List Token → Type 0
HasNoTree tokens = (tree : Tree) (levels : ℕ) → SpTree tokens tree levels → ⊥

-- there are more than 100 tokens, and each tree that they spell has more than 201 levels
pub record IsNested (tokens : List Token) : Type 0 where
  pub long : 100 < length tokens
  pub deep : (tree : Tree) (levels : ℕ) → SpTree tokens tree levels → 201 < levels

-- the node of this number has the first early error of the tree
abbrev pub HasEarlyError : Tree → ℕ → Type 0
HasEarlyError tree at = (kind : EarlyKind) × (first_error tree ≡ Some (record { kind = kind; at = at }))

-- not every statement is a printing statement
abbrev pub IsNotBuilt : Tree → Type 0
IsNotBuilt tree = (literals : List (List Lit)) → Prints tree literals → ⊥

-- these bytes are a file that prints this text
pub record IsAccepted (bytes text : List ℕ) : Type 0 where
  pub short : length bytes ≤ longest
  pub tree : Tree
  pub is_sound : IsSound bytes tree
  pub literals : List (List Lit)
  pub prints : Prints tree literals
  pub text_is : text ≡ printed literals

-- Why a file is refused, and at which place. Of Tree and Nested the place is a hint, of which nothing is said.
abbrev pub IsRefused : List ℕ → Refusal → ℕ → Type 0
IsRefused bytes refusal.Utf8 at = IsFirstIllFormed bytes at
IsRefused bytes refusal.Token at = (text : List ℕ) × IsTextOf bytes text × IsBadToken text at
IsRefused bytes refusal.Tree at = (tokens : List Token) × IsTokenized bytes tokens × HasNoTree tokens
IsRefused bytes refusal.Nested at = (tokens : List Token) × IsTokenized bytes tokens × IsNested tokens
IsRefused bytes refusal.Early at = (tree : Tree) × IsParsed bytes tree × HasEarlyError tree at
IsRefused bytes refusal.NotBuilt at = (tree : Tree) × IsSound bytes tree × IsNotBuilt tree × (at ≡ 0)

-- A file of more than 100 tokens that spell no tree may be refused for want of a tree and as nested too deep.
pub record IsEither (bytes : List ℕ) : Type 0 where
  pub tokens : List Token
  pub tokenized : IsTokenized bytes tokens
  pub long : 100 < length tokens
  pub none : HasNoTree tokens

-- Two refusals of one file: they are of one kind and at one place, but that the place of Tree and Nested is a hint, and
-- that either of these two may come where both can.
abbrev pub Agree : List ℕ → Refusal → ℕ → Refusal → ℕ → Type 0
Agree bytes refusal.Tree at refusal.Tree place = Unit {0}
Agree bytes refusal.Nested at refusal.Nested place = Unit {0}
Agree bytes refusal.Tree at refusal.Nested place = IsEither bytes
Agree bytes refusal.Nested at refusal.Tree place = IsEither bytes
Agree bytes kind at other place = (kind ≡ other) × (at ≡ place)
