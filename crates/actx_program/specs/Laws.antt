-- Laws of statements and of files: a file has one tree at most, its size and its levels are bounded by its tokens, and
-- the reader gives exactly what is spelled.
use Rattle.std.specs.Prelude.{◌≡◌, ℕ, ◌+◌, ◌*◌, ◌<◌, ◌≤◌, List, ◌∷◌, length, Some, Ok, Err}
use Rattle.actx_lex.specs.declared.token.Token.{Token}
use Rattle.actx_lex.specs.declared.token.Punct.TheVariants as p
use Rattle.actx_grammar.specs.declared.bracket.Bracket.TheVariants as bracket
use Rattle.actx_grammar.specs.declared.kind.Kind.TheVariants as kind
use Rattle.actx_tree.specs.declared.stmt.Stmt.{Stmt}
use Rattle.actx_tree.specs.declared.function.Unread.{Unread}
use Rattle.actx_tree.specs.declared.tree.Tree.{Tree}
use Rattle.actx_tree.specs.Levels.{stmt_levels, stmts_levels}
use Rattle.actx_tree.specs.Sizes.{tree_size}
use Rattle.actx_grammar.specs.declared.error.Cause.TheVariants.{NoTree, TooNested}
use Rattle.actx_grammar.specs.Tokens.{Tokens, Is, after_brackets}
use Rattle.actx_grammar.specs.Grammar.{SpUnread}
use Rattle.actx_program.specs.Statements.{SpStmt, SpItems}
use Rattle.actx_program.specs.Trees.{SpTree}
use Rattle.actx_program.specs.TreeReader.{program}

-- ---- statements

-- the levels that a spelling counts are those of the tree, and there is at most one more of them than tokens
abbrev pub CountsStmtLevels : Type 0
CountsStmtLevels = (x : Stmt) (h : ℕ) (a b : Tokens) → SpStmt x h a b → (stmt_levels x ≡ h) × (h + length b ≤ length a + 1)

abbrev pub CountsItemLevels : Type 0
CountsItemLevels = (xs : List Stmt) (h : ℕ) (a b : Tokens) → SpItems xs h a b → (stmts_levels xs ≡ h) × (h + length b ≤ length a + 1)

-- Where items and a closing brace stand, the search from the first of them finds that brace.
abbrev pub OneBlock : Type 0
OneBlock = (xs : List Stmt) (h : ℕ) (u : Token) (m b : Tokens) → SpItems xs h m (u ∷ b) → Is (kind.Sign p.CloseBrace) u → after_brackets bracket.Curly m 0 ≡ Some b

-- So braces with items between them are a Block that is passed over.
abbrev pub BlocksUnread : Type 0
BlocksUnread = (r : Unread) (xs : List Stmt) (h : ℕ) (t u : Token) (m b : Tokens) → Is (kind.Sign p.OpenBrace) t → SpItems xs h m (u ∷ b) → Is (kind.Sign p.CloseBrace) u
    → r.from ≡ length m → r.to ≡ length b → SpUnread r (t ∷ m) b

-- ---- files

abbrev pub OneProgram : Type 0
OneProgram = (tokens : Tokens) (s t : Tree) (g h : ℕ) → SpTree tokens s g → SpTree tokens t h → s ≡ t

abbrev pub SmallPrograms : Type 0
SmallPrograms = (tokens : Tokens) (t : Tree) (h : ℕ) → SpTree tokens t h → tree_size t ≤ 16 * length tokens

-- So a tree with more than 201 levels has more than 200 tokens.
abbrev pub FewLevels : Type 0
FewLevels = (tokens : Tokens) (t : Tree) (h : ℕ) → SpTree tokens t h → h ≤ length tokens + 1

-- ---- what reading gives; a node has 200 nodes around it at most

-- a tree that is spelled is given
abbrev pub GivesSpelled : Type 0
GivesSpelled = (tokens : Tokens) (t : Tree) (h : ℕ) → SpTree tokens t h → h ≤ 201 → program tokens ≡ Ok t

-- a tree that is given is spelled
abbrev pub SpellsGiven : Type 0
SpellsGiven = (tokens : Tokens) (t : Tree) → program tokens ≡ Ok t → (h : ℕ) × SpTree tokens t h × (h ≤ 201)

-- where no tree is given, none is spelled
abbrev pub SpellsNone : Type 0
SpellsNone = (tokens : Tokens) → program tokens ≡ Err NoTree → (t : Tree) (h : ℕ) → SpTree tokens t h → ⊥

-- where it sinks too deep, each tree that is spelled does
abbrev pub SpellsDeep : Type 0
SpellsDeep = (tokens : Tokens) → program tokens ≡ Err TooNested → (t : Tree) (h : ℕ) → SpTree tokens t h → 201 < h
