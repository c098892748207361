-- A file that is read has few levels of nodes.
use Rattle.std.proofs.Common.{ℕ, ◌≤◌, List, arith}
use Rattle.actx_tree.specs.declared.tree.Tree.{Tree}
use Rattle.actx_tree.specs.Levels.{stmts_levels}
use Rattle.actx_lex.specs.declared.token.Token.{Token}
use Rattle.actx_program.specs.Trees.{SpTree, file, tree}
use Rattle.actx_program.proofs.StatementLevels.{levels-items}

low_tree : {tokens : List Token} {t : Tree} {levels : ℕ} → SpTree tokens t levels → stmts_levels t.items ≤ levels
low_tree (tree (file d) bodies) = let e = levels-items d in omega arith

pub low_levels : {tokens : List Token} {t : Tree} → (levels : ℕ) × SpTree tokens t levels × (levels ≤ 201) → stmts_levels t.items ≤ 1000
low_levels s = omega (arith, low_tree s.1, s.2)
