-- A law of printing statements.
use Rattle.std.specs.Prelude.{◌≡◌, List}
use Rattle.actx_tree.specs.declared.tree.Tree.{Tree}
use Rattle.actx_printing.specs.declared.lit.Lit.{Lit}
use Rattle.actx_printing.specs.Printing.{Prints}

-- a tree has at most one list of literals for each statement
abbrev pub HasOnePrinting : Type 0
HasOnePrinting = (tree : Tree) (a b : List (List Lit)) → Prints tree a → Prints tree b → a ≡ b
