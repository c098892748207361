-- Printing statements, and the lists of literals that they are of.
--
-- A printing statement is an expression statement that calls the member `log` of the name `console`, neither with `?.`
-- before it, with arguments that are each a number, a text, `true`, `false` or `null`.
use Rattle.std.specs.Prelude.{◌≡◌, false, List, [], ◌∷◌, map, codes, Result, Ok, Err}
use Rattle.std.specs.declared.vec.Vec.{Vec}
use Rattle.std.specs.declared.alloc.Global.{Global}
use Rattle.actx_tree.specs.declared.expr.Expr.{Expr}
use Rattle.actx_tree.specs.declared.expr.Expr.TheVariants as expr
use Rattle.actx_tree.specs.declared.expr.Argument.{Argument}
use Rattle.actx_tree.specs.declared.expr.Argument.TheVariants as argument
use Rattle.actx_tree.specs.declared.expr.Suffix.{Suffix}
use Rattle.actx_tree.specs.declared.expr.Suffix.TheVariants as suffix
use Rattle.actx_tree.specs.declared.stmt.Stmt.{Stmt}
use Rattle.actx_tree.specs.declared.stmt.Stmt.TheVariants as stmt
use Rattle.actx_tree.specs.declared.tree.Tree.{Tree}
use Rattle.actx_printing.specs.declared.lit.Lit.{Lit}
use Rattle.actx_printing.specs.declared.lit.Lit.TheVariants as lit
use Rattle.actx_printing.specs.declared.lit.FirstError.{FirstError}
use Rattle.actx_printing.specs.declared.lit.FirstError.TheVariants.{NotBuilt, Memory}

-- the expression of a literal
abbrev pub expr_of : Lit → Expr
expr_of (lit.Num n) = expr.Number n
expr_of (lit.Text text) = expr.Text text
expr_of (lit.Bool b) = expr.Bool b
expr_of lit.Null = expr.Null

-- the argument that a literal is in a call
abbrev pub argument_of : Lit → Argument
argument_of l = argument.One (expr_of l)

-- console
abbrev pub console : Expr
console = expr.Name (codes "console")

-- .log( .. )
abbrev pub log_of : List Argument → List Suffix
log_of arguments = suffix.Member false (codes "log") ∷ suffix.Call false arguments ∷ []

-- console.log( .. )
abbrev pub call_of : List Argument → Expr
call_of arguments = expr.Left console (log_of arguments)

-- the printing statement of these literals
abbrev pub statement_of : List Lit → Stmt
statement_of ls = stmt.Expr (call_of (map argument_of ls))

-- the tree has printing statements alone, of these literals
abbrev pub Prints : Tree → List (List Lit) → Type 0
Prints tree all = tree.items ≡ map statement_of all

-- lists of literals without where they lie in memory
abbrev pub literals : Vec (Vec Lit Global) Global → List (List Lit)
literals statements = map (λ s. s.items) statements.items

-- What is found for a part of a tree: a value that the part is of. It is not built exactly where the part is of no value,
-- and nothing is known where memory ran out. `seen` is what a contract sees of the value.
abbrev pub Makes : {A B V : Type 0} → (V → B) → (B → A) → A → Result V FirstError → Type 0
Makes seen of part (Ok v) = part ≡ of (seen v)
Makes {B = B} seen of part (Err NotBuilt) = (b : B) → part ≡ of b → ⊥
Makes seen of part (Err Memory) = Unit {0}

-- these literals, unless there is no memory for them
abbrev pub GivesAll : List (List Lit) → Result (Vec (Vec Lit Global) Global) FirstError → Type 0
GivesAll all (Ok found) = literals found ≡ all
GivesAll all (Err NotBuilt) = ⊥
GivesAll all (Err Memory) = Unit {0}
