-- What is found for a statement and for a tree.
use Rattle.std.proofs.Common.{◌≡◌, List, map, Result, Ok, Err, sym, ◌∙◌, ap, ap₂}
use Rattle.std.specs.declared.vec.Vec.{Vec}
use Rattle.std.specs.declared.alloc.Global.{Global}
use Rattle.actx_tree.specs.declared.expr.Argument.{Argument}
use Rattle.actx_tree.specs.declared.expr.Expr.{Expr}
use Rattle.actx_tree.specs.declared.expr.Expr.TheVariants as expr
use Rattle.actx_tree.specs.declared.expr.Suffix.{Suffix}
use Rattle.actx_tree.specs.declared.stmt.Stmt.{Stmt}
use Rattle.actx_tree.specs.declared.stmt.Stmt.TheVariants as stmt
use Rattle.actx_tree.specs.declared.tree.Tree.{Tree}
use Rattle.actx_printing.specs.declared.lit.Lit.{Lit}
use Rattle.actx_printing.specs.declared.lit.FirstError.{FirstError}
use Rattle.actx_printing.specs.declared.lit.FirstError.TheVariants.{NotBuilt, Memory}
use Rattle.actx_printing.specs.Printing.{argument_of, console, log_of, call_of, statement_of, literals, Makes, GivesAll, Prints}
use Rattle.actx_printing.proofs.Injective.{one_call, one_printing}

-- a statement that calls the member `log` of the name `console`
pub calls_log : (x : Stmt) (y first got : Expr) (tail suffixes : List Suffix) (xs : List Argument) → x ≡ stmt.Expr y → y ≡ expr.Left first tail
    → got ≡ first → got ≡ console → suffixes ≡ tail → suffixes ≡ log_of xs → x ≡ stmt.Expr (call_of xs)
calls_log x y first got tail suffixes xs a b c d e f = a ∙ ap (λ (z : Expr). stmt.Expr z) (b ∙ ap₂ (λ (z : Expr) (zs : List Suffix). expr.Left z zs) (sym c ∙ d) (sym e ∙ f))

-- a statement is of the literals that its arguments are
pub makes_statement : (x : Stmt) (xs : List Argument) (r : Result (Vec Lit Global) FirstError) → x ≡ stmt.Expr (call_of xs)
    → Makes (λ ls. ls.items) (map argument_of) xs r → Makes (λ ls. ls.items) statement_of x r
makes_statement x xs (Ok ls) is made = is ∙ ap (λ (ys : List Argument). stmt.Expr (call_of ys)) made
makes_statement x xs (Err NotBuilt) is made = λ ls q. made ls (one_call xs (map argument_of ls) (sym is ∙ q))
makes_statement x xs (Err Memory) is made = tt

-- the literals of a tree are those that are found
pub gives_all : (tree : Tree) (r : Result (Vec (Vec Lit Global) Global) FirstError) → Makes literals (map statement_of) tree.items r
    → (all : List (List Lit)) → Prints tree all → GivesAll all r
gives_all tree (Ok found) made all prints = one_printing tree (literals found) all made prints
gives_all tree (Err NotBuilt) made all prints = made all prints
gives_all tree (Err Memory) made all prints = tt
