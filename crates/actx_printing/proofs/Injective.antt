-- A tree has one list of literals for each statement.
use Rattle.std.proofs.Common.{◌≡◌, List, [], ◌∷◌, map, refl, sym, ◌∙◌, ap, ap₂, false}
use Rattle.actx_tree.specs.declared.expr.Expr.{Expr, out-Expr, the_lemmas}
use Rattle.actx_tree.specs.declared.expr.Expr.TheVariants as expr
use Rattle.actx_tree.specs.declared.expr.Argument.{Argument, out-Argument}
use Rattle.actx_tree.specs.declared.expr.Argument.TheVariants as argument
use Rattle.actx_tree.specs.declared.expr.Suffix.{Suffix, out-Suffix}
use Rattle.actx_tree.specs.declared.expr.Suffix.TheVariants as suffix
use Rattle.actx_tree.specs.declared.stmt.Stmt.{out-Stmt, the_lemmas as stmt_lemmas}
use Rattle.actx_tree.specs.declared.stmt.Stmt.TheVariants as stmt
use Rattle.actx_tree.specs.declared.tree.Tree.{Tree}
use Rattle.actx_printing.specs.declared.lit.Lit.{Lit}
use Rattle.actx_printing.specs.declared.lit.Lit.TheVariants as lit
use Rattle.actx_printing.specs.Printing.{expr_of, argument_of, console, log_of, call_of, statement_of, Prints}

-- lists of parts that are of one value each are of one list of values
one_list : {A B : Type 0} (of : B → A) → ((a b : B) → of a ≡ of b → a ≡ b) → (xs ys : List B) → map of xs ≡ map of ys → xs ≡ ys
one_list of one [] [] q = refl
one_list of one [] (y ∷ ys) q = absurd (cc)
one_list of one (x ∷ xs) [] q = absurd (cc)
one_list of one (x ∷ xs) (y ∷ ys) q = ap₂ (λ z zs. z ∷ zs) (one x y (cc)) (one_list of one xs ys (cc))

one_literal : (a b : Lit) → expr_of a ≡ expr_of b → a ≡ b
one_literal (lit.Num n) (lit.Num m) q = let e = simp the_lemmas at (ap out-Expr q) in cc
one_literal (lit.Num n) (lit.Text text) q = let e = simp the_lemmas at (ap out-Expr q) in cc
one_literal (lit.Num n) (lit.Bool c) q = let e = simp the_lemmas at (ap out-Expr q) in cc
one_literal (lit.Num n) lit.Null q = let e = simp the_lemmas at (ap out-Expr q) in cc
one_literal (lit.Text text) (lit.Num n) q = let e = simp the_lemmas at (ap out-Expr q) in cc
one_literal (lit.Text text) (lit.Text other) q = let e = simp the_lemmas at (ap out-Expr q) in cc
one_literal (lit.Text text) (lit.Bool c) q = let e = simp the_lemmas at (ap out-Expr q) in cc
one_literal (lit.Text text) lit.Null q = let e = simp the_lemmas at (ap out-Expr q) in cc
one_literal (lit.Bool b) (lit.Num n) q = let e = simp the_lemmas at (ap out-Expr q) in cc
one_literal (lit.Bool b) (lit.Text text) q = let e = simp the_lemmas at (ap out-Expr q) in cc
one_literal (lit.Bool b) (lit.Bool c) q = let e = simp the_lemmas at (ap out-Expr q) in cc
one_literal (lit.Bool b) lit.Null q = let e = simp the_lemmas at (ap out-Expr q) in cc
one_literal lit.Null (lit.Num n) q = let e = simp the_lemmas at (ap out-Expr q) in cc
one_literal lit.Null (lit.Text text) q = let e = simp the_lemmas at (ap out-Expr q) in cc
one_literal lit.Null (lit.Bool c) q = let e = simp the_lemmas at (ap out-Expr q) in cc
one_literal lit.Null lit.Null q = refl

one_value : (x y : Expr) → argument.One x ≡ argument.One y → x ≡ y
one_value x y q = let e = simp the_lemmas at (ap out-Argument q) in cc

one_argument : (a b : Lit) → argument_of a ≡ argument_of b → a ≡ b
one_argument a b q = one_literal a b (one_value (expr_of a) (expr_of b) q)

one_expression : (x y : Expr) → stmt.Expr x ≡ stmt.Expr y → x ≡ y
one_expression x y q = let e = simp stmt_lemmas at (ap out-Stmt q) in cc

one_chain : (x y : Expr) (xs ys : List Suffix) → expr.Left x xs ≡ expr.Left y ys → xs ≡ ys
one_chain x y xs ys q = let e = simp the_lemmas at (ap out-Expr q) in cc

one_bracket : (xs ys : List Argument) → suffix.Call false xs ≡ suffix.Call false ys → xs ≡ ys
one_bracket xs ys q = let e = simp the_lemmas at (ap out-Suffix q) in cc

-- a printing statement has the arguments of one call
pub one_call : (xs ys : List Argument) → stmt.Expr (call_of xs) ≡ stmt.Expr (call_of ys) → xs ≡ ys
one_call xs ys q =
    let chain : log_of xs ≡ log_of ys = one_chain console console (log_of xs) (log_of ys) (one_expression (call_of xs) (call_of ys) q) in
    one_bracket xs ys (cc)

one_statement : (a b : List Lit) → statement_of a ≡ statement_of b → a ≡ b
one_statement a b q = one_list argument_of one_argument a b (one_call (map argument_of a) (map argument_of b) q)

pub one_printing : (tree : Tree) (a b : List (List Lit)) → Prints tree a → Prints tree b → a ≡ b
one_printing tree a b p q = one_list statement_of one_statement a b (sym p ∙ q)
