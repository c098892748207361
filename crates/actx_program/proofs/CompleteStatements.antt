-- Statements with so many levels: what is spelled is read, or has more of them.
use Rattle.std.proofs.Common.{◌≡◌, ◌∙◌, ℕ, zero, suc, ◌<◌, false, List, Err, refl, sym, ap, subst, arith}
use Rattle.actx_tree.specs.declared.function.Function.{Function}
use Rattle.actx_tree.specs.declared.function.Class.{Class}
use Rattle.actx_tree.specs.declared.stmt.Stmt.{Stmt}
use Rattle.actx_grammar.specs.declared.error.Cause.TheVariants.{TooNested}
use Rattle.actx_grammar.specs.Tokens.{Tokens}
use Rattle.actx_grammar.specs.Reader.{Outcome}
use Rattle.actx_grammar.specs.Grammar.{SpFunction, function, SpClass, class-base, class-derived}
use Rattle.actx_grammar.proofs.Gets.{Gets, deep}
use Rattle.actx_grammar.proofs.Complete.{completes, room_is}
use Rattle.actx_program.specs.Statements.{SpStmt, stmt-block, stmt-empty, stmt-if, stmt-while, stmt-do, stmt-for, stmt-for_of, stmt-return, stmt-return_of, stmt-throw, stmt-break, stmt-continue, stmt-try, stmt-expr, SpItems, SpItem, item-let, item-function, item-class, item-stmt}
use Rattle.actx_program.specs.StatementReader.{inside, goes_on_items}
use Rattle.actx_program.specs.StatementReader as r
use Rattle.actx_program.proofs.GetStatements.{CompletesWithin, get-stmt, get-item, get-items}

-- ---- a statement has a level

some-stmt : {x : Stmt} {h : ℕ} {a b : Tokens} → SpStmt x h a b → 0 < h
some-stmt (stmt-block d) = omega arith
some-stmt (stmt-empty e) = omega arith
some-stmt (stmt-if e d y z) = omega arith
some-stmt (stmt-while e d y) = omega arith
some-stmt (stmt-do e y w d q) = omega arith
some-stmt (stmt-for e o d c y f z g q) = omega arith
some-stmt (stmt-for_of e o w d f y c q) = omega arith
some-stmt (stmt-return e d) = omega arith
some-stmt (stmt-return_of e l d q) = omega arith
some-stmt (stmt-throw e l d q) = omega arith
some-stmt (stmt-break e d) = omega arith
some-stmt (stmt-continue e d) = omega arith
some-stmt (stmt-try e d c f q) = omega arith
some-stmt (stmt-expr n d q) = omega arith

some-function : {x : Function} {h : ℕ} {a b : Tokens} → SpFunction x h a b → 0 < h
some-function (function f n q u) = omega arith

some-class : {x : Class} {h : ℕ} {a b : Tokens} → SpClass x h a b → 0 < h
some-class (class-base e n o d c) = omega arith
some-class (class-derived e n s d o f c) = omega arith

some-item : {x : Stmt} {h : ℕ} {a b : Tokens} → SpItem x h a b → 0 < h
some-item (item-let d e) = omega arith
some-item (item-function d e) = some-function d
some-item (item-class d e) = some-class d
some-item (item-stmt d) = some-stmt d

-- ---- the knot

sunk_gets : {A : Type 0} (v : A) (b : Tokens) {h : ℕ} → 0 < h → Gets 0 h (Err TooNested) v b
sunk_gets v b l = deep l refl

pub inside_room : (n : ℕ) → (inside n).inner.room ≡ n
unfolding inside
inside_room zero = room_is zero
inside_room (suc n) = room_is (suc n)

-- the room of a node around
one_more : {A : Type 0} (n room : ℕ) {h : ℕ} {o : Outcome A} {v : A} {b : Tokens} → room ≡ suc n → Gets (suc (inside n).inner.room) h o v b → Gets room h o v b
one_more n room {h = h} {o = o} {v = v} {b = b} e g = subst (λ l. Gets l h o v b) (ap suc (inside_room n) ∙ sym e) g

none_below : {A : Type 0} (room : ℕ) {h : ℕ} {v : A} {b : Tokens} → room ≡ 0 → 0 < h → Gets room h (Err TooNested) v b
none_below room {h = h} {v = v} {b = b} e l = subst (λ z. Gets z h (Err TooNested) v b) (sym e) (sunk_gets v b l)

pub completes_within : (n : ℕ) → CompletesWithin (inside n)
unfolding inside
completes_within zero = record {
  inner = completes zero;
  stmt = λ d. none_below _ (room_is zero) (some-stmt d);
  item = λ d. none_below _ (room_is zero) (some-item d);
}
completes_within (suc n) = record {
  inner = completes (suc n);
  stmt = λ d. one_more n _ (room_is (suc n)) (get-stmt (inside n) (completes_within n) d);
  item = λ d. one_more n _ (room_is (suc n)) (get-item (inside n) (completes_within n) d);
}

-- items of n levels at most, where none goes on
pub gets_items : (n : ℕ) {xs : List Stmt} {h : ℕ} {a b : Tokens} → SpItems xs h a b → goes_on_items b ≡ false → Gets n h (r.items (inside n) a) (xs, h) b
gets_items n {xs = xs} {h = h} {a = a} {b = b} d e = subst (λ l. Gets l h (r.items (inside n) a) (xs, h) b) (inside_room n) (get-items (inside n) (completes_within n) d e)
