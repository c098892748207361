-- Files with the bodies of their functions: what is spelled is read, or has too many levels.
use Rattle.std.proofs.Common.{◌≡◌, ◌∙◌, ℕ, zero, suc, ◌+◌, ◌-◌, ◌<◌, ◌≤◌, max, ◌==◌, nat_lt, inl, inr, true, false, List, [], ◌∷◌, ◌++◌, length, Result, Ok, Err, refl, sym, ap, arith, append_assoc, append-nil}
use Rattle.std.proofs.lemmas.Bool.{cases_lt, lt-ltb}
use Rattle.std.proofs.lemmas.Bool.Decides.{nat_tests, Decides-eqb}
use Rattle.std.proofs.lemmas.List.{length-drop}
use Rattle.actx_lex.specs.declared.token.Token.{Token}
use Rattle.actx_lex.specs.declared.token.Punct.TheVariants as p
use Rattle.actx_tree.specs.declared.stmt.Stmt.{Stmt}
use Rattle.actx_tree.specs.declared.function.Nested.{Nested}
use Rattle.actx_tree.specs.declared.tree.BodyTree.{BodyTree}
use Rattle.actx_tree.specs.declared.tree.Tree.{Tree}
use Rattle.actx_tree.specs.Bodies.{stmts_bodies}
use Rattle.actx_grammar.specs.declared.error.Cause.{Cause}
use Rattle.actx_grammar.specs.declared.error.Cause.TheVariants.{TooNested}
use Rattle.actx_grammar.specs.declared.kind.Kind.TheVariants as kind
use Rattle.actx_grammar.specs.declared.bracket.Bracket.TheVariants as bracket
use Rattle.actx_grammar.specs.Tokens.{Tokens, Is, next}
use Rattle.actx_grammar.specs.Reader.{Outcome, Read, count}
use Rattle.actx_grammar.specs.Weights.{weight}
use Rattle.actx_grammar.proofs.Gets.{Gets, got, deep, take, seq, done, no, closed}
use Rattle.actx_grammar.proofs.SizeLines.{weight-append}
use Rattle.actx_program.specs.Statements.{SpItems}
use Rattle.actx_program.specs.Trees.{last, SpFile, file, SpBody, body, body_tree, SpBodies, bodies-none, bodies-more, SpTree, tree}
use Rattle.actx_program.specs.StatementReader.{goes_on_items}
use Rattle.actx_program.specs.TreeReader as r
use Rattle.actx_program.proofs.GetStatements.{brace_stops}
use Rattle.actx_program.proofs.CompleteStatements.{gets_items}
use Rattle.actx_program.proofs.StatementSizes.{size-items}

-- what reading a spelled tree gives: the tree, or TooNested where it has too many levels
pub data Comes {A : Type 0} (room h : ℕ) (o : Result A Cause) (v : A) : Type 0 where
  comes : h ≤ room → o ≡ Ok v → Comes room h o v
  sinks : room < h → o ≡ Err TooNested → Comes room h o v

-- ---- files

end_stops : goes_on_items [] ≡ false
unfolding goes_on_items next
end_stops = refl

end_here : r.at_end [] ≡ Ok (tt, [])
unfolding r.at_end next
end_here = refl

pub get-file : (room : ℕ) {xs : List Stmt} {h : ℕ} {a : Tokens} → SpFile xs h a → Gets room h (r.file room a) (xs, h) []
unfolding r.file r.items_in
get-file room (file d) = seq _ _ (gets_items room d end_stops) (λ _. take _ _ end_here (done _ _)) (omega arith)

-- ---- bodies

at_its_place : (b : Tokens) (n : ℕ) → length b ≡ n → r.at_place n b ≡ Ok (tt, b)
unfolding r.at_place count
at_its_place b n e = let q : (length b == n) ≡ true = (Decides-eqb (length b) n).1 e in rw q refl

-- in what its depth leaves of the room
within_depth : {A : Type 0} (room depth : ℕ) {h : ℕ} {o : Outcome A} {v : A} {b : Tokens} → depth ≤ room → Gets (room - depth) h o v b → Gets room (depth + h) o v b
within_depth room depth l (got m q) = got (omega arith) q
within_depth room depth l (deep m q) = deep (omega arith) q

too_deep : (room : ℕ) (n : Nested) (a : Tokens) → room < n.depth → r.body_in room n a ≡ Err TooNested
unfolding r.body_in
too_deep room n a l = rw (lt-ltb room n.depth l) refl

fitting_body : (room : ℕ) (n : Nested) {u : Token} {xs : List Stmt} {h : ℕ} {a b : Tokens} → n.depth ≤ room → SpItems xs h a (u ∷ b) → Is (kind.Sign p.CloseBrace) u → length b ≡ n.range.to
    → Gets room (n.depth + h) (r.body_in room n a) (xs, h) b
unfolding r.body_in r.items_in
fitting_body room n {u = u} {b = b} l d e q = no (nat_lt room n.depth) _ (grind (arith, nat_tests)) (within_depth room n.depth l
    (seq _ _ (gets_items (room - n.depth) d (brace_stops u b e)) (λ _. take _ _ (closed bracket.Curly u b e) (take _ _ (at_its_place b n.range.to q) (done _ _))) (omega arith)))

-- a body is read up to some end
record Got (tokens : Tokens) (room : ℕ) (n : Nested) (xs : List Stmt) (h : ℕ) : Type 0 where
  end : Tokens
  is : Gets room (n.depth + h) (r.read_body tokens room n) (xs, h) end

get-body : (tokens : Tokens) (room : ℕ) (n : Nested) {xs : List Stmt} {h : ℕ} → SpBody tokens n xs h → Got tokens room n xs h
unfolding r.read_body
get-body tokens room n (body {b = b} d e q) = elim (cases_lt room n.depth) [
  | inl lt ↦ record { end = b; is = deep (omega arith) (too_deep room n (last n.range.from tokens) lt) }
  | inr ge ↦ record { end = b; is = fitting_body room n ge d e q }
]

-- the bodies in a body take fewer tokens
pub lighter : (tokens : Tokens) (n : Nested) {xs : List Stmt} {h : ℕ} → SpBody tokens n xs h → suc (weight (stmts_bodies xs n.depth)) ≤ weight (n ∷ [])
lighter tokens n (body d e q) = let w = size-items d n.depth in let l = length-drop (length tokens - n.range.from) tokens in omega arith

one_turn : (tokens : Tokens) (room turns : ℕ) (n : Nested) (ns : List Nested) (found : List BodyTree) (v : Read (List Stmt)) (b : Tokens) → r.read_body tokens room n ≡ Ok (v, b)
    → r.bodies_from tokens room (suc turns) (n ∷ ns) found ≡ r.bodies_from tokens room turns (ns ++ stmts_bodies v.0 n.depth) (found ++ body_tree tokens n v.0 ∷ [])
unfolding r.bodies_from r.after_items
one_turn tokens room turns n ns found v b q = rw q refl

deep_turn : (tokens : Tokens) (room turns : ℕ) (n : Nested) (ns : List Nested) (found : List BodyTree) → r.read_body tokens room n ≡ Err TooNested
    → r.bodies_from tokens room (suc turns) (n ∷ ns) found ≡ Err TooNested
unfolding r.bodies_from r.after_items
deep_turn tokens room turns n ns found q = rw q refl

no_turn : (tokens : Tokens) (room turns : ℕ) (found : List BodyTree) → r.bodies_from tokens room turns [] found ≡ Ok found
unfolding r.bodies_from
no_turn tokens room turns found = refl

-- with what was read before, of no more levels
higher : {A : Type 0} {room h i : ℕ} {o q : Result A Cause} {v : A} → h ≤ room → o ≡ q → Comes room i q v → Comes room (max h i) o v
higher l e (comes m q) = comes (omega arith) (e ∙ q)
higher l e (sinks m q) = sinks (omega arith) (e ∙ q)

next_body : (tokens : Tokens) (room turns : ℕ) (found L : List BodyTree) (n : Nested) (ns : List Nested) {xs : List Stmt} {bs : List BodyTree} {h i : ℕ} {b : Tokens}
    → Gets room (n.depth + h) (r.read_body tokens room n) (xs, h) b
    → ((found' : List BodyTree) → L ≡ found' ++ bs → Comes room i (r.bodies_from tokens room turns (ns ++ stmts_bodies xs n.depth) found') L) → L ≡ found ++ body_tree tokens n xs ∷ bs
    → Comes room (max (n.depth + h) i) (r.bodies_from tokens room (suc turns) (n ∷ ns) found) L
next_body tokens room turns found L n ns {xs = xs} {bs = bs} {h = h} {b = b} (got l q) ih e =
    higher l (one_turn tokens room turns n ns found (xs, h) b q) (ih (found ++ body_tree tokens n xs ∷ []) (e ∙ sym (append_assoc found (body_tree tokens n xs ∷ []) bs)))
next_body tokens room turns found L n ns (deep l q) ih e = sinks (omega arith) (deep_turn tokens room turns n ns found q)

pub get-bodies : (tokens : Tokens) (room turns : ℕ) (found L : List BodyTree) {ns : List Nested} {bs : List BodyTree} {i : ℕ} → SpBodies tokens ns bs i → weight ns ≤ turns → L ≡ found ++ bs
    → Comes room i (r.bodies_from tokens room turns ns found) L
get-bodies tokens room turns found L bodies-none w e = comes (omega arith) (no_turn tokens room turns found ∙ ap (λ z. Ok z) (sym (e ∙ append-nil found)))
get-bodies tokens room zero found L (bodies-more c d) w e = Prim.absurd (omega arith)
get-bodies tokens room (suc turns) found L (bodies-more {n = n} {ns = ns} {xs = xs} c d) w e = next_body tokens room turns found L n ns (get-body tokens room n c).is
    (λ found' e'. get-bodies tokens room turns found' L d (let x = lighter tokens n c in let y = weight-append ns (stmts_bodies xs n.depth) in omega arith) e') e

-- ---- whole files

file_read : (tokens b : Tokens) (room : ℕ) (v : Read (List Stmt)) (o : Result (List BodyTree) Cause) → r.file room tokens ≡ Ok (v, b) → r.bodies tokens room v.0 ≡ o
    → r.program_in tokens room ≡ r.tree_with v.0 o
unfolding r.program_in r.after_items
file_read tokens b room v o q e = rw (q, e) refl

file_sinks : (tokens : Tokens) (room : ℕ) → r.file room tokens ≡ Err TooNested → r.program_in tokens room ≡ Err TooNested
unfolding r.program_in r.after_items
file_sinks tokens room q = rw q refl

with_file : (tokens : Tokens) (room : ℕ) {xs : List Stmt} {bs : List BodyTree} {h i : ℕ} → Gets room h (r.file room tokens) (xs, h) [] → Comes room i (r.bodies tokens room xs) bs
    → Comes room (max h i) (r.program_in tokens room) (record { items = xs; bodies = bs })
with_file tokens room {xs = xs} {h = h} (got l q) (comes m e) = comes (omega arith) (file_read tokens [] room (xs, h) _ q e)
with_file tokens room {xs = xs} {h = h} (got l q) (sinks m e) = sinks (omega arith) (file_read tokens [] room (xs, h) _ q e)
with_file tokens room (deep l q) c = sinks (omega arith) (file_sinks tokens room q)

all_bodies : (tokens : Tokens) (room : ℕ) {xs : List Stmt} {bs : List BodyTree} {h i : ℕ} → SpFile xs h tokens → SpBodies tokens (stmts_bodies xs 0) bs i → Comes room i (r.bodies tokens room xs) bs
unfolding r.bodies
all_bodies tokens room {bs = bs} (file c) d = get-bodies tokens room (length tokens) [] bs d (let w = size-items c 0 in omega arith) refl

pub get-tree : (tokens : Tokens) (room : ℕ) {t : Tree} {h : ℕ} → SpTree tokens t h → Comes room h (r.program_in tokens room) t
get-tree tokens room (tree c d) = with_file tokens room (get-file room c) (all_bodies tokens room c d)
