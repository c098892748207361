-- Files with the bodies of their functions: what is read is spelled.
use Rattle.std.proofs.Common.{◌≡◌, ◌∙◌, ℕ, zero, suc, ◌+◌, ◌-◌, ◌≤◌, max, ◌==◌, nat_lt, true, false, List, [], ◌∷◌, ◌++◌, length, Result, Ok, Err, refl, sym, ap, subst, arith, append_assoc, append-nil}
use Rattle.std.proofs.lemmas.Bool.Decides.{nat_tests, Decides-eqb}
use Rattle.actx_lex.specs.declared.token.TokenKind.{TokenKind}
use Rattle.actx_lex.specs.declared.token.TokenKind.TheVariants as k
use Rattle.actx_tree.specs.declared.stmt.Stmt.{Stmt}
use Rattle.actx_tree.specs.declared.function.Nested.{Nested}
use Rattle.actx_tree.specs.declared.tree.BodyTree.{BodyTree}
use Rattle.actx_tree.specs.declared.tree.Tree.{Tree}
use Rattle.actx_tree.specs.Bodies.{stmts_bodies}
use Rattle.actx_tree.specs.Levels.{stmts_levels}
use Rattle.actx_grammar.specs.declared.error.Cause.{Cause}
use Rattle.actx_grammar.specs.declared.error.Cause.TheVariants.{NoTree, TooNested}
use Rattle.actx_grammar.specs.declared.bracket.Bracket.TheVariants as bracket
use Rattle.actx_grammar.specs.Kinds.{kind_of, closes}
use Rattle.actx_grammar.specs.Tokens.{Tokens, next}
use Rattle.actx_grammar.specs.Reader.{Outcome, Read, count}
use Rattle.actx_grammar.proofs.Tests as is
use Rattle.actx_grammar.proofs.Holds.{Holds, done, fails, bind, branch, Taken, taken, sound-expect}
use Rattle.actx_program.specs.Statements.{SpItems}
use Rattle.actx_program.specs.Trees.{last, SpFile, file, SpBody, body, body_tree, SpBodies, bodies-none, bodies-more, SpTree, tree}
use Rattle.actx_program.specs.TreeReader as r
use Rattle.actx_program.proofs.SoundStatements.{sound_items_in}
use Rattle.actx_program.proofs.StatementLevels.{levels-items}

-- ---- files

-- no token is of the kind End
no_end : (sort : TokenKind) → r.is_end (kind_of sort) ≡ false
no_end (k.Name u) = refl
no_end (k.Reserved u) = refl
no_end (k.Number n) = refl
no_end (k.Text u) = refl
no_end (k.Template u o c) = refl
no_end (k.Punct s) = refl

no_more : (a : Tokens) → r.is_end (next a) ≡ true → a ≡ []
unfolding next
no_more [] e = refl
no_more (t ∷ ts) e = let n = no_end t.kind in Prim.absurd (cc)

sound-at_end : (a : Tokens) → Holds (λ _ b. a ≡ []) (r.at_end a)
unfolding r.at_end
sound-at_end a = branch (r.is_end (next a)) (λ e. done _ _ (no_more a e)) (λ _. fails NoTree)

-- spelled, and of no more levels than the number
pub record WholeFile (room : ℕ) (a : Tokens) (v : Read (List Stmt)) : Type 0 where
  pub low : v.1 ≤ room
  pub is : SpFile v.0 v.1 a

pub sound-file : (room : ℕ) (a : Tokens) → Holds (λ v _. WholeFile room a v) (r.file room a)
unfolding r.file r.items_in
sound-file room a = bind _ _ (sound_items_in room a) (λ v m d. bind _ _ (sound-at_end m) (λ _ b e. done _ _ (record { low = d.low; is = file (subst (λ z. SpItems v.0 v.1 a z) e d.is) })))

-- ---- bodies

at_its_place : (n : ℕ) (a : Tokens) → Holds (λ _ _. length a ≡ n) (r.at_place n a)
unfolding r.at_place count
at_its_place n a = branch (length a == n) (λ q. done _ _ ((Decides-eqb (length a) n).0 q)) (λ _. fails NoTree)

pub record Body (tokens : Tokens) (room : ℕ) (n : Nested) (v : Read (List Stmt)) : Type 0 where
  pub low : n.depth + v.1 ≤ room
  pub is : SpBody tokens n v.0 v.1

a_body : (tokens : Tokens) (n : Nested) {xs : List Stmt} {h : ℕ} {m b : Tokens} → SpItems xs h (last n.range.from tokens) m → Taken (closes bracket.Curly) m b → length b ≡ n.range.to → SpBody tokens n xs h
a_body tokens n d (taken {t = u} e) q = body d (is.closer bracket.Curly (kind_of u.kind) e) q

pub sound-body : (tokens : Tokens) (room : ℕ) (n : Nested) → Holds (λ v _. Body tokens room n v) (r.read_body tokens room n)
unfolding r.read_body r.body_in r.items_in
sound-body tokens room n = branch (nat_lt room n.depth) (λ _. fails TooNested)
    (λ f. bind _ _ (sound_items_in (room - n.depth) (last n.range.from tokens)) (λ v m d. bind _ _ (sound-expect (closes bracket.Curly) m refl) (λ _ b c. bind _ _ (at_its_place n.range.to b)
    (λ _ _ q. done _ _ (record { low = (let g : n.depth ≤ room = grind (arith, nat_tests) in omega (arith, d.low)); is = a_body tokens n d.is c q })))))

-- what holds of a result
pub record Says {A : Type 0} (S : A → Type 0) (o : Result A Cause) : Type 0 where
  pub ok : (v : A) → o ≡ Ok v → S v

abbrev pub value_or : {A : Type 0} → A → Result A Cause → A
value_or d (Ok v) = v
value_or d (Err e) = d

said : {A : Type 0} {S : A → Type 0} (v : A) → S v → Says S (Ok v)
said {S = S} v s = record { ok = λ w q. subst S (ap (value_or v) q) s }

silent : {A : Type 0} {S : A → Type 0} (e : Cause) → Says S (Err e)
silent e = record { ok = λ w q. Prim.absurd (cc) }

says_more : {A : Type 0} {S R : A → Type 0} {o : Result A Cause} → ((v : A) → S v → R v) → Says S o → Says R o
says_more f h = record { ok = λ v q. f v (h.ok v q) }

after : {A : Type 0} {S : Read (List Stmt) → Tokens → Type 0} {R : A → Type 0} (o : Outcome (Read (List Stmt))) (f : List Stmt → Result A Cause) → Holds S o
    → ((v : Read (List Stmt)) (b : Tokens) → S v b → Says R (f v.0)) → Says R (r.after_items o f)
unfolding r.after_items
after (Ok q) f h y = y q.0 q.1 (h.ok q.0 q.1 refl)
after (Err e) f h y = silent e

-- the trees behind those found
record Spelt (tokens : Tokens) (room : ℕ) (ns : List Nested) (found v : List BodyTree) : Type 0 where
  bs : List BodyTree
  i : ℕ
  is : SpBodies tokens ns bs i
  low : i ≤ room
  list : v ≡ found ++ bs

sound-bodies_from : (tokens : Tokens) (room turns : ℕ) (ns : List Nested) (found : List BodyTree) → Says (Spelt tokens room ns found) (r.bodies_from tokens room turns ns found)
unfolding r.bodies_from
sound-bodies_from tokens room turns [] found = said found (record { bs = []; i = 0; is = bodies-none; low = omega arith; list = sym (append-nil found) })
sound-bodies_from tokens room zero (n ∷ ns) found = silent NoTree
sound-bodies_from tokens room (suc turns) (n ∷ ns) found = after _ _ (sound-body tokens room n) (λ xs _ c. says_more
    (λ v z. record { bs = body_tree tokens n xs.0 ∷ z.bs; i = max (n.depth + xs.1) z.i; is = bodies-more c.is z.is; low = omega (arith, c.low, z.low); list = z.list ∙ append_assoc found (body_tree tokens n xs.0 ∷ []) z.bs })
    (sound-bodies_from tokens room turns (ns ++ stmts_bodies xs.0 n.depth) (found ++ body_tree tokens n xs.0 ∷ [])))

-- ---- whole files

pub record Whole (tokens : Tokens) (room : ℕ) (t : Tree) : Type 0 where
  pub h : ℕ
  pub is : SpTree tokens t h
  pub low : h ≤ room

with_bodies : (tokens : Tokens) (room : ℕ) (v : Read (List Stmt)) (o : Result (List BodyTree) Cause) → WholeFile room tokens v → Says (Spelt tokens room (stmts_bodies v.0 0) []) o
    → Says (Whole tokens room) (r.tree_with v.0 o)
with_bodies tokens room v (Ok bs) d h = let z = h.ok bs refl in
    said _ (record { h = max v.1 z.i; is = tree d.is (subst (λ l. SpBodies tokens (stmts_bodies v.0 0) l z.i) (sym z.list) z.is); low = omega (arith, z.low, d.low) })
with_bodies tokens room v (Err e) d h = silent e

sound-bodies : (tokens : Tokens) (room : ℕ) (xs : List Stmt) → Says (Spelt tokens room (stmts_bodies xs 0) []) (r.bodies tokens room xs)
unfolding r.bodies
sound-bodies tokens room xs = sound-bodies_from tokens room (length tokens) (stmts_bodies xs 0) []

pub sound-tree : (tokens : Tokens) (room : ℕ) → Says (Whole tokens room) (r.program_in tokens room)
unfolding r.program_in
sound-tree tokens room = after _ _ (sound-file room tokens) (λ v _ d. with_bodies tokens room v _ d (sound-bodies tokens room v.0))

-- ---- the levels of what is read, by the tree

levels_of_file : {xs : List Stmt} {h : ℕ} {a : Tokens} → SpFile xs h a → stmts_levels xs ≡ h
levels_of_file (file d) = levels-items d

levels_of_body : (tokens : Tokens) (n : Nested) {xs : List Stmt} {h : ℕ} → SpBody tokens n xs h → stmts_levels xs ≡ h
levels_of_body tokens n (body d e q) = levels-items d

-- the items of a file that is read have no more levels than there is room for
pub file_levels : (room : ℕ) (a : Tokens) (v : Read (List Stmt)) (b : Tokens) → r.file room a ≡ Ok (v, b) → (stmts_levels v.0 ≡ v.1) × (v.1 ≤ room)
file_levels room a v b q = let z = (sound-file room a).ok v b q in (levels_of_file z.is, z.low)

-- the items of a body that is read have no more levels than there is room for in its depth
pub body_levels : (tokens : Tokens) (room : ℕ) (n : Nested) (v : Read (List Stmt)) (b : Tokens) → r.read_body tokens room n ≡ Ok (v, b) → (stmts_levels v.0 ≡ v.1) × (n.depth + v.1 ≤ room)
body_levels tokens room n v b q = let z = (sound-body tokens room n).ok v b q in (levels_of_body tokens n z.is, z.low)
