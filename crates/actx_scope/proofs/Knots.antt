-- The bodies of functions in a list of bodies.
use Rattle.std.proofs.Common.{◌≡◌, ℕ, ◌+◌, ◌<◌, List, [], ◌∷◌, length, map, refl, sym, ap, subst, ◌∙◌, Ok, Err, Option, Some, None, true, false, Bool, arith}
use Rattle.std.specs.Prelude.{◌==◌, if◌then◌else◌, Result, OnOk}
use Rattle.std.proofs.lemmas.List.{append-nil}
use Rattle.actx_tree.specs.declared.function.Unread.{Unread}
use Rattle.actx_tree.specs.declared.stmt.Stmt.{Stmt}
use Rattle.actx_tree.specs.declared.tree.BodyTree.{BodyTree}
use Rattle.actx_tree.specs.declared.tree.Tree.{Tree}
use Rattle.actx_scope_rules.specs.declared.place.Place.{Place}
use Rattle.actx_scope_rules.specs.declared.place.Role.TheVariants as roles
use Rattle.actx_scope.specs.declared.walk.Walk.{Walk}
use Rattle.actx_scope_rules.specs.Contexts.{Context, file_place}
use Rattle.actx_scope_rules.specs.Nodes.{body_marks}
use Rattle.actx_scope_rules.specs.Statements as statements
use Rattle.actx_scope_rules.specs.Early.{Node, spread, nodes_in, token_count, tree_nodes}
use Rattle.actx_scope.specs.Bodies.{body_of}
use Rattle.actx_scope.specs.Walks.{after, around, with_part, nothing, Adds}

-- the nodes of a body that was found
abbrev pub nodes_of : ℕ → Option (BodyTree × List BodyTree) → Context → List Node
nodes_of count None c = []
nodes_of count (Some x) c = spread (nodes_in count x.1) (statements.body_marks x.0.items c)

one_more : (d : Bool) (count : ℕ) (b : BodyTree) (bs : List BodyTree) (range : Unread) (c : Context) → nodes_in count bs range c ≡ nodes_of count (body_of count bs range) c
    → (if d then spread (nodes_in count bs) (statements.body_marks b.items c) else nodes_in count bs range c) ≡ nodes_of count (if d then Some (b, bs) else body_of count bs range) c
one_more true count b bs range c e = refl
one_more false count b bs range c e = e

pub nodes_found : (count : ℕ) (bs : List BodyTree) (range : Unread) (c : Context) → nodes_in count bs range c ≡ nodes_of count (body_of count bs range) c
unfolding nodes_in body_of
nodes_found count [] range c = refl
nodes_found count (b ∷ bs) range c = one_more (b.from + range.from == count) count b bs range c (nodes_found count bs range c)

fewer_here : (d : Bool) (count : ℕ) (a : BodyTree) (bs : List BodyTree) (range : Unread) (b : BodyTree) (rest : List BodyTree) → (body_of count bs range ≡ Some (b, rest) → length rest < length bs)
    → (if d then Some (a, bs) else body_of count bs range) ≡ Some (b, rest) → length rest < length (a ∷ bs)
fewer_here true count a bs range b rest f e = let p : ◌≡◌ {A = BodyTree × List BodyTree} (a, bs) (b, rest) = cc in let h : bs ≡ rest = ap (λ (x : BodyTree × List BodyTree). x.1) p in rw (sym h) (omega arith)
fewer_here false count a bs range b rest f e = let h = f e in omega (arith, h)

pub fewer : (count : ℕ) (bs : List BodyTree) (range : Unread) (b : BodyTree) (rest : List BodyTree) → body_of count bs range ≡ Some (b, rest) → length rest < length bs
unfolding body_of
fewer count [] range b rest e = absurd (let h : None ≡ Some (b, rest) = e in cc)
fewer count (a ∷ bs) range b rest e = fewer_here (a.from + range.from == count) count a bs range b rest (fewer count bs range b rest) e

-- a body that was found was added
pub body_found : (count : ℕ) (bs : List BodyTree) (range : Unread) (b : BodyTree) (rest : List BodyTree) (p : Place) (a d : Walk) → body_of count bs range ≡ Some (b, rest)
    → Adds (nodes_in count rest) (statements.body_marks b.items) roles.Evaluated p a d → Adds (nodes_in count bs) (body_marks range) roles.Evaluated p a d
unfolding spread
body_found count bs range b rest p a d e t = record {
  scopes = t.scopes;
  earlier = t.earlier;
  out = t.out ∙ ap (λ z. after a.out z) (sym (append-nil (nodes_in count bs range (around a roles.Evaluated p)) ∙ (nodes_found count bs range (around a roles.Evaluated p) ∙ ap (λ z. nodes_of count z (around a roles.Evaluated p)) e)));
}

-- there is none
pub body_missing : (count : ℕ) (bs : List BodyTree) (range : Unread) (p : Place) (a : Walk) → body_of count bs range ≡ None → Adds (nodes_in count bs) (body_marks range) roles.Evaluated p a a
unfolding spread after
body_missing count bs range p a e = record {
  scopes = refl;
  earlier = refl;
  out = ap (λ z. after a.out z) (sym (append-nil (nodes_in count bs range (around a roles.Evaluated p)) ∙ (nodes_found count bs range (around a roles.Evaluated p) ∙ ap (λ z. nodes_of count z (around a roles.Evaluated p)) e)));
}

pub found_ok : {T E : Type 0} (count n : ℕ) (bs : List BodyTree) (range : Unread) (b : BodyTree) (rest : List BodyTree) (p : Place) (a d : Walk) (x : Result T E) → n ≡ count → body_of count bs range ≡ Some (b, rest)
    → OnOk x (Adds (nodes_in n rest) (statements.body_marks b.items) roles.Evaluated p a d) → OnOk x (Adds (nodes_in count bs) (body_marks range) roles.Evaluated p a d)
found_ok count n bs range b rest p a d (Ok y) en e t = body_found count bs range b rest p a d e (subst (λ z. Adds (nodes_in z rest) (statements.body_marks b.items) roles.Evaluated p a d) en t)
found_ok count n bs range b rest p a d (Err y) en e t = t

-- ---- a whole file

-- what was added for the statements of a file gives the nodes of the file
pub whole_tree : (tree : Tree) (count : ℕ) (bodies : List BodyTree) (items : List Stmt) (p : Place) (a d : Walk) → count ≡ token_count tree → bodies ≡ tree.bodies → items ≡ tree.items → p ≡ file_place
    → a ≡ record { scopes = []; earlier = []; out = nothing } → Adds (nodes_in count bodies) (statements.block (map statements.statement items)) roles.Evaluated p a d → d.out ≡ after nothing (tree_nodes tree)
unfolding tree_nodes
whole_tree tree count bodies items p a d ec eb ei ep ea t =
    let first : with_part (nodes_in count bodies) (statements.block (map statements.statement items)) roles.Evaluated p a ≡ with_part (nodes_in count tree.bodies) (statements.block (map statements.statement tree.items)) roles.Evaluated file_place (record { scopes = []; earlier = []; out = nothing }) =
    rw (eb, ei, ep, ea) refl in
    t.out ∙ (first ∙ ap (λ z. with_part (nodes_in z tree.bodies) (statements.block (map statements.statement tree.items)) roles.Evaluated file_place (record { scopes = []; earlier = []; out = nothing })) ec)
