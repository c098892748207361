-- Patterns, parameters and statements in a walk, and what is left of lists of parts.
use Rattle.std.proofs.Common.{◌≡◌, ℕ, ◌+◌, ◌<◌, ◌≤◌, Bool, ◌||◌, List, [], ◌∷◌, ◌++◌, length, get_or, map, drop, take, refl, sym, ap, subst, ◌∙◌, append_assoc, Option, Some, None}
use Rattle.std.specs.Prelude.{is_some}
use Rattle.std.proofs.lemmas.List.{append-nil}
use Rattle.actx_text.specs.declared.units.Units.{Units}
use Rattle.actx_tree.specs.declared.function.Member.{Member}
use Rattle.actx_tree.specs.declared.stmt.Stmt.{Stmt}
use Rattle.actx_scope_rules.specs.declared.early.EarlyKind.TheVariants as kind
use Rattle.actx_scope_rules.specs.declared.place.Place.{Place}
use Rattle.actx_scope_rules.specs.declared.place.Owner.TheVariants as owner
use Rattle.actx_scope_rules.specs.declared.place.Role.{Role}
use Rattle.actx_scope_rules.specs.declared.place.Role.TheVariants as roles
use Rattle.actx_scope.specs.declared.walk.Walk.{Walk}
use Rattle.actx_scope_rules.specs.Scopes.{Scope, slot_names, opened}
use Rattle.actx_scope_rules.specs.Contexts.{Context, behind, owned_by}
use Rattle.actx_scope_rules.specs.Conditions.{when, first}
use Rattle.actx_scope_rules.specs.Nodes.{Part, mapped, all, binding, or_none, listed, has_some, all_names, any_repeats, rest_names, binding_node, members_marks, member_part_of, is_constructor}
use Rattle.actx_scope_rules.specs.Statements as statements
use Rattle.actx_scope_rules.specs.Statements.{Statement, statement, all_slots, in_order}
use Rattle.actx_scope_rules.specs.Early.{Inside, spread}
use Rattle.actx_scope.specs.Walks.{with_first, after, around, AddsNode, Adds, Binds}
use Rattle.actx_scope_rules.specs.Scopes.{has_any, closed}
use Rattle.actx_scope_rules.proofs.Lists.{left, done}
use Rattle.actx_scope_rules.proofs.Names.{slot_names-append, slots-left_of_stmts, slots-done_of_stmts}
use Rattle.actx_scope.proofs.Adds.{follow, put, around-same}
use Rattle.actx_scope.proofs.Insides.{back-again, closed-opened}

-- ---- what is left of lists

pub all-left : {X : Type 0} (f : X → Part) (xs : List X) (i : ℕ) (x : X) (c : Context) → i < length xs → x ≡ get_or xs i x → all (map f (drop i xs)) c ≡ (f x).marks c ++ all (map f (drop (i + 1) xs)) c
all-left f xs i x c h e = ap (λ z. all (map f z) c) (left xs i x h e)

pub all-done : {X : Type 0} (f : X → Part) (xs : List X) (i : ℕ) (c : Context) → length xs ≤ i → all (map f (drop i xs)) c ≡ []
all-done f xs i c h = ap (λ z. all (map f z) c) (done xs i h)

pub binding-left : {X : Type 0} (f : X → Part) (xs : List X) (i : ℕ) (x : X) (c : Context) → i < length xs → x ≡ get_or xs i x
    → binding (map f (drop i xs)) c ≡ (f x).marks c ++ binding (map f (drop (i + 1) xs)) (behind (f x).names c)
binding-left f xs i x c h e = ap (λ z. binding (map f z) c) (left xs i x h e)

pub binding-done : {X : Type 0} (f : X → Part) (xs : List X) (i : ℕ) (c : Context) → length xs ≤ i → binding (map f (drop i xs)) c ≡ []
binding-done f xs i c h = ap (λ z. binding (map f z) c) (done xs i h)

pub members-left : (xs : List Member) (i : ℕ) (x : Member) (has_parent before : Bool) (c : Context) → i < length xs → x ≡ get_or xs i x
    → members_marks (map member_part_of (drop i xs)) has_parent before c
    ≡ (member_part_of x).marks (owned_by (owner.Class has_parent before) c) ++ members_marks (map member_part_of (drop (i + 1) xs)) has_parent (before || is_constructor (member_part_of x)) c
members-left xs i x has_parent before c h e = ap (λ z. members_marks (map member_part_of z) has_parent before c) (left xs i x h e)

pub members-done : (xs : List Member) (i : ℕ) (has_parent before : Bool) (c : Context) → length xs ≤ i → members_marks (map member_part_of (drop i xs)) has_parent before c ≡ []
members-done xs i has_parent before c h = ap (λ z. members_marks (map member_part_of z) has_parent before c) (done xs i h)

pub order-left : (xs : List Stmt) (i : ℕ) (x : Stmt) (c : Context) → i < length xs → x ≡ get_or xs i x
    → in_order (map statement (drop i xs)) c ≡ (statement x).marks c ++ in_order (map statement (drop (i + 1) xs)) (behind (slot_names (statement x).slots) c)
order-left xs i x c h e = ap (λ z. in_order (map statement z) c) (left xs i x h e)

pub order-done : (xs : List Stmt) (i : ℕ) (c : Context) → length xs ≤ i → in_order (map statement (drop i xs)) c ≡ []
order-done xs i c h = ap (λ z. in_order (map statement z) c) (done xs i h)

pub declared-left : (xs : List Stmt) (i : ℕ) (x : Stmt) → i < length xs → x ≡ get_or xs i x
    → slot_names (all_slots (map statement (drop i xs))) ≡ slot_names (statement x).slots ++ slot_names (all_slots (map statement (drop (i + 1) xs)))
declared-left xs i x h e = ap (λ z. slot_names z) (slots-left_of_stmts xs i x h e) ∙ slot_names-append (statement x).slots (all_slots (map statement (drop (i + 1) xs)))

pub declared-done : (xs : List Stmt) (i : ℕ) → length xs ≤ i → slot_names (all_slots (map statement (drop i xs))) ≡ []
declared-done xs i h = ap (λ z. slot_names z) (slots-done_of_stmts xs i h)

pub has_some-mapped : {A B : Type 0} (f : A → B) (x : Option A) → is_some x ≡ has_some (mapped f x)
has_some-mapped f None = refl
has_some-mapped f (Some y) = refl

-- ---- patterns

-- names that are bound behind parts are no nodes
pub binding-rest : (ps : List Part) (rest : Option Units) (c : Context) → binding (ps ++ rest_names rest) c ≡ binding ps c
binding-rest [] None c = refl
binding-rest [] (Some name) c = refl
binding-rest (p ∷ ps) rest c = ap (λ z. p.marks c ++ z) (binding-rest ps rest (behind p.names c))

behind-behind : (xs ys : List Units) (c : Context) → behind ys (behind xs c) ≡ behind (xs ++ ys) c
behind-behind xs ys c = ap (λ z. record c { earlier = z }) (append_assoc c.earlier xs ys)

behind-none : (c : Context) → c ≡ behind [] c
behind-none c = ap (λ z. record c { earlier = z }) (sym (append-nil c.earlier))

pub binding-last : (ps : List Part) (rest : Option Part) (c : Context) → binding (ps ++ listed rest) c ≡ binding ps c ++ or_none rest (behind (all_names ps) c)
binding-last [] None c = refl
binding-last [] (Some x) c = append-nil (x.marks c) ∙ ap (λ z. x.marks z) (behind-none c)
binding-last (q ∷ ps) rest c = ap (λ z. q.marks c ++ z) (binding-last ps rest (behind q.names c) ∙ ap (λ z. binding ps (behind q.names c) ++ or_none rest z) (behind-behind q.names (all_names ps) c))
    ∙ sym (append_assoc (q.marks c) (binding ps (behind q.names c)) (or_none rest (behind (q.names ++ all_names ps) c)))

-- A pattern: `o` is the walk at first, `a` when it was asked whether names repeat, `b` behind its node, `d` behind its parts, `e`
-- when their names are forgotten.
pub pattern_adds : (i : Inside) (ps : List Part) (rest : Option Units) (r : Role) (p : Place) (o a b d e : Walk) (start : ℕ) (repeats : Bool) → repeats ≡ any_repeats (ps ++ rest_names rest) o.earlier
    → a.scopes ≡ o.scopes → a.earlier ≡ o.earlier → a.out ≡ o.out → AddsNode (first (when repeats kind.Redeclared)) [] a b → start ≡ length b.earlier → Binds i (binding ps) (all_names ps) roles.Evaluated p b d
    → e.scopes ≡ d.scopes → e.out ≡ d.out → e.earlier ≡ take start d.earlier → Adds i (binding_node (ps ++ rest_names rest)) r p o e
pattern_adds i ps rest r p o a b d e start repeats er sa ae ao n s t es eo ee =
    let errors = when (any_repeats (ps ++ rest_names rest) o.earlier) kind.Redeclared in
    let c : Context = around o roles.Evaluated p in
    let same : around b roles.Evaluated p ≡ c = around-same o b roles.Evaluated p (n.scopes ∙ sa) (n.earlier ∙ ae) in
    record {
      scopes = es ∙ (t.scopes ∙ (n.scopes ∙ sa));
      earlier = back-again e.earlier d.earlier b.earlier (all_names ps) start s t.earlier ee ∙ (n.earlier ∙ ae);
      out = put i o.out b.out e.out errors [] (binding (ps ++ rest_names rest) c)
          (n.out ∙ (ap (λ z. with_first z (first (when repeats kind.Redeclared)) []) ao ∙ ap (λ z. with_first o.out (first (when z kind.Redeclared)) []) er))
          (eo ∙ (t.out ∙ (ap (λ z. after b.out (spread i (binding ps z))) same ∙ ap (λ z. after b.out (spread i z)) (sym (binding-rest ps rest c)))));
    }

-- a declaration, which has no name after `...`
pub declared_adds : (i : Inside) (ps : List Part) (r : Role) (p : Place) (o a b d e : Walk) (start : ℕ) (repeats : Bool) → repeats ≡ any_repeats (ps ++ rest_names None) o.earlier
    → a.scopes ≡ o.scopes → a.earlier ≡ o.earlier → a.out ≡ o.out → AddsNode (first (when repeats kind.Redeclared)) [] a b → start ≡ length b.earlier → Binds i (binding ps) (all_names ps) roles.Evaluated p b d
    → e.scopes ≡ d.scopes → e.out ≡ d.out → e.earlier ≡ take start d.earlier → Adds i (binding_node ps) r p o e
declared_adds i ps r p o a b d e start repeats er sa ae ao n s t es eo ee =
    subst (λ z. Adds i (binding_node z) r p o e) (append-nil ps) (pattern_adds i ps None r p o a b d e start repeats er sa ae ao n s t es eo ee)

-- parameters: `b` is behind the first of them, `d` behind the last, `e` when their names are forgotten
pub params_adds : (i : Inside) (ps : List Part) (rest : Option Part) (p : Place) (a b d e : Walk) (start : ℕ) → start ≡ length a.earlier → Binds i (binding ps) (all_names ps) roles.Evaluated p a b
    → Adds i (or_none rest) roles.Evaluated p b d → e.scopes ≡ d.scopes → e.out ≡ d.out → e.earlier ≡ take start d.earlier → Adds i (binding (ps ++ listed rest)) roles.Evaluated p a e
params_adds i ps rest p a b d e start s t u es eo ee =
    let c : Context = around a roles.Evaluated p in
    let k : Walk = record { scopes = a.scopes; earlier = a.earlier ++ all_names ps; out = a.out } in
    let same : around b roles.Evaluated p ≡ behind (all_names ps) c = around-same k b roles.Evaluated p t.scopes t.earlier in
    record {
      scopes = es ∙ (u.scopes ∙ t.scopes);
      earlier = back-again e.earlier d.earlier a.earlier (all_names ps) start s (u.earlier ∙ t.earlier) ee;
      out = follow i a.out b.out e.out (binding ps c) (or_none rest (behind (all_names ps) c)) t.out (eo ∙ (u.out ∙ ap (λ z. after b.out (spread i (or_none rest z))) same))
          ∙ ap (λ z. after a.out (spread i z)) (sym (binding-last ps rest c));
    }

-- ---- bodies

-- the statements of a body: `b` is in their scope, `d` behind them, `e` when their names are forgotten and the scope is left
pub body_adds : (i : Inside) (items : List Stmt) (p : Place) (slots : Scope) (a b d e : Walk) (start : ℕ) (o : Bool) → slots ≡ all_slots (map statement items) → b.scopes ≡ opened slots a.scopes → b.earlier ≡ a.earlier → b.out ≡ a.out
    → o ≡ has_any slots → start ≡ length b.earlier → Binds i (in_order (map statement items)) (slot_names (all_slots (map statement items))) roles.Evaluated p b d → e.scopes ≡ closed o d.scopes → e.out ≡ d.out
    → e.earlier ≡ take start d.earlier → Adds i (statements.body_marks items) roles.Evaluated p a e
body_adds i items p slots a b d e start o el bs be bo eo s t es eout ee =
    let ss : List Statement = map statement items in
    let k : Walk = record { scopes = opened (all_slots ss) a.scopes; earlier = a.earlier; out = a.out } in
    record {
      scopes = es ∙ (ap (λ z. closed z d.scopes) eo ∙ (ap (λ z. closed (has_any slots) z) (t.scopes ∙ bs) ∙ closed-opened slots a.scopes));
      earlier = back-again e.earlier d.earlier b.earlier (slot_names (all_slots ss)) start s t.earlier ee ∙ be;
      out = eout ∙ (t.out ∙ (ap (λ z. after z (spread i (in_order ss (around b roles.Evaluated p)))) bo
          ∙ ap (λ z. after a.out (spread i (in_order ss z))) (around-same k b roles.Evaluated p (bs ∙ ap (λ z. opened z a.scopes) el) be)));
    }
