-- What parts add one after another: `a`, `b` and `d` are the walk before, in between and after.
use Rattle.std.proofs.Common.{◌≡◌, List, [], ◌∷◌, ◌++◌, refl, sym, ap, subst, ◌∙◌, append_assoc, Ok, Err, Option}
use Rattle.std.specs.Prelude.{Result, OnOk}
use Rattle.std.proofs.lemmas.List.{append-nil}
use Rattle.actx_text.specs.declared.units.Units.{Units}
use Rattle.actx_scope_rules.specs.declared.early.EarlyKind.{EarlyKind}
use Rattle.actx_scope.specs.declared.findings.Findings.{Findings}
use Rattle.actx_scope_rules.specs.declared.place.Owner.{Owner}
use Rattle.actx_scope_rules.specs.declared.place.Place.{Place}
use Rattle.actx_scope_rules.specs.declared.place.Role.{Role}
use Rattle.actx_scope_rules.specs.declared.place.Role.TheVariants as roles
use Rattle.actx_scope_rules.specs.declared.slot.Found.{Found}
use Rattle.actx_scope.specs.declared.walk.Walk.{Walk}
use Rattle.actx_scope_rules.specs.Contexts.{Context, owned_place, turn_place, behind}
use Rattle.actx_scope_rules.specs.Statements.{looped}
use Rattle.actx_scope_rules.specs.declared.early.EarlyKind.TheVariants as kind
use Rattle.actx_scope_rules.specs.Scopes.{found}
use Rattle.actx_scope_rules.specs.Conditions.{first, when, is_not_declared, is_const_assigned}
use Rattle.actx_scope_rules.specs.Nodes.{Mark, at_node, at_body, Marks, none, both, node, name_node, listed, with_role, with_owner}
use Rattle.actx_scope_rules.specs.Early.{Node, Inside, spread}
use Rattle.actx_scope.specs.Walks.{with_first, with_node, after, around, AddsNode, Adds, Binds}

-- ---- findings

pub after-append : (o : Findings) (ns ms : List Node) → after o (ns ++ ms) ≡ after (after o ns) ms
unfolding after
after-append o [] ms = refl
after-append o (n ∷ ns) ms = after-append (with_node o n) ns ms

pub spread-append : (i : Inside) (ms ns : List Mark) → spread i (ms ++ ns) ≡ spread i ms ++ spread i ns
unfolding spread
spread-append i [] ns = refl
spread-append i (at_node e u ∷ ms) ns = ap (λ z. record { errors = e; uses = u } ∷ z) (spread-append i ms ns)
spread-append i (at_body r c ∷ ms) ns = ap (λ z. i r c ++ z) (spread-append i ms ns) ∙ sym (append_assoc (i r c) (spread i ms) (spread i ns))

-- marks behind marks
pub follow : (i : Inside) (o m d : Findings) (ms ns : List Mark) → m ≡ after o (spread i ms) → d ≡ after m (spread i ns) → d ≡ after o (spread i (ms ++ ns))
follow i o m d ms ns p q = q ∙ (ap (λ z. after z (spread i ns)) p ∙ (sym (after-append o (spread i ms) (spread i ns)) ∙ ap (λ z. after o z) (sym (spread-append i ms ns))))

-- marks behind a node
pub put : (i : Inside) (o m d : Findings) (errors : List EarlyKind) (uses : List Found) (ms : List Mark) → m ≡ with_first o (first errors) uses → d ≡ after m (spread i ms)
    → d ≡ after o (spread i (at_node errors uses ∷ ms))
unfolding spread after
put i o m d errors uses ms p q = q ∙ ap (λ z. after z (spread i ms)) p

pub nothing_more : (i : Inside) (o : Findings) → o ≡ after o (spread i [])
unfolding spread after
nothing_more i o = refl

-- ---- contexts

pub around-same : (a b : Walk) (r : Role) (p : Place) → b.scopes ≡ a.scopes → b.earlier ≡ a.earlier → around b r p ≡ around a r p
around-same a b r p s e =
    let at_scopes : around b r p ≡ record { scopes = a.scopes; earlier = b.earlier; role = r; place = p } = ap (λ z. record { scopes = z; earlier = b.earlier; role = r; place = p }) s in
    let at_earlier : record { scopes = a.scopes; earlier = b.earlier; role = r; place = p } ≡ around a r p = ap (λ z. record { scopes = a.scopes; earlier = z; role = r; place = p }) e in
    at_scopes ∙ at_earlier

-- ---- parts

pub adds-none : (i : Inside) (r : Role) (p : Place) (a : Walk) → Adds i none r p a a
adds-none i r p a = record { scopes = refl; earlier = refl; out = nothing_more i a.out }

pub adds-both : (i : Inside) (f g : Marks) (r : Role) (p : Place) (a b d : Walk) → Adds i f r p a b → Adds i g r p b d → Adds i (both f g) r p a d
adds-both i f g r p a b d s t = record {
  scopes = t.scopes ∙ s.scopes;
  earlier = t.earlier ∙ s.earlier;
  out = follow i a.out b.out d.out (f (around a r p)) (g (around a r p)) s.out (t.out ∙ ap (λ z. after b.out (spread i (g z))) (around-same a b r p s.scopes s.earlier));
}

pub adds-behind_node : (i : Inside) (errors : List EarlyKind) (uses : List Found) (f g : Marks) (r s : Role) (p q : Place) (a b d : Walk) → AddsNode (first errors) uses a b → Adds i f s q b d
    → g (around a r p) ≡ at_node errors uses ∷ f (around a s q) → Adds i g r p a d
adds-behind_node i errors uses f g r s p q a b d n t e = record {
  scopes = t.scopes ∙ n.scopes;
  earlier = t.earlier ∙ n.earlier;
  out = put i a.out b.out d.out errors uses (f (around a s q)) n.out (t.out ∙ ap (λ z. after b.out (spread i (f z))) (around-same a b s q n.scopes n.earlier)) ∙ ap (λ z. after a.out (spread i z)) (sym e);
}

pub adds-node : (i : Inside) (errors : Place → List EarlyKind) (f : Marks) (r : Role) (p : Place) (a b d : Walk) → AddsNode (first (errors p)) [] a b → Adds i f roles.Evaluated p b d → Adds i (node errors f) r p a d
adds-node i errors f r p a b d n t = adds-behind_node i (errors p) [] f (node errors f) r roles.Evaluated p p a b d n t refl

-- a node with nothing in it
pub adds-leaf : (i : Inside) (errors : List EarlyKind) (uses : List Found) (g : Marks) (r : Role) (p : Place) (a b : Walk) → AddsNode (first errors) uses a b → g (around a r p) ≡ at_node errors uses ∷ []
    → Adds i g r p a b
adds-leaf i errors uses g r p a b n e = adds-behind_node i errors uses none g r r p p a b b n (adds-none i r p b) e

-- another name for what a part adds
pub adds-as : (i : Inside) (f g : Marks) (r s : Role) (p q : Place) (a b : Walk) → Adds i f s q a b → g (around a r p) ≡ f (around a s q) → Adds i g r p a b
adds-as i f g r s p q a b t e = record { scopes = t.scopes; earlier = t.earlier; out = t.out ∙ ap (λ z. after a.out (spread i z)) (sym e) }

pub adds-role : (i : Inside) (s : Role) (f : Marks) (r : Role) (p : Place) (a b : Walk) → Adds i f s p a b → Adds i (with_role s f) r p a b
adds-role i s f r p a b t = adds-as i f (with_role s f) r s p p a b t refl

pub adds-owner : (i : Inside) (o : Owner) (f : Marks) (r : Role) (p : Place) (a b : Walk) → Adds i f r (owned_place o p) a b → Adds i (with_owner o f) r p a b
adds-owner i o f r p a b t = adds-as i f (with_owner o f) r r p (owned_place o p) a b t refl

-- a part in a scope that is left again: `b` is inside, `d` behind the part, `e` outside
pub adds-inside : (i : Inside) (f g : Marks) (r s : Role) (p q : Place) (a b d e : Walk) → b.out ≡ a.out → Adds i f s q b d → e.scopes ≡ a.scopes → e.earlier ≡ a.earlier → e.out ≡ d.out
    → g (around a r p) ≡ f (around b s q) → Adds i g r p a e
adds-inside i f g r s p q a b d e o t es ee eo h = record {
  scopes = es;
  earlier = ee;
  out = eo ∙ (t.out ∙ (ap (λ z. after z (spread i (f (around b s q)))) o ∙ ap (λ z. after a.out (spread i z)) (sym h)));
}

-- the same, where names are bound inside
pub binds-inside : (i : Inside) (f g : Marks) (names : List Units) (r s : Role) (p q : Place) (a b d e : Walk) → b.out ≡ a.out → Binds i f names s q b d → e.scopes ≡ a.scopes → e.earlier ≡ a.earlier
    → e.out ≡ d.out → g (around a r p) ≡ f (around b s q) → Adds i g r p a e
binds-inside i f g names r s p q a b d e o t es ee eo h = record {
  scopes = es;
  earlier = ee;
  out = eo ∙ (t.out ∙ (ap (λ z. after z (spread i (f (around b s q)))) o ∙ ap (λ z. after a.out (spread i z)) (sym h)));
}

-- ---- loops: what is left of a list, added to what was found, gives the whole

pub record Owes (i : Inside) (whole rest : Marks) (r : Role) (p : Place) (start now : Walk) : Type 0 where
  pub scopes : now.scopes ≡ start.scopes
  pub earlier : now.earlier ≡ start.earlier
  pub out : after now.out (spread i (rest (around start r p))) ≡ after start.out (spread i (whole (around start r p)))

pub owes-all : (i : Inside) (f : Marks) (r : Role) (p : Place) (a : Walk) → Owes i f f r p a a
owes-all i f r p a = record { scopes = refl; earlier = refl; out = refl }

pub owes-less : (i : Inside) (whole f rest left : Marks) (r s : Role) (p q : Place) (start b d : Walk) → Adds i f s q b d → Owes i whole left r p start b
    → left (around start r p) ≡ f (around start s q) ++ rest (around start r p) → Owes i whole rest r p start d
owes-less i whole f rest left r s p q start b d t keeps e =
    let c : Context = around start r p in
    let step : d.out ≡ after b.out (spread i (f (around start s q))) = t.out ∙ ap (λ z. after b.out (spread i (f z))) (around-same start b s q keeps.scopes keeps.earlier) in
    record {
      scopes = t.scopes ∙ keeps.scopes;
      earlier = t.earlier ∙ keeps.earlier;
      out = follow i b.out d.out (after d.out (spread i (rest c))) (f (around start s q)) (rest c) step refl ∙ (ap (λ z. after b.out (spread i z)) (sym e) ∙ keeps.out);
    }

pub owes-nothing : (i : Inside) (whole left : Marks) (r : Role) (p : Place) (start now : Walk) → Owes i whole left r p start now → left (around start r p) ≡ [] → Adds i whole r p start now
owes-nothing i whole left r p start now keeps e = record {
  scopes = keeps.scopes;
  earlier = keeps.earlier;
  out = nothing_more i now.out ∙ (ap (λ z. after now.out (spread i z)) (sym e) ∙ keeps.out);
}

-- ---- loops that bind names: what is left stands behind the names so far

pub record OwesBound (i : Inside) (whole rest : Marks) (names left : List Units) (r : Role) (p : Place) (start now : Walk) : Type 0 where
  pub scopes : now.scopes ≡ start.scopes
  pub earlier : now.earlier ++ left ≡ start.earlier ++ names
  pub out : after now.out (spread i (rest (around now r p))) ≡ after start.out (spread i (whole (around start r p)))

pub bound-all : (i : Inside) (f : Marks) (names : List Units) (r : Role) (p : Place) (a : Walk) → OwesBound i f f names names r p a a
bound-all i f names r p a = record { scopes = refl; earlier = refl; out = refl }

-- `d` is behind the part, `e` behind its names
pub bound-less : (i : Inside) (whole f rest left : Marks) (names bound more others : List Units) (r : Role) (p : Place) (start b d e : Walk) → Adds i f r p b d → e.scopes ≡ d.scopes → e.out ≡ d.out
    → e.earlier ≡ d.earlier ++ bound → OwesBound i whole left names more r p start b → left (around b r p) ≡ f (around b r p) ++ rest (behind bound (around b r p)) → more ≡ bound ++ others
    → OwesBound i whole rest names others r p start e
bound-less i whole f rest left names bound more others r p start b d e t es eo ee keeps h hn =
    let c : Context = around b r p in
    let k : Context = behind bound c in
    let inside : around e r p ≡ k =
    let at_scopes : around e r p ≡ record { scopes = b.scopes; earlier = e.earlier; role = r; place = p } = ap (λ z. record { scopes = z; earlier = e.earlier; role = r; place = p }) (es ∙ t.scopes) in
    let at_earlier : record { scopes = b.scopes; earlier = e.earlier; role = r; place = p } ≡ k = ap (λ z. record { scopes = b.scopes; earlier = z; role = r; place = p }) (ee ∙ ap (λ z. z ++ bound) t.earlier) in
    at_scopes ∙ at_earlier in
    record {
      scopes = es ∙ (t.scopes ∙ keeps.scopes);
      earlier = ap (λ z. z ++ others) (ee ∙ ap (λ z. z ++ bound) t.earlier) ∙ (append_assoc b.earlier bound others ∙ (ap (λ z. b.earlier ++ z) (sym hn) ∙ keeps.earlier));
      out = ap (λ z. after e.out (spread i (rest z))) inside
          ∙ (ap (λ z. after z (spread i (rest k))) eo
          ∙ (follow i b.out d.out (after d.out (spread i (rest k))) (f c) (rest k) t.out refl ∙ (ap (λ z. after b.out (spread i z)) (sym h) ∙ keeps.out)));
    }

pub bound-nothing : (i : Inside) (whole left : Marks) (names others : List Units) (r : Role) (p : Place) (start now : Walk) → OwesBound i whole left names others r p start now
    → left (around now r p) ≡ [] → others ≡ [] → Binds i whole names r p start now
bound-nothing i whole left names others r p start now keeps e n = record {
  scopes = keeps.scopes;
  earlier = sym (append-nil now.earlier) ∙ (ap (λ z. now.earlier ++ z) (sym n) ∙ keeps.earlier);
  out = nothing_more i now.out ∙ (ap (λ z. after now.out (spread i z)) (sym e) ∙ keeps.out);
}

-- ---- results

-- a node with nothing in it
pub leaf_ok : {T E : Type 0} (i : Inside) (errors : Place → List EarlyKind) (r : Role) (p : Place) (a b : Walk) (x : Result T E) → OnOk x (AddsNode (first (errors p)) [] a b) → OnOk x (Adds i (node errors none) r p a b)
leaf_ok i errors r p a b (Ok y) n = adds-leaf i (errors p) [] (node errors none) r p a b n refl
leaf_ok i errors r p a b (Err e) n = n

pub role_ok : {T E : Type 0} (i : Inside) (s : Role) (f : Marks) (r : Role) (p : Place) (a b : Walk) (x : Result T E) → OnOk x (Adds i f s p a b) → OnOk x (Adds i (with_role s f) r p a b)
role_ok i s f r p a b (Ok y) t = adds-role i s f r p a b t
role_ok i s f r p a b (Err e) t = t

-- a part to which its role is nothing
pub any_role_ok : {T E : Type 0} (i : Inside) (f : Marks) (r s : Role) (p : Place) (a b : Walk) (x : Result T E) → OnOk x (Adds i f s p a b) → f (around a r p) ≡ f (around a s p) → OnOk x (Adds i f r p a b)
any_role_ok i f r s p a b (Ok y) t e = adds-as i f f r s p p a b t e
any_role_ok i f r s p a b (Err e) t h = t

-- the body of a loop
pub turn_ok : (i : Inside) (f : Marks) (r : Role) (p : Place) (a b : Walk) → Adds i f r (turn_place p) a b → Adds i (looped f) r p a b
turn_ok i f r p a b t = adds-as i f (looped f) r r p (turn_place p) a b t refl

-- a use of a name
pub name_ok : {T E : Type 0} (i : Inside) (name : Units) (r : Role) (p : Place) (a b : Walk) (x : Option Found) (error : Option EarlyKind) (y : Result T E) → x ≡ found a.scopes name
    → error ≡ first (when (is_not_declared x) kind.NotDeclared ++ when (is_const_assigned r x) kind.ConstAssigned) → OnOk y (AddsNode error (listed x) a b) → OnOk y (Adds i (name_node name) r p a b)
name_ok i name r p a b x error (Ok y) ex ee n =
    let errors : Option Found → List EarlyKind = λ z. when (is_not_declared z) kind.NotDeclared ++ when (is_const_assigned r z) kind.ConstAssigned in
    let m : AddsNode (first (errors (found a.scopes name))) (listed (found a.scopes name)) a b =
    subst (λ z. AddsNode (first (errors z)) (listed z) a b) ex (subst (λ z. AddsNode z (listed x) a b) ee n) in
    adds-leaf i (errors (found a.scopes name)) (listed (found a.scopes name)) (name_node name) r p a b m refl
name_ok i name r p a b x error (Err e) ex ee n = n
