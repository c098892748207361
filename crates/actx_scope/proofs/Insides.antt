-- Parts in scopes that are left again, and parts behind names: `a` is the walk before, `b` inside, `d` behind the part, `e` at
-- the end.
use Rattle.std.proofs.Common.{◌≡◌, ℕ, Bool, true, false, List, [], ◌∷◌, ◌++◌, length, take, refl, sym, ap, subst, ◌∙◌, Option}
use Rattle.std.proofs.Math.Seq.{take-append_seam}
use Rattle.actx_text.specs.declared.units.Units.{Units}
use Rattle.actx_tree.specs.declared.function.Flow.{Flow}
use Rattle.actx_scope_rules.specs.declared.place.Place.{Place}
use Rattle.actx_scope_rules.specs.declared.place.Role.{Role}
use Rattle.actx_scope_rules.specs.declared.place.Role.TheVariants as roles
use Rattle.actx_scope.specs.declared.walk.Walk.{Walk}
use Rattle.actx_scope.specs.declared.walk.Outer.{Outer}
use Rattle.actx_scope_rules.specs.Scopes.{Scope, slots_of, opened}
use Rattle.actx_scope_rules.specs.Contexts.{arrow_place, body_place}
use Rattle.actx_scope_rules.specs.Conditions.{first, when}
use Rattle.actx_scope_rules.specs.declared.early.EarlyKind.TheVariants as kind
use Rattle.actx_scope_rules.specs.Nodes.{Marks, Part, both, or_none, arrow_flow, arrow_node, members_marks, has_some}
use Rattle.actx_scope_rules.specs.Statements.{scoped}
use Rattle.actx_scope_rules.specs.Early.{Inside, spread}
use Rattle.actx_scope.specs.Walks.{with_first, after, around, AddsNode, Adds, Binds, Begins, Ends, called, named, class_inner}
use Rattle.actx_scope_rules.specs.Scopes.{has_any, closed}
use Rattle.actx_scope.proofs.Adds.{adds-behind_node, adds-both, adds-as, adds-inside, binds-inside, around-same}

-- the names as they were
pub back-again : (e d was names : List Units) (start : ℕ) → start ≡ length was → d ≡ was ++ names → e ≡ take start d → e ≡ was
back-again e d was names start s h t = t ∙ (ap (λ z. take z d) s ∙ (ap (λ z. take (length was) z) h ∙ take-append_seam was names))

-- a part behind names
pub behind_adds : (i : Inside) (f : Marks) (names : List Units) (r : Role) (p : Place) (a b d e : Walk) (start : ℕ) → start ≡ length a.earlier → b.scopes ≡ a.scopes → b.out ≡ a.out → b.earlier ≡ a.earlier ++ names
    → Adds i f r p b d → e.scopes ≡ d.scopes → e.out ≡ d.out → e.earlier ≡ take start d.earlier → Adds i (named names f) r p a e
behind_adds i f names r p a b d e start s bs bo be t es eo ee =
    let k : Walk = record { scopes = a.scopes; earlier = a.earlier ++ names; out = a.out } in
    adds-inside i f (named names f) r r p p a b d e bo t (es ∙ (t.scopes ∙ bs)) (back-again e.earlier d.earlier a.earlier names start s (t.earlier ∙ be) ee) eo (ap (λ z. f z) (sym (around-same k b r p bs be)))

-- names that are bound and forgotten
-- ---- scopes

pub closed-opened : (slots : Scope) (scopes : List Scope) → closed (has_any slots) (opened slots scopes) ≡ scopes
closed-opened [] scopes = refl
closed-opened (s ∷ ss) scopes = refl

-- a part in a scope of these slots
pub scoped_adds : (i : Inside) (f : Marks) (slots : Scope) (r : Role) (p : Place) (given : Scope) (a b d e : Walk) (o : Outer) → given ≡ slots → b ≡ record { scopes = opened given a.scopes; earlier = []; out = a.out }
    → o ≡ record { earlier = a.earlier; opened = has_any given } → Adds i f r p b d → e ≡ record { scopes = closed o.opened d.scopes; earlier = o.earlier; out = d.out } → Adds i (scoped slots f) r p a e
scoped_adds i f slots r p given a b d e o es eb0 eo0 t ee =
    let eb : b ≡ record { scopes = opened slots a.scopes; earlier = []; out = a.out } = eb0 ∙ ap (λ z. record { scopes = opened z a.scopes; earlier = []; out = a.out }) es in
    let eo : o ≡ record { earlier = a.earlier; opened = has_any slots } = eo0 ∙ ap (λ z. record { earlier = a.earlier; opened = has_any z }) es in
    adds-inside i f (scoped slots f) r r p p a b d e (ap (λ w. w.out) eb) t
    (ap (λ w. w.scopes) ee ∙ (ap (λ z. closed z.opened d.scopes) eo ∙ (ap (λ z. closed (has_any slots) z) (t.scopes ∙ ap (λ w. w.scopes) eb) ∙ closed-opened slots a.scopes)))
    (ap (λ w. w.earlier) ee ∙ ap (λ z. z.earlier) eo)
    (ap (λ w. w.out) ee)
    (ap (λ w. f (around w r p)) (sym eb))

-- the same, where names are bound inside
pub scoped_binds : (i : Inside) (f : Marks) (names : List Units) (slots : Scope) (r : Role) (p : Place) (given : Scope) (a b d e : Walk) (o : Outer) → given ≡ slots → b ≡ record { scopes = opened given a.scopes; earlier = []; out = a.out }
    → o ≡ record { earlier = a.earlier; opened = has_any given } → Binds i f names r p b d → e ≡ record { scopes = closed o.opened d.scopes; earlier = o.earlier; out = d.out } → Adds i (scoped slots f) r p a e
scoped_binds i f names slots r p given a b d e o es eb0 eo0 t ee =
    let eb : b ≡ record { scopes = opened slots a.scopes; earlier = []; out = a.out } = eb0 ∙ ap (λ z. record { scopes = opened z a.scopes; earlier = []; out = a.out }) es in
    let eo : o ≡ record { earlier = a.earlier; opened = has_any slots } = eo0 ∙ ap (λ z. record { earlier = a.earlier; opened = has_any z }) es in
    binds-inside i f (scoped slots f) names r r p p a b d e (ap (λ w. w.out) eb) t
    (ap (λ w. w.scopes) ee ∙ (ap (λ z. closed z.opened d.scopes) eo ∙ (ap (λ z. closed (has_any slots) z) (t.scopes ∙ ap (λ w. w.scopes) eb) ∙ closed-opened slots a.scopes)))
    (ap (λ w. w.earlier) ee ∙ ap (λ z. z.earlier) eo)
    (ap (λ w. w.out) ee)
    (ap (λ w. f (around w r p)) (sym eb))

-- ---- parameters

-- what stands behind parameters, in another place
abbrev pub behind_params : Flow → List Units → Marks → Marks
behind_params f names body c = body (record c { earlier = c.earlier ++ names; place = body_place f c.place })

-- parameters and what stands behind them; `m` is the walk between the two
pub called_adds : (i : Inside) (hidden : Scope) (params : Part) (p : Place) (f : Flow) (body : Marks) (slots : Scope) (a b m d e : Walk) (o : Outer) → slots ≡ hidden ++ slots_of false params.names
    → b ≡ record { scopes = slots ∷ a.scopes; earlier = []; out = a.out } → o ≡ record { earlier = a.earlier; opened = true } → Adds i params.marks roles.Evaluated p b m
    → Adds i (named params.names body) roles.Evaluated (body_place f p) m d → e ≡ record { scopes = closed o.opened d.scopes; earlier = o.earlier; out = d.out }
    → Adds i (called hidden params p f body) roles.Evaluated p a e
called_adds i hidden params p f body slots a b m d e o es eb eo t u ee =
    let g : Marks = behind_params f params.names body in
    let v : Adds i (both params.marks g) roles.Evaluated p b d = adds-both i params.marks g roles.Evaluated p b m d t (adds-as i (named params.names body) g roles.Evaluated roles.Evaluated p (body_place f p) m d u refl) in
    adds-inside i (both params.marks g) (called hidden params p f body) roles.Evaluated roles.Evaluated p p a b d e (ap (λ w. w.out) eb) v
    (ap (λ w. w.scopes) ee ∙ (ap (λ z. closed z.opened d.scopes) eo ∙ ap (λ z. closed true z) (v.scopes ∙ ap (λ w. w.scopes) eb)))
    (ap (λ w. w.earlier) ee ∙ ap (λ z. z.earlier) eo)
    (ap (λ w. w.out) ee)
    (ap (λ s. both params.marks g (record { scopes = s ∷ a.scopes; earlier = []; role = roles.Evaluated; place = p })) (sym es) ∙ ap (λ w. both params.marks g (around w roles.Evaluated p)) (sym eb))

-- ---- classes

-- what a class extends and its members, in the scope of its name
pub class_adds : (i : Inside) (slots : Scope) (parent : Option Part) (members : List Part) (p : Place) (a b m d e : Walk) (o : Bool) → b.scopes ≡ opened slots a.scopes → b.earlier ≡ a.earlier → b.out ≡ a.out → o ≡ has_any slots
    → Adds i (or_none parent) roles.Evaluated p b m → Adds i (members_marks members (has_some parent) false) roles.Evaluated p m d → e.scopes ≡ closed o d.scopes → e.earlier ≡ d.earlier → e.out ≡ d.out
    → Adds i (class_inner slots parent members) roles.Evaluated p a e
class_adds i slots parent members p a b m d e o bs be bo eo t u es ee eout =
    let f : Marks = both (or_none parent) (members_marks members (has_some parent) false) in
    let v : Adds i f roles.Evaluated p b d = adds-both i (or_none parent) (members_marks members (has_some parent) false) roles.Evaluated p b m d t u in
    let k : Walk = record { scopes = opened slots a.scopes; earlier = a.earlier; out = a.out } in
    adds-inside i f (class_inner slots parent members) roles.Evaluated roles.Evaluated p p a b d e bo v
    (es ∙ (ap (λ z. closed z d.scopes) eo ∙ (ap (λ z. closed (has_any slots) z) (v.scopes ∙ bs) ∙ closed-opened slots a.scopes)))
    (ee ∙ (v.earlier ∙ be)) eout (ap (λ z. f z) (sym (around-same k b roles.Evaluated p bs be)))

-- ---- arrows with a value

-- `b` is behind the parameters, `e` outside
pub arrow_adds : (i : Inside) (params : Part) (is_async : Bool) (body : Marks) (r : Role) (p : Place) (a b e : Walk) (o : Outer) → Begins i params (arrow_place p) a b → o ≡ record { earlier = a.earlier; opened = true }
    → Ends i params.names body (body_place (arrow_flow is_async) (arrow_place p)) o b e → Adds i (arrow_node is_async params body) r p a e
arrow_adds i params is_async body r p a b e o s eo t =
    let errors = when (params.repeats []) kind.Redeclared in
    let n : Walk = record { scopes = a.scopes; earlier = a.earlier; out = with_first a.out (first errors) [] } in
    let m : Walk = record { scopes = slots_of false params.names ∷ a.scopes; earlier = []; out = n.out } in
    let d : Walk = record { scopes = b.scopes; earlier = b.earlier; out = e.out } in
    let head : Adds i params.marks roles.Evaluated (arrow_place p) m b = record { scopes = s.scopes; earlier = s.earlier; out = s.out } in
    let value : Adds i (named params.names body) roles.Evaluated (body_place (arrow_flow is_async) (arrow_place p)) b d = record { scopes = refl; earlier = refl; out = t.out } in
    let left : e ≡ record { scopes = closed o.opened d.scopes; earlier = o.earlier; out = d.out } = ap (λ z. record { scopes = z; earlier = e.earlier; out = e.out }) t.scopes ∙ ap (λ z. record { scopes = closed o.opened b.scopes; earlier = z; out = e.out }) t.earlier in
    adds-behind_node i errors [] (called [] params (arrow_place p) (arrow_flow is_async) body) (arrow_node is_async params body) r roles.Evaluated p (arrow_place p) a n e (record { scopes = refl; earlier = refl; out = refl })
    (called_adds i [] params (arrow_place p) (arrow_flow is_async) body (slots_of false params.names) n m b d e o refl refl eo head value left) refl

-- the parameters of an arrow: `b` is behind its node, `m` in their scope, `d` behind them
pub begins : (i : Inside) (params : Part) (p : Place) (repeats : Bool) (slots : Scope) (a b m d : Walk) → repeats ≡ params.repeats [] → AddsNode (first (when repeats kind.Redeclared)) [] a b → slots ≡ [] ++ slots_of false params.names
    → m ≡ record { scopes = slots ∷ b.scopes; earlier = []; out = b.out } → Adds i params.marks roles.Evaluated p m d → Begins i params p a d
begins i params p repeats slots a b m d er n es em t =
    let k : Walk = record { scopes = slots_of false params.names ∷ a.scopes; earlier = []; out = with_first a.out (first (when (params.repeats []) kind.Redeclared)) [] } in
    let to_scopes : m ≡ record { scopes = slots_of false params.names ∷ a.scopes; earlier = []; out = b.out } = em ∙ (ap (λ z. record { scopes = z ∷ b.scopes; earlier = []; out = b.out }) es ∙ ap (λ z. record { scopes = slots_of false params.names ∷ z; earlier = []; out = b.out }) n.scopes) in
    let same : m ≡ k = to_scopes ∙ (ap (λ z. record { scopes = slots_of false params.names ∷ a.scopes; earlier = []; out = z }) n.out
    ∙ ap (λ z. record { scopes = slots_of false params.names ∷ a.scopes; earlier = []; out = with_first a.out (first (when z kind.Redeclared)) [] }) er) in
    let u : Adds i params.marks roles.Evaluated p k d = subst (λ z. Adds i params.marks roles.Evaluated p z d) same t in
    record { scopes = u.scopes; earlier = u.earlier; out = u.out }

-- the value: `b` is behind the names, `d` behind the value, `e` outside
pub ends : (i : Inside) (names : List Units) (f : Marks) (p : Place) (o : Outer) (a b d e : Walk) → b.scopes ≡ a.scopes → b.out ≡ a.out → b.earlier ≡ a.earlier ++ names → Adds i f roles.Evaluated p b d
    → e ≡ record { scopes = closed o.opened d.scopes; earlier = o.earlier; out = d.out } → Ends i names f p o a e
ends i names f p o a b d e bs bo be t ee =
    let k : Walk = record { scopes = a.scopes; earlier = a.earlier ++ names; out = a.out } in
    record {
      scopes = ap (λ w. w.scopes) ee ∙ ap (λ z. closed o.opened z) (t.scopes ∙ bs);
      earlier = ap (λ w. w.earlier) ee;
      out = ap (λ w. w.out) ee ∙ (t.out ∙ (ap (λ z. after z (spread i (f (around b roles.Evaluated p)))) bo ∙ ap (λ z. after a.out (spread i (f z))) (around-same k b roles.Evaluated p bs be)));
    }

pub outer_then : (o : Outer) (e was : List Units) → o ≡ record { earlier = e; opened = true } → e ≡ was → o ≡ record { earlier = was; opened = true }
outer_then o e was h k = subst (λ z. o ≡ record { earlier = z; opened = true }) k h
