-- What the items of classes do with a value.
use Rattle.std.proofs.Common.{◌≡◌, ℕ, ◌+◌, ◌<◌, ◌≤◌, true, false, List, length, drop, get_or, Some, Ok, refl, sym, ap, ◌∙◌}
use Rattle.std.specs.Prelude.{if◌then◌else◌}
use Rattle.std.specs.declared.rc.Rc.{Rc}
use Rattle.std.specs.declared.alloc.Global.{Global}
use Rattle.std.specs.declared.vec.Vec.{Vec}
use Rattle.actx_text.specs.declared.body_id.BodyId.{BodyId}
use Rattle.actx_value.specs.declared.ids.ScopeId.{ScopeId}
use Rattle.actx_value.specs.declared.value.Value.{Value}
use Rattle.actx_value.specs.declared.request.Request.TheVariants as requests
use Rattle.actx_want.specs.declared.completion.Completion.TheVariants.{Normal}
use Rattle.actx_frame_items.specs.declared.items.Step.TheVariants as steps
use Rattle.actx_frame_items.specs.declared.items.Item.TheVariants as items
use Rattle.actx_frame_items.specs.declared.items.Control.TheVariants as controls
use Rattle.actx_frame_items.specs.declared.items.Next.TheVariants as nexts
use Rattle.actx_frame_items.specs.Stack.{step_work, act, control_work, next_work, Leads}
use Rattle.std.proofs.lemmas.List.{drop_all, get_or_default}
use Rattle.actx_code.specs.declared.item.ClassMember.{ClassMember}
use Rattle.actx_want.specs.Run.{ask, before}
use Rattle.actx_want.specs.Classes.{stands_on_prototype, home_of, members_of, method_made, prototype_got}
use Rattle.actx_frame_items.specs.declared.items.statement.ClassMembers.{ClassMembers}
use Rattle.actx_frame_items.specs.declared.items.statement.ClassStep.TheVariants as classes
use Rattle.actx_frame_items.specs.Statements.{members_left, class_work}
use Rattle.actx_frame_items.proofs.Leading.{leads_error, leads_by, dropped}

pub members_end : (m : ClassMembers) → length m.list.value.items ≤ m.at → Leads (Ok (nexts.Just (controls.Done (Normal m.class)))) (members_left m)
unfolding Leads next_work control_work act step_work members_left members_of
members_end m le = ap (λ xs. λ k. members_of xs m.class m.prototype m.place k) (sym (drop_all m.at m.list.value.items le))

pub members_more : (m n : ClassMembers) (x : ClassMember) (home : Value) → m.at < length m.list.value.items → x ≡ get_or m.list.value.items m.at x → home ≡ home_of x m.class m.prototype → n ≡ record m { at = m.at + 1 } → Leads (Ok (nexts.UnderTwo (items.Value (steps.Class (classes.MethodDefined n))) (items.Value (steps.Class (classes.MethodMade home x.key))) (controls.Ask (requests.Method x.body m.place home)))) (members_left m)
unfolding Leads next_work control_work act step_work class_work members_left members_of
members_more m n x home lt g h s =
    ap (λ (y : ClassMembers). λ k. ask (requests.Method x.body m.place home) (act (items.Value (steps.Class (classes.MethodMade home x.key))) (act (items.Value (steps.Class (classes.MethodDefined y))) k))) s
    ∙ ap (λ y. λ k. ask (requests.Method x.body m.place y) (method_made y x.key (before (members_of (drop (m.at + 1) m.list.value.items) m.class m.prototype m.place k) k))) h
    ∙ ap (λ xs. λ k. members_of xs m.class m.prototype m.place k) (sym (dropped m.list.value.items m.at x lt g))

pub ruleset member_laws = (members_end, members_more, leads_error)

pub extending_law : (body : BodyId) (key : Value) (ms : Rc (Vec ClassMember Global) Global) (p : ScopeId) (v : Value) → Leads (Ok (nexts.Under (items.Value (steps.Class (classes.Made key ms p))) (controls.Ask (requests.Class body p (Some v))))) (class_work (classes.Extending body key ms p) v)
unfolding Leads next_work control_work act step_work class_work
extending_law body key ms p v = refl

pub made_prototype : (key : Value) (ms : Rc (Vec ClassMember Global) Global) (p : ScopeId) (v : Value) → stands_on_prototype ms.value.items ≡ true → Leads (Ok (nexts.Under (items.Value (steps.Class (classes.PrototypeGot ms v p))) (controls.Ask (requests.Get v key)))) (class_work (classes.Made key ms p) v)
unfolding Leads next_work control_work act step_work class_work
made_prototype key ms p v h = ap (λ b. λ k. if b then ask (requests.Get v key) (prototype_got ms.value.items v p k) else members_of ms.value.items v v p k) (sym h)

pub made_static : (key : Value) (ms : Rc (Vec ClassMember Global) Global) (p : ScopeId) (v : Value) → stands_on_prototype ms.value.items ≡ false → class_work (classes.Made key ms p) v ≡ members_left (record { list = ms; at = 0; class = v; prototype = v; place = p })
unfolding class_work members_left
made_static key ms p v h = ap (λ b. λ k. if b then ask (requests.Get v key) (prototype_got ms.value.items v p k) else members_of ms.value.items v v p k) h

pub prototype_law : (ms : Rc (Vec ClassMember Global) Global) (f : Value) (p : ScopeId) (v : Value) → class_work (classes.PrototypeGot ms f p) v ≡ members_left (record { list = ms; at = 0; class = f; prototype = v; place = p })
unfolding class_work members_left
prototype_law ms f p v = refl

pub method_made_law : (home key v : Value) → Leads (Ok (nexts.Just (controls.Ask (requests.DefineMethod home key v)))) (class_work (classes.MethodMade home key) v)
unfolding Leads next_work control_work act step_work class_work
method_made_law home key v = refl

pub method_defined_law : (m : ClassMembers) (v : Value) → class_work (classes.MethodDefined m) v ≡ members_left m
unfolding class_work
method_defined_law m v = refl

pub ruleset step_laws = (extending_law, made_prototype, made_static, prototype_law, method_made_law, method_defined_law, leads_error)

-- whether a member isn't static, by the first of them
pub stands_first : (ms : List ClassMember) (i : ℕ) (d : ClassMember) → i < length ms → (get_or ms i d).is_static ≡ false → stands_on_prototype (drop i ms) ≡ true
unfolding stands_on_prototype
stands_first ms i d lt h = ap stands_on_prototype (dropped ms i (get_or ms i d) lt (get_or_default ms i d (get_or ms i d) lt)) ∙ ap (λ b. if b then stands_on_prototype (drop (i + 1) ms) else true) h

pub stands_later : (ms : List ClassMember) (i : ℕ) (d : ClassMember) → i < length ms → (get_or ms i d).is_static ≡ true → stands_on_prototype (drop i ms) ≡ stands_on_prototype (drop (i + 1) ms)
unfolding stands_on_prototype
stands_later ms i d lt h = ap stands_on_prototype (dropped ms i (get_or ms i d) lt (get_or_default ms i d (get_or ms i d) lt)) ∙ ap (λ b. if b then stands_on_prototype (drop (i + 1) ms) else true) h

pub stands_nowhere : (ms : List ClassMember) (i : ℕ) → length ms ≤ i → stands_on_prototype (drop i ms) ≡ false
unfolding stands_on_prototype
stands_nowhere ms i le = ap stands_on_prototype (drop_all i ms le)

pub ruleset static_laws = (stands_nowhere)
