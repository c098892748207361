-- What the items of lists and calls do with a value.
use Rattle.std.proofs.Common.{◌≡◌, ℕ, ◌+◌, ◌<◌, ◌≤◌, true, false, [], ◌∷◌, ◌++◌, length, map, get_or, Ok, refl, sym, ap, ◌∙◌}
use Rattle.std.specs.Prelude.{if◌then◌else◌}
use Rattle.std.specs.declared.rc.Rc.{Rc}
use Rattle.std.specs.declared.alloc.Global.{Global}
use Rattle.std.specs.declared.vec.Vec.{Vec}
use Rattle.actx_value.specs.declared.ids.ScopeId.{ScopeId}
use Rattle.actx_value.specs.declared.value.Value.{Value}
use Rattle.actx_value.specs.declared.value.Value.TheVariants as values
use Rattle.actx_value.specs.declared.request.Request.TheVariants as requests
use Rattle.actx_code.specs.declared.form.Form.{Form}
use Rattle.actx_frame_items.specs.declared.items.Step.TheVariants as steps
use Rattle.actx_frame_items.specs.declared.items.Item.TheVariants as items
use Rattle.actx_frame_items.specs.declared.items.Control.TheVariants as controls
use Rattle.actx_frame_items.specs.declared.items.Next.TheVariants as nexts
use Rattle.actx_frame_items.specs.Stack.{step_work, act, control_work, next_work, Leads}
use Rattle.std.proofs.lemmas.List.{drop_all}
use Rattle.actx_code.specs.declared.item.Argument.{Argument, One, Spread}
use Rattle.actx_want.specs.Run.{is_mark}
use Rattle.actx_want.specs.Lists.{Listed, collected, listed}
use Rattle.actx_want.specs.Bodies.{eval, eval_argument}
use Rattle.actx_want.proofs.LoopLaws.{items_law}
use Rattle.actx_frame_items.specs.declared.items.member.Chain.{Chain}
use Rattle.actx_frame_items.specs.declared.items.member.MemberStep.TheVariants as members
use Rattle.actx_frame_items.specs.declared.items.name.NameStep.TheVariants as names
use Rattle.actx_frame_items.specs.declared.items.list.List.{List as List'}
use Rattle.actx_frame_items.specs.declared.items.list.ListEnd.{ListEnd}
use Rattle.actx_frame_items.specs.declared.items.list.ListEnd.TheVariants as ends
use Rattle.actx_frame_items.specs.declared.items.list.ListStep.TheVariants as lists
use Rattle.actx_frame_items.specs.Names.{name_work}
use Rattle.actx_frame_items.specs.Members.{member_work}
use Rattle.actx_frame_items.specs.Lists.{finished, whole, whole_list, members_left, after_walk, listing, list_work}
use Rattle.actx_frame_items.proofs.Leading.{leads_error, leads_by, dropped}
use Rattle.actx_frame_items.proofs.Parts.{argument_one, argument_spread}

pub whole_call : (c : Chain) (r f : Value) (list : Vec Value Global) → Leads (Ok (nexts.Under (items.Value (steps.Member (members.Following c values.Undefined))) (controls.AskWith (requests.Call f r) list))) (whole (ends.Call c r f) list.items)
unfolding Leads next_work control_work act step_work member_work whole finished
whole_call c r f list = refl

pub whole_new : (f : Value) (list : Vec Value Global) → Leads (Ok (nexts.Just (controls.AskWith (requests.New f) list))) (whole (ends.New f) list.items)
unfolding Leads next_work control_work act step_work whole finished
whole_new f list = refl

pub whole_super : (f : Value) (hops : ℕ) (p : ScopeId) (list : Vec Value Global) → Leads (Ok (nexts.Under (items.Value (steps.List (lists.ThisBound hops p))) (controls.AskWith (requests.SuperCall f) list))) (whole (ends.Super f hops p) list.items)
unfolding Leads next_work control_work act step_work list_work whole finished
whole_super f hops p list = refl

pub whole_array : (list : Vec Value Global) → Leads (Ok (nexts.Just (controls.AskWith requests.Array list))) (whole ends.Array list.items)
unfolding Leads next_work control_work act step_work whole finished
whole_array list = refl

pub ruleset end_laws = (whole_call, whole_new, whole_super, whole_array)

pub list_end : (l : List') → length l.members.value.items ≤ l.at → listing l ≡ whole l.end l.done.items
unfolding listing whole listed
list_end l le = ap (λ xs. λ k. listed (map eval_argument xs) l.place l.done.items (finished l.end k) k) (drop_all l.at l.members.value.items le)

member_at : (l : List') (x : Argument) → l.at < length l.members.value.items → x ≡ get_or l.members.value.items l.at x → listing l ≡ (λ k. eval_argument x l.place (members_left (record l { at = l.at + 1 })) l.done.items (finished l.end k) k)
unfolding listing listed
member_at l x lt g = ap (λ xs. λ k. listed (map eval_argument xs) l.place l.done.items (finished l.end k) k) (dropped l.members.value.items l.at x lt g)

pub list_one : (l m : List') (x : Argument) (e f : Rc Form Global) → l.at < length l.members.value.items → x ≡ get_or l.members.value.items l.at x → x ≡ One e → f.value ≡ e.value → m ≡ record l { at = l.at + 1 } → Leads (Ok (nexts.Under (items.Value (steps.List (lists.Adding m))) (controls.Eval f l.place))) (listing l)
unfolding Leads next_work control_work act step_work list_work
list_one l m x e f lt g o r s =
    sym (member_at l x lt g
    ∙ ap (λ y. λ k. eval_argument y l.place (members_left (record l { at = l.at + 1 })) l.done.items (finished l.end k) k) o
    ∙ ap (λ (y : Listed). λ k. y l.place (members_left (record l { at = l.at + 1 })) l.done.items (finished l.end k) k) (argument_one e)
    ∙ ap (λ y. λ k. eval y l.place (act (items.Value (steps.List (lists.Adding (record l { at = l.at + 1 })))) k)) (sym r)
    ∙ ap (λ (n : List'). λ k. eval f.value l.place (act (items.Value (steps.List (lists.Adding n))) k)) (sym s))

pub list_spread : (l m : List') (x : Argument) (e f : Rc Form Global) → l.at < length l.members.value.items → x ≡ get_or l.members.value.items l.at x → x ≡ Spread e → f.value ≡ e.value → m ≡ record l { at = l.at + 1 } → Leads (Ok (nexts.Under (items.Value (steps.List (lists.Opening m))) (controls.Eval f l.place))) (listing l)
unfolding Leads next_work control_work act step_work list_work
list_spread l m x e f lt g o r s =
    sym (member_at l x lt g
    ∙ ap (λ y. λ k. eval_argument y l.place (members_left (record l { at = l.at + 1 })) l.done.items (finished l.end k) k) o
    ∙ ap (λ (y : Listed). λ k. y l.place (members_left (record l { at = l.at + 1 })) l.done.items (finished l.end k) k) (argument_spread e)
    ∙ ap (λ y. λ k. eval y l.place (act (items.Value (steps.List (lists.Opening (record l { at = l.at + 1 })))) k)) (sym r)
    ∙ ap (λ (n : List'). λ k. eval f.value l.place (act (items.Value (steps.List (lists.Opening n))) k)) (sym s))

pub ruleset list_laws = (leads_error, list_end, list_one, list_spread)

pub list_begins : (ms : Rc (Vec Argument Global) Global) (p : ScopeId) (e : ListEnd) (none : Vec Value Global) → none.items ≡ [] → whole_list ms.value.items p e ≡ listing (record { done = none; members = ms; at = 0; place = p; end = e })
unfolding whole_list listing
list_begins ms p e none h = ap (λ xs. λ k. listed (map eval_argument ms.value.items) p xs (finished e k) k) (sym h)

pub ruleset begin_laws = (leads_error, list_begins)

pub adding_law : (l : List') (d : Vec Value Global) (v : Value) → d.items ≡ l.done.items ++ v ∷ [] → list_work (lists.Adding l) v ≡ listing (record l { done = d })
unfolding list_work listing
adding_law l d v h = ap (λ xs. λ k. members_left l xs (finished l.end k) k) (sym h)

pub opening_law : (l : List') (v : Value) → Leads (Ok (nexts.Under (items.Value (steps.List (lists.Opened l))) (controls.Ask (requests.Open v)))) (list_work (lists.Opening l) v)
unfolding Leads next_work control_work act step_work list_work
opening_law l v = refl

pub opened_law : (l : List') (walk : Value) → Leads (Ok (nexts.Under (items.Value (steps.List (lists.Taking l walk))) (controls.Ask requests.Tick))) (list_work (lists.Opened l) walk)
unfolding Leads next_work control_work act step_work list_work
opened_law l walk = sym (λ i k more. items_law walk (after_walk l k) k l.done.items more i)

pub taking_law : (l : List') (walk v : Value) → Leads (Ok (nexts.Under (items.Value (steps.List (lists.Coming l walk))) (controls.Ask (requests.Next walk)))) (list_work (lists.Taking l walk) v)
unfolding Leads next_work control_work act step_work list_work
taking_law l walk v = refl

pub coming_mark : (l : List') (walk v : Value) → is_mark v ≡ true → list_work (lists.Coming l walk) v ≡ listing l
unfolding list_work listing
coming_mark l walk v h = ap (λ b. λ k. if b then after_walk l k l.done.items else collected walk (after_walk l k) k (l.done.items ++ v ∷ [])) h

pub coming_law : (l : List') (d : Vec Value Global) (walk v : Value) → is_mark v ≡ false → d.items ≡ l.done.items ++ v ∷ [] → Leads (Ok (nexts.Under (items.Value (steps.List (lists.Taking (record l { done = d }) walk))) (controls.Ask requests.Tick))) (list_work (lists.Coming l walk) v)
unfolding Leads next_work control_work act step_work list_work
coming_law l d walk v h e =
    sym (λ i k more. items_law walk (after_walk l k) k d.items more i)
    ∙ ap (λ xs. λ k. collected walk (after_walk l k) k xs) e
    ∙ ap (λ b. λ k. if b then after_walk l k l.done.items else collected walk (after_walk l k) k (l.done.items ++ v ∷ [])) (sym h)

pub making_law : (ms : Rc (Vec Argument Global) Global) (p : ScopeId) (v : Value) → list_work (lists.Making ms p) v ≡ whole_list ms.value.items p (ends.New v)
unfolding list_work whole_list finished
making_law ms p v = refl

pub super_calling_law : (hops : ℕ) (ms : Rc (Vec Argument Global) Global) (p : ScopeId) (v : Value) → list_work (lists.SuperCalling hops ms p) v ≡ whole_list ms.value.items p (ends.Super v hops p)
unfolding list_work whole_list finished
super_calling_law hops ms p v = refl

pub this_law : (hops : ℕ) (p : ScopeId) (v : Value) → Leads (Ok (nexts.Under (items.Value (steps.Name (names.Keeping v))) (controls.Ask (requests.Init p hops 0 v)))) (list_work (lists.ThisBound hops p) v)
unfolding Leads next_work control_work act step_work list_work name_work
this_law hops p v = refl

pub ruleset step_laws = (adding_law, opening_law, opened_law, taking_law, coming_mark, coming_law, making_law, super_calling_law, this_law, leads_error)
