-- Array patterns.
use Rattle.std.proofs.Common.{◌≡◌, ℕ, zero, suc, ◌+◌, ◌<◌, ◌≤◌, true, false, List, [], ◌∷◌, ◌++◌, length, map, drop, get_or, Some, None, Ok, refl, sym, ap, ◌∙◌, arith}
use Rattle.std.specs.Prelude.{if◌then◌else◌}
use Rattle.std.specs.declared.alloc.Global.{Global}
use Rattle.std.specs.declared.vec.Vec.{Vec}
use Rattle.actx_value.specs.declared.ids.ScopeId.{ScopeId}
use Rattle.actx_value.specs.declared.value.Value.{Value}
use Rattle.actx_value.specs.declared.value.Value.TheVariants as values
use Rattle.actx_value.specs.declared.request.Request.TheVariants as requests
use Rattle.actx_want.specs.declared.completion.Completion.TheVariants.{Normal}
use Rattle.actx_frame_items.specs.declared.items.Step.TheVariants as steps
use Rattle.actx_frame_items.specs.declared.items.Item.TheVariants as items
use Rattle.actx_frame_items.specs.declared.items.Control.TheVariants as controls
use Rattle.actx_frame_items.specs.declared.items.Next.TheVariants as nexts
use Rattle.actx_frame_items.specs.Stack.{step_work, act, control_work, next_work, Leads}
use Rattle.std.proofs.lemmas.List.{drop_all}
use Rattle.actx_code.specs.declared.pattern.Element.{Element}
use Rattle.actx_want.specs.Run.{ask, on_value, before, is_mark}
use Rattle.actx_want.specs.Lists.{collected}
use Rattle.actx_want.specs.Functions.{Binding}
use Rattle.actx_want.specs.Patterns.{rest_array, rest_past_end, rest_of_walk, past_end, items_of, or_close}
use Rattle.actx_want.specs.Bodies.{eval_element}
use Rattle.actx_want.proofs.LoopLaws.{items_law}
use Rattle.actx_frame_items.specs.declared.items.pattern.Elements.{Elements as Elements'}
use Rattle.actx_frame_items.specs.declared.items.pattern.PatternStep.TheVariants as patterns
use Rattle.actx_frame_items.specs.declared.items.ending.Ending.TheVariants as endings
use Rattle.actx_frame_items.specs.Patterns.{elements_left, elements_past, element_came, pattern_work}
use Rattle.actx_frame_items.specs.Endings.{ending_work}
use Rattle.actx_frame_items.proofs.Leading.{leads_error, leads_by, dropped}

elements_over : (e : Elements') (walk : Value) → length e.list.value.items ≤ e.at → (λ k. rest_of_walk walk e.rest e.place k) ≡ elements_left e walk
unfolding elements_left items_of
elements_over e walk le = ap (λ xs. λ k. items_of (map eval_element xs) e.rest walk e.place k) (sym (drop_all e.at e.list.value.items le))

pub elements_end : (e : Elements') (walk : Value) → length e.list.value.items ≤ e.at → e.rest ≡ None → Leads (Ok (nexts.Under (items.Ending (endings.Closed (Normal values.Undefined))) (controls.Ask (requests.Close walk)))) (elements_left e walk)
unfolding Leads next_work control_work act step_work ending_work
elements_end e walk le n =
    ap (λ r. λ k. rest_of_walk walk r e.place k) (sym n)
    ∙ elements_over e walk le

pub elements_rest : (e : Elements') (walk : Value) (i : ℕ) (none : Vec Value Global) → length e.list.value.items ≤ e.at → e.rest ≡ Some i → none.items ≡ [] → Leads (Ok (nexts.Under (items.Value (steps.Pattern (patterns.RestTaking none walk i e.place))) (controls.Ask requests.Tick))) (elements_left e walk)
unfolding Leads next_work control_work act step_work pattern_work
elements_rest e walk i none le n h =
    sym (λ j k more. items_law walk (rest_array i e.place k) k none.items more j)
    ∙ ap (λ xs. λ k. collected walk (rest_array i e.place k) k xs) h
    ∙ ap (λ r. λ k. rest_of_walk walk r e.place k) (sym n)
    ∙ elements_over e walk le

some_member : {A : Type 0} (xs : List A) (i : ℕ) → i < length xs → (x : A) × (x ≡ get_or xs i x)
some_member [] i lt = absurd (omega arith)
some_member (x ∷ xs) zero lt = (x, refl)
some_member (x ∷ xs) (suc i) lt = let y = some_member xs i (omega arith) in (y.0, y.1)

get_or_first : (e : Elements') → e.at < length e.list.value.items → (x : Element) × (x ≡ get_or e.list.value.items e.at x)
get_or_first e lt = some_member e.list.value.items e.at lt

pub elements_more : (e : Elements') (walk : Value) → e.at < length e.list.value.items → Leads (Ok (nexts.Under (items.Value (steps.Pattern (patterns.ItemBound e walk))) (controls.Ask (requests.Next walk)))) (elements_left e walk)
unfolding Leads next_work control_work act step_work pattern_work elements_left items_of element_came
elements_more e walk lt =
    let x = get_or_first e lt in
    ap (λ xs. λ k. ask (requests.Next walk) (on_value (λ v. element_came (map eval_element xs) e.rest walk e.place v k) k)) (dropped e.list.value.items e.at x.0 lt x.1)
    ∙ ap (λ xs. λ k. items_of (map eval_element xs) e.rest walk e.place k) (sym (dropped e.list.value.items e.at x.0 lt x.1))

pub ruleset next_laws = (elements_end, elements_rest, elements_more, leads_error)

past_over : (e : Elements') → length e.list.value.items ≤ e.at → (λ k. rest_past_end e.rest e.place k) ≡ elements_past e
unfolding elements_past past_end
past_over e le = ap (λ xs. λ k. past_end (map eval_element xs) e.rest e.place k) (sym (drop_all e.at e.list.value.items le))

pub past_ends : (e : Elements') → length e.list.value.items ≤ e.at → e.rest ≡ None → Leads (Ok (nexts.Just (controls.Done (Normal values.Undefined)))) (elements_past e)
unfolding Leads next_work control_work act step_work
past_ends e le n = ap (λ r. λ k. rest_past_end r e.place k) (sym n) ∙ past_over e le

pub past_rest : (e : Elements') (i : ℕ) → length e.list.value.items ≤ e.at → e.rest ≡ Some i → Leads (Ok (nexts.Under (items.Value (steps.Pattern (patterns.BindingSlot i e.place))) (controls.Ask requests.Array))) (elements_past e)
unfolding Leads next_work control_work act step_work pattern_work
past_rest e i le n = ap (λ r. λ k. rest_past_end r e.place k) (sym n) ∙ past_over e le

pub past_more : (e f : Elements') (x y : Element) → e.at < length e.list.value.items → x ≡ get_or e.list.value.items e.at x → eval_element y ≡ eval_element x → f ≡ record e { at = e.at + 1 } → Leads (Ok (nexts.Under (items.Value (steps.Pattern (patterns.PastEnd f))) (controls.BindElement y e.place values.Undefined))) (elements_past e)
unfolding Leads next_work control_work act step_work pattern_work elements_past past_end
past_more e f x y lt g h s =
    ap (λ (z : Elements'). λ k. eval_element y e.place values.Undefined (act (items.Value (steps.Pattern (patterns.PastEnd z))) k)) s
    ∙ ap (λ (z : Binding). λ k. z e.place values.Undefined (before (past_end (map eval_element (drop (e.at + 1) e.list.value.items)) e.rest e.place k) k)) h
    ∙ ap (λ xs. λ k. past_end (map eval_element xs) e.rest e.place k) (sym (dropped e.list.value.items e.at x lt g))

pub ruleset past_laws = (past_ends, past_rest, past_more, leads_error)

pub item_past : (e : Elements') (walk v : Value) → length e.list.value.items ≤ e.at → pattern_work (patterns.ItemBound e walk) v ≡ elements_left e walk
unfolding pattern_work element_came
item_past e walk v le =
    ap (λ xs. λ k. element_came (map eval_element xs) e.rest walk e.place v k) (drop_all e.at e.list.value.items le)
    ∙ elements_over e walk le

pub item_mark : (e f : Elements') (walk v : Value) (x y : Element) → e.at < length e.list.value.items → x ≡ get_or e.list.value.items e.at x → is_mark v ≡ true → eval_element y ≡ eval_element x → f ≡ record e { at = e.at + 1 } → Leads (Ok (nexts.Under (items.Value (steps.Pattern (patterns.PastEnd f))) (controls.BindElement y e.place values.Undefined))) (pattern_work (patterns.ItemBound e walk) v)
unfolding Leads next_work control_work act step_work pattern_work elements_past element_came
item_mark e f walk v x y lt g m h s =
    ap (λ (z : Elements'). λ k. eval_element y e.place values.Undefined (act (items.Value (steps.Pattern (patterns.PastEnd z))) k)) s
    ∙ ap (λ (z : Binding). λ k. z e.place values.Undefined (before (past_end (map eval_element (drop (e.at + 1) e.list.value.items)) e.rest e.place k) k)) h
    ∙ ap (λ b. λ k. if b then eval_element x e.place values.Undefined (before (past_end (map eval_element (drop (e.at + 1) e.list.value.items)) e.rest e.place k) k) else eval_element x e.place v (or_close walk (items_of (map eval_element (drop (e.at + 1) e.list.value.items)) e.rest walk e.place k) k)) (sym m)
    ∙ ap (λ xs. λ k. element_came (map eval_element xs) e.rest walk e.place v k) (sym (dropped e.list.value.items e.at x lt g))

pub item_law : (e f : Elements') (walk v : Value) (x y : Element) → e.at < length e.list.value.items → x ≡ get_or e.list.value.items e.at x → is_mark v ≡ false → eval_element y ≡ eval_element x → f ≡ record e { at = e.at + 1 } → Leads (Ok (nexts.Under (items.Ending (endings.OrClose f walk)) (controls.BindElement y e.place v))) (pattern_work (patterns.ItemBound e walk) v)
unfolding Leads next_work control_work act step_work pattern_work ending_work elements_left element_came
item_law e f walk v x y lt g m h s =
    ap (λ (z : Elements'). λ k. eval_element y e.place v (act (items.Ending (endings.OrClose z walk)) k)) s
    ∙ ap (λ (z : Binding). λ k. z e.place v (or_close walk (items_of (map eval_element (drop (e.at + 1) e.list.value.items)) e.rest walk e.place k) k)) h
    ∙ ap (λ b. λ k. if b then eval_element x e.place values.Undefined (before (past_end (map eval_element (drop (e.at + 1) e.list.value.items)) e.rest e.place k) k) else eval_element x e.place v (or_close walk (items_of (map eval_element (drop (e.at + 1) e.list.value.items)) e.rest walk e.place k) k)) (sym m)
    ∙ ap (λ xs. λ k. element_came (map eval_element xs) e.rest walk e.place v k) (sym (dropped e.list.value.items e.at x lt g))

pub ruleset item_laws = (item_past, item_mark, item_law, leads_error)

pub rest_mark : (done : Vec Value Global) (walk : Value) (i : ℕ) (p : ScopeId) (v : Value) → is_mark v ≡ true → Leads (Ok (nexts.Under (items.Value (steps.Pattern (patterns.BindingSlot i p))) (controls.AskWith requests.Array done))) (pattern_work (patterns.RestComing done walk i p) v)
unfolding Leads next_work control_work act step_work pattern_work
rest_mark done walk i p v m = ap (λ b. λ k. if b then rest_array i p k done.items else collected walk (rest_array i p k) k (done.items ++ v ∷ [])) (sym m)

pub rest_law : (done more : Vec Value Global) (walk : Value) (i : ℕ) (p : ScopeId) (v : Value) → is_mark v ≡ false → more.items ≡ done.items ++ v ∷ [] → Leads (Ok (nexts.Under (items.Value (steps.Pattern (patterns.RestTaking more walk i p))) (controls.Ask requests.Tick))) (pattern_work (patterns.RestComing done walk i p) v)
unfolding Leads next_work control_work act step_work pattern_work
rest_law done more walk i p v m h =
    sym (λ j k bs. items_law walk (rest_array i p k) k more.items bs j)
    ∙ ap (λ xs. λ k. collected walk (rest_array i p k) k xs) h
    ∙ ap (λ b. λ k. if b then rest_array i p k done.items else collected walk (rest_array i p k) k (done.items ++ v ∷ [])) (sym m)

pub ruleset rest_laws = (rest_mark, rest_law, leads_error)
