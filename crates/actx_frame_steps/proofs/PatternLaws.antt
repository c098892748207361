-- How patterns are bound, and object patterns.
use Rattle.std.proofs.Common.{◌≡◌, ℕ, ◌+◌, ◌<◌, ◌≤◌, true, false, List, [], ◌∷◌, length, map, drop, get_or, Option, Some, None, Ok, refl, sym, ap, ◌∙◌}
use Rattle.std.specs.Prelude.{if◌then◌else◌}
use Rattle.std.specs.declared.rc.Rc.{Rc}
use Rattle.std.specs.declared.alloc.Global.{Global}
use Rattle.std.specs.declared.vec.Vec.{Vec}
use Rattle.actx_value.specs.declared.ids.ScopeId.{ScopeId}
use Rattle.actx_value.specs.declared.value.Value.{Value}
use Rattle.actx_value.specs.declared.value.Value.TheVariants as values
use Rattle.actx_value.specs.declared.request.Request.TheVariants as requests
use Rattle.actx_code.specs.declared.form.Form.{Form}
use Rattle.actx_want.specs.declared.completion.Completion.TheVariants.{Normal}
use Rattle.actx_frame_items.specs.declared.items.Step.TheVariants as steps
use Rattle.actx_frame_items.specs.declared.items.Item.TheVariants as items
use Rattle.actx_frame_items.specs.declared.items.Control.TheVariants as controls
use Rattle.actx_frame_items.specs.declared.items.Next.TheVariants as nexts
use Rattle.actx_frame_items.specs.Stack.{step_work, act, control_work, next_work, Leads}
use Rattle.std.proofs.lemmas.List.{drop_all}
use Rattle.actx_code.specs.declared.pattern.Pattern.{Pattern, Slot, Properties, Elements}
use Rattle.actx_code.specs.declared.pattern.Element.{Element}
use Rattle.actx_code.specs.declared.pattern.Property.{Property}
use Rattle.actx_want.specs.Run.{ask, asks, on_value, before, is_undefined}
use Rattle.actx_want.specs.Functions.{Binding, binding}
use Rattle.actx_want.specs.Patterns.{PropertyBinding, slot, element, properties, elements, keys_of, properties_of, rest_of}
use Rattle.actx_want.specs.Bodies.{eval, eval_pattern, eval_element, eval_property}
use Rattle.actx_frame_items.specs.declared.items.pattern.Properties.{Properties as Properties'}
use Rattle.actx_frame_items.specs.declared.items.pattern.PatternStep.TheVariants as patterns
use Rattle.actx_frame_items.specs.Work.{form_in}
use Rattle.actx_frame_items.specs.Patterns.{after_properties, properties_left, property_got, elements_left, pattern_work}
use Rattle.actx_frame_items.proofs.Leading.{leads_error, leads_by, dropped}
use Rattle.actx_frame_items.proofs.Parts.{element_is, property_is, pattern_slot, pattern_properties, pattern_elements}

pub copy_bare : (x : Element) (t : Rc Pattern Global) → t.value ≡ x.target.value → x.default ≡ None → eval_element (record { target = t; default = None }) ≡ eval_element x
copy_bare x t h n =
    element_is (record { target = t; default = None })
    ∙ ap (λ y. element (eval_pattern y) None) h
    ∙ ap (λ d. element (eval_pattern x.target.value) (form_in d)) (sym n)
    ∙ sym (element_is x)

pub copy_default : (x : Element) (t : Rc Pattern Global) (e f : Rc Form Global) → t.value ≡ x.target.value → x.default ≡ Some e → f.value ≡ e.value → eval_element (record { target = t; default = Some f }) ≡ eval_element x
copy_default x t e f h n r =
    element_is (record { target = t; default = Some f })
    ∙ ap (λ y. element (eval_pattern y) (Some (eval f.value))) h
    ∙ ap (λ y. element (eval_pattern x.target.value) (Some (eval y))) r
    ∙ ap (λ d. element (eval_pattern x.target.value) (form_in d)) (sym n)
    ∙ sym (element_is x)

pub ruleset copy_laws = (copy_bare, copy_default)

pub bind_slot : (i : ℕ) (p : ScopeId) (v : Value) → Leads (Ok (nexts.Just (controls.Ask (requests.Init p 0 i v)))) (eval_pattern (Slot i) p v)
unfolding Leads next_work control_work act step_work
bind_slot i p v = ap (λ (f : Binding). f p v) (sym (pattern_slot i))

pub bind_properties : (qs rs : Rc (Vec Property Global) Global) (rest : Option ℕ) (p : ScopeId) (v : Value) → rs.value ≡ qs.value → eval_pattern (Properties qs rest) p v ≡ properties_left (record { list = rs; at = 0; rest = rest; value = v; place = p })
unfolding properties_left
bind_properties qs rs rest p v h =
    ap (λ (f : Binding). f p v) (pattern_properties qs rest)
    ∙ ap (λ (x : Vec Property Global). properties (map eval_property x.items) rest p v) (sym h)

pub bind_elements : (es fs : Rc (Vec Element Global) Global) (rest : Option ℕ) (p : ScopeId) (v : Value) → fs.value ≡ es.value → Leads (Ok (nexts.Under (items.Value (steps.Pattern (patterns.Walking (record { list = fs; at = 0; rest = rest; place = p })))) (controls.Ask (requests.Open v)))) (eval_pattern (Elements es rest) p v)
unfolding Leads next_work control_work act step_work pattern_work elements_left
bind_elements es fs rest p v h =
    ap (λ (x : Vec Element Global). elements (map eval_element x.items) rest p v) h
    ∙ ap (λ (f : Binding). f p v) (sym (pattern_elements es rest))

pub ruleset bind_laws = (bind_slot, bind_properties, bind_elements, leads_error)

pub element_bare : (x : Element) (p : ScopeId) (v : Value) → x.default ≡ None → Leads (Ok (nexts.Just (controls.Bind x.target p v))) (eval_element x p v)
unfolding Leads next_work control_work act step_work
element_bare x p v n =
    sym (ap (λ (f : Binding). f p v) (element_is x)
    ∙ ap (λ d. element (eval_pattern x.target.value) (form_in d) p v) n)

element_with : (x : Element) (e : Rc Form Global) (p : ScopeId) (v : Value) → x.default ≡ Some e → eval_element x p v ≡ (λ k. if is_undefined v then eval e.value p (binding (eval_pattern x.target.value) p k) else eval_pattern x.target.value p v k)
element_with x e p v n =
    ap (λ (f : Binding). f p v) (element_is x)
    ∙ ap (λ d. element (eval_pattern x.target.value) (form_in d) p v) n

pub element_default : (x : Element) (e : Rc Form Global) (p : ScopeId) (v : Value) → x.default ≡ Some e → is_undefined v ≡ true → Leads (Ok (nexts.Under (items.Value (steps.Pattern (patterns.Binding x.target p))) (controls.Eval e p))) (eval_element x p v)
unfolding Leads next_work control_work act step_work pattern_work
element_default x e p v n h =
    sym (element_with x e p v n
    ∙ ap (λ b. λ k. if b then eval e.value p (binding (eval_pattern x.target.value) p k) else eval_pattern x.target.value p v k) h)

pub element_given : (x : Element) (e : Rc Form Global) (p : ScopeId) (v : Value) → x.default ≡ Some e → is_undefined v ≡ false → Leads (Ok (nexts.Just (controls.Bind x.target p v))) (eval_element x p v)
unfolding Leads next_work control_work act step_work
element_given x e p v n h =
    sym (element_with x e p v n
    ∙ ap (λ b. λ k. if b then eval e.value p (binding (eval_pattern x.target.value) p k) else eval_pattern x.target.value p v k) h)

pub ruleset element_laws = (element_bare, element_default, element_given, leads_error)

-- the keys of properties
pub keys_are : (qs : List Property) → keys_of (map eval_property qs) ≡ map (λ q. q.key) qs
unfolding keys_of
keys_are [] = refl
keys_are (q ∷ qs) = ap (λ (x : PropertyBinding). x.key ∷ keys_of (map eval_property qs)) (property_is q) ∙ ap (λ ks. q.key ∷ ks) (keys_are qs)

pub ruleset key_laws = (keys_are)

properties_over : (q : Properties') → length q.list.value.items ≤ q.at → (λ k. after_properties q k) ≡ properties_left q
unfolding properties_left properties_of
properties_over q le = ap (λ xs. λ k. properties_of (map eval_property xs) q.place q.value (after_properties q k) k) (sym (drop_all q.at q.list.value.items le))

pub properties_end : (q : Properties') → length q.list.value.items ≤ q.at → q.rest ≡ None → Leads (Ok (nexts.Just (controls.Done (Normal values.Undefined)))) (properties_left q)
unfolding Leads next_work control_work act step_work
properties_end q le n =
    ap (λ r. λ k. rest_of r (keys_of (map eval_property q.list.value.items)) q.place q.value k) (sym n)
    ∙ properties_over q le

pub properties_rest : (q : Properties') (i : ℕ) (keys : Vec Value Global) → length q.list.value.items ≤ q.at → q.rest ≡ Some i → keys.items ≡ keys_of (map eval_property q.list.value.items) → Leads (Ok (nexts.Under (items.Value (steps.Pattern (patterns.BindingSlot i q.place))) (controls.AskWith (requests.Rest q.value) keys))) (properties_left q)
unfolding Leads next_work control_work act step_work pattern_work
properties_rest q i keys le n h =
    ap (λ ks. λ k. asks (requests.Rest q.value) ks (binding (slot i) q.place k)) h
    ∙ ap (λ r. λ k. rest_of r (keys_of (map eval_property q.list.value.items)) q.place q.value k) (sym n)
    ∙ properties_over q le

pub properties_more : (q : Properties') (x : Property) → q.at < length q.list.value.items → x ≡ get_or q.list.value.items q.at x → Leads (Ok (nexts.Under (items.Value (steps.Pattern (patterns.PropertyGot q))) (controls.Ask (requests.Get q.value x.key)))) (properties_left q)
unfolding Leads next_work control_work act step_work pattern_work properties_left properties_of property_got
properties_more q x lt g =
    ap (λ xs. λ k. ask (requests.Get q.value x.key) (on_value (λ w. property_got (map eval_property xs) q.place q.value (after_properties q k) w k) k)) (dropped q.list.value.items q.at x lt g)
    ∙ ap (λ (y : PropertyBinding). λ k. ask (requests.Get q.value x.key) (on_value (λ w. y.element q.place w (before (properties_of (map eval_property (drop (q.at + 1) q.list.value.items)) q.place q.value (after_properties q k) k) k)) k)) (property_is x)
    ∙ ap (λ (y : PropertyBinding). λ k. ask (requests.Get q.value y.key) (on_value (λ w. eval_element x.element q.place w (before (properties_of (map eval_property (drop (q.at + 1) q.list.value.items)) q.place q.value (after_properties q k) k) k)) k)) (sym (property_is x))
    ∙ ap (λ (y : PropertyBinding). λ k. ask (requests.Get q.value (eval_property x).key) (on_value (λ w. y.element q.place w (before (properties_of (map eval_property (drop (q.at + 1) q.list.value.items)) q.place q.value (after_properties q k) k) k)) k)) (sym (property_is x))
    ∙ ap (λ xs. λ k. properties_of (map eval_property xs) q.place q.value (after_properties q k) k) (sym (dropped q.list.value.items q.at x lt g))

pub ruleset property_laws = (properties_end, properties_rest, properties_more, leads_error)

pub got_past : (q : Properties') (v : Value) → length q.list.value.items ≤ q.at → pattern_work (patterns.PropertyGot q) v ≡ properties_left q
unfolding pattern_work property_got
got_past q v le =
    ap (λ xs. λ k. property_got (map eval_property xs) q.place q.value (after_properties q k) v k) (drop_all q.at q.list.value.items le)
    ∙ properties_over q le

pub got_law : (q r : Properties') (x : Property) (e : Element) (v : Value) → q.at < length q.list.value.items → x ≡ get_or q.list.value.items q.at x → eval_element e ≡ eval_element x.element → r ≡ record q { at = q.at + 1 } → Leads (Ok (nexts.Under (items.Value (steps.Pattern (patterns.PropertyBound r))) (controls.BindElement e q.place v))) (pattern_work (patterns.PropertyGot q) v)
unfolding Leads next_work control_work act step_work pattern_work properties_left property_got
got_law q r x e v lt g h s =
    ap (λ (y : Properties'). λ k. eval_element e q.place v (act (items.Value (steps.Pattern (patterns.PropertyBound y))) k)) s
    ∙ ap (λ (y : Binding). λ k. y q.place v (before (properties_of (map eval_property (drop (q.at + 1) q.list.value.items)) q.place q.value (after_properties q k) k) k)) h
    ∙ ap (λ (y : PropertyBinding). λ k. y.element q.place v (before (properties_of (map eval_property (drop (q.at + 1) q.list.value.items)) q.place q.value (after_properties q k) k) k)) (sym (property_is x))
    ∙ ap (λ xs. λ k. property_got (map eval_property xs) q.place q.value (after_properties q k) v k) (sym (dropped q.list.value.items q.at x lt g))

pub ruleset got_laws = (got_past, got_law, leads_error)
