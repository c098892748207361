-- What the items of patterns do with a value.
use Rattle.std.proofs.Common.{◌≡◌, ℕ, Ok, refl, ap}
use Rattle.std.specs.declared.rc.Rc.{Rc}
use Rattle.std.specs.declared.alloc.Global.{Global}
use Rattle.std.specs.declared.vec.Vec.{Vec}
use Rattle.actx_value.specs.declared.ids.ScopeId.{ScopeId}
use Rattle.actx_value.specs.declared.value.Value.{Value}
use Rattle.actx_value.specs.declared.request.Request.TheVariants as requests
use Rattle.actx_frame_items.specs.declared.items.Step.TheVariants as steps
use Rattle.actx_frame_items.specs.declared.items.Item.TheVariants as items
use Rattle.actx_frame_items.specs.declared.items.Control.TheVariants as controls
use Rattle.actx_frame_items.specs.declared.items.Next.TheVariants as nexts
use Rattle.actx_frame_items.specs.Stack.{step_work, act, control_work, next_work, Leads}
use Rattle.actx_code.specs.declared.pattern.Pattern.{Pattern}
use Rattle.actx_code.specs.declared.pattern.Element.{Element}
use Rattle.actx_want.specs.Functions.{Binding}
use Rattle.actx_want.specs.Bodies.{eval_element}
use Rattle.actx_frame_items.specs.declared.items.pattern.Properties.{Properties as Properties'}
use Rattle.actx_frame_items.specs.declared.items.pattern.Elements.{Elements as Elements'}
use Rattle.actx_frame_items.specs.declared.items.pattern.PatternStep.TheVariants as patterns
use Rattle.actx_frame_items.specs.Patterns.{properties_left, elements_left, elements_past, pattern_work}
use Rattle.actx_frame_items.proofs.Leading.{leads_error, leads_by, dropped}

pub binding_law : (x : Rc Pattern Global) (p : ScopeId) (v : Value) → Leads (Ok (nexts.Just (controls.Bind x p v))) (pattern_work (patterns.Binding x p) v)
unfolding Leads next_work control_work act step_work pattern_work
binding_law x p v = refl

pub binding_element_law : (x : Rc Element Global) (e : Element) (p : ScopeId) (v : Value) → eval_element e ≡ eval_element x.value → Leads (Ok (nexts.Just (controls.BindElement e p v))) (pattern_work (patterns.BindingElement x p) v)
unfolding Leads next_work control_work act step_work pattern_work
binding_element_law x e p v h = ap (λ (f : Binding). f p v) h

pub binding_slot_law : (i : ℕ) (p : ScopeId) (v : Value) → Leads (Ok (nexts.Just (controls.Ask (requests.Init p 0 i v)))) (pattern_work (patterns.BindingSlot i p) v)
unfolding Leads next_work control_work act step_work pattern_work
binding_slot_law i p v = refl

pub bound_law : (q : Properties') (v : Value) → pattern_work (patterns.PropertyBound q) v ≡ properties_left q
unfolding pattern_work
bound_law q v = refl

pub walking_law : (e : Elements') (v : Value) → pattern_work (patterns.Walking e) v ≡ elements_left e v
unfolding pattern_work
walking_law e v = refl

pub past_law : (e : Elements') (v : Value) → pattern_work (patterns.PastEnd e) v ≡ elements_past e
unfolding pattern_work
past_law e v = refl

pub rest_taking_law : (done : Vec Value Global) (walk : Value) (i : ℕ) (p : ScopeId) (v : Value) → Leads (Ok (nexts.Under (items.Value (steps.Pattern (patterns.RestComing done walk i p))) (controls.Ask (requests.Next walk)))) (pattern_work (patterns.RestTaking done walk i p) v)
unfolding Leads next_work control_work act step_work pattern_work
rest_taking_law done walk i p v = refl

pub ruleset step_laws = (binding_law, binding_element_law, binding_slot_law, bound_law, walking_law, past_law, rest_taking_law, leads_error)
