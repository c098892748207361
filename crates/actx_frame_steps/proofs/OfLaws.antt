-- What the items of for-of loops do with a value.
use Rattle.std.proofs.Common.{◌≡◌, true, false, Ok, refl, sym, ap, ◌∙◌}
use Rattle.std.specs.Prelude.{if◌then◌else◌}
use Rattle.std.specs.declared.rc.Rc.{Rc}
use Rattle.std.specs.declared.alloc.Global.{Global}
use Rattle.actx_value.specs.declared.ids.ScopeId.{ScopeId}
use Rattle.actx_value.specs.declared.value.Value.{Value}
use Rattle.actx_value.specs.declared.value.Value.TheVariants as values
use Rattle.actx_value.specs.declared.request.Request.TheVariants as requests
use Rattle.actx_want.specs.declared.completion.Completion.TheVariants.{Normal}
use Rattle.actx_frame_items.specs.declared.items.Step.TheVariants as steps
use Rattle.actx_frame_items.specs.declared.items.Item.TheVariants as items
use Rattle.actx_frame_items.specs.declared.items.Control.TheVariants as controls
use Rattle.actx_frame_items.specs.declared.items.Next.TheVariants as nexts
use Rattle.actx_frame_items.specs.Stack.{step_work, act, control_work, next_work, Leads}
use Rattle.actx_code.specs.declared.pattern.Pattern.{Pattern}
use Rattle.actx_want.specs.Run.{ask, is_mark, within}
use Rattle.actx_want.specs.Loops.{item_ended, item_entered}
use Rattle.actx_want.specs.Patterns.{or_close}
use Rattle.actx_want.specs.Bodies.{eval, eval_pattern}
use Rattle.actx_want.proofs.LoopLaws.{of_law}
use Rattle.actx_frame_items.specs.declared.items.walk.OfLoop.{OfLoop}
use Rattle.actx_frame_items.specs.declared.items.walk.OfStep.TheVariants as ofs
use Rattle.actx_frame_items.specs.declared.items.ending.Ending.TheVariants as endings
use Rattle.actx_frame_items.specs.Loops.{of_again, of_work}
use Rattle.actx_frame_items.specs.Endings.{ending_work}
use Rattle.actx_frame_items.proofs.Leading.{leads_error, leads_by}

pub of_turns_law : (l : OfLoop) (walk : Value) → Leads (Ok (nexts.Under (items.Value (steps.Of (ofs.Turn l walk))) (controls.Ask requests.Tick))) (of_again l walk)
unfolding Leads next_work control_work act step_work of_work
of_turns_law l walk = sym (λ i k more. of_law l.cells l.target.value l.body.value walk l.place k tt more i)

pub of_opening_law : (l : OfLoop) (v : Value) → Leads (Ok (nexts.Under (items.Value (steps.Of (ofs.Walking l))) (controls.Ask (requests.Open v)))) (of_work (ofs.Opening l) v)
unfolding Leads next_work control_work act step_work of_work
of_opening_law l v = refl

pub of_walking_law : (l : OfLoop) (v : Value) → Leads (Ok (nexts.Under (items.Value (steps.Of (ofs.Turn l v))) (controls.Ask requests.Tick))) (of_work (ofs.Walking l) v)
unfolding Leads next_work control_work act step_work of_work
of_walking_law l v = of_turns_law l v

pub of_turn_law : (l : OfLoop) (walk v : Value) → Leads (Ok (nexts.Under (items.Value (steps.Of (ofs.ItemCame l walk))) (controls.Ask (requests.Next walk)))) (of_work (ofs.Turn l walk) v)
unfolding Leads next_work control_work act step_work of_work
of_turn_law l walk v = refl

pub of_mark : (l : OfLoop) (walk v : Value) → is_mark v ≡ true → Leads (Ok (nexts.Just (controls.Done (Normal values.Undefined)))) (of_work (ofs.ItemCame l walk) v)
unfolding Leads next_work control_work act step_work of_work
of_mark l walk v h = ap (λ b. λ k. if b then k (Normal values.Undefined) else ask (requests.Scope l.place l.cells) (item_entered (eval_pattern l.target.value) (eval l.body.value) walk v (of_again l walk k) l.place k)) (sym h)

pub of_item : (l : OfLoop) (walk v : Value) → is_mark v ≡ false → Leads (Ok (nexts.Under (items.Value (steps.Of (ofs.ItemEntered l walk v))) (controls.Ask (requests.Scope l.place l.cells)))) (of_work (ofs.ItemCame l walk) v)
unfolding Leads next_work control_work act step_work of_work
of_item l walk v h = ap (λ b. λ k. if b then k (Normal values.Undefined) else ask (requests.Scope l.place l.cells) (item_entered (eval_pattern l.target.value) (eval l.body.value) walk v (of_again l walk k) l.place k)) (sym h)

pub of_entered : (l : OfLoop) (walk item v : Value) (x : Rc Pattern Global) (q : ScopeId) → x.value ≡ l.target.value → q ≡ within l.place v → Leads (Ok (nexts.Under (items.Ending (endings.OfTarget l q walk)) (controls.Bind x q item))) (of_work (ofs.ItemEntered l walk item) v)
unfolding Leads next_work control_work act step_work of_work ending_work
of_entered l walk item v x q r h =
    ap (λ y. λ k. eval_pattern y q item (or_close walk (eval l.body.value q (item_ended walk (of_again l walk k) k)) k)) r
    ∙ ap (λ s. λ k. eval_pattern l.target.value s item (or_close walk (eval l.body.value s (item_ended walk (of_again l walk k) k)) k)) h

pub ruleset of_laws = (of_turns_law, of_opening_law, of_walking_law, of_turn_law, of_mark, of_item, of_entered, leads_error)
