-- What the items of loops do with a value.
use Rattle.std.proofs.Common.{◌≡◌, true, false, Ok, refl, sym, ap, ◌∙◌}
use Rattle.std.specs.Prelude.{if◌then◌else◌}
use Rattle.std.specs.declared.rc.Rc.{Rc}
use Rattle.std.specs.declared.alloc.Global.{Global}
use Rattle.actx_value.specs.declared.value.Value.{Value}
use Rattle.actx_value.specs.declared.value.Value.TheVariants as values
use Rattle.actx_value.specs.declared.request.Request.TheVariants as requests
use Rattle.actx_value.specs.Truth.{truth_of}
use Rattle.actx_code.specs.declared.form.Form.{Form}
use Rattle.actx_want.specs.declared.completion.Completion.TheVariants.{Normal}
use Rattle.actx_frame_items.specs.declared.items.Step.TheVariants as steps
use Rattle.actx_frame_items.specs.declared.items.Item.TheVariants as items
use Rattle.actx_frame_items.specs.declared.items.Control.TheVariants as controls
use Rattle.actx_frame_items.specs.declared.items.Next.TheVariants as nexts
use Rattle.actx_frame_items.specs.Stack.{step_work, act, control_work, next_work, Leads}
use Rattle.actx_want.specs.Run.{before, within}
use Rattle.actx_want.specs.Loops.{body_ended}
use Rattle.actx_want.specs.Bodies.{eval}
use Rattle.actx_want.proofs.LoopLaws.{while_law, do_law, for_law, let_law}
use Rattle.actx_frame_items.specs.declared.items.walk.WhileLoop.{WhileLoop}
use Rattle.actx_frame_items.specs.declared.items.walk.ForLoop.{ForLoop}
use Rattle.actx_frame_items.specs.declared.items.walk.LoopStep.TheVariants as loops
use Rattle.actx_frame_items.specs.declared.items.ending.Ending.TheVariants as endings
use Rattle.actx_frame_items.specs.Loops.{Moved, while_again, do_again, for_again, let_again, for_update, let_update, loop_work}
use Rattle.actx_frame_items.specs.Endings.{ending_work}
use Rattle.actx_frame_items.proofs.Leading.{leads_error, leads_by}

pub while_turns_law : (l : WhileLoop) → Leads (Ok (nexts.Under (items.Value (steps.Loop (loops.WhileTurn l))) (controls.Ask requests.Tick))) (while_again l)
unfolding Leads next_work control_work act step_work loop_work
while_turns_law l = sym (λ i k more. while_law l.test.value l.body.value l.place k tt more i)

pub do_turns_law : (l : WhileLoop) → Leads (Ok (nexts.Under (items.Value (steps.Loop (loops.DoTurn l))) (controls.Ask requests.Tick))) (do_again l)
unfolding Leads next_work control_work act step_work loop_work
do_turns_law l = sym (λ i k more. do_law l.body.value l.test.value l.place k tt more i)

pub for_turns_law : (l : ForLoop) → Leads (Ok (nexts.Under (items.Value (steps.Loop (loops.ForTurn l))) (controls.Ask requests.Tick))) (for_again l)
unfolding Leads next_work control_work act step_work loop_work
for_turns_law l = sym (λ i k more. for_law l.test.value l.update.value l.body.value l.place k tt more i)

pub let_turns_law : (l : ForLoop) → Leads (Ok (nexts.Under (items.Value (steps.Loop (loops.LetTurn l))) (controls.Ask requests.Tick))) (let_again l)
unfolding Leads next_work control_work act step_work loop_work
let_turns_law l = sym (λ i k more. let_law l.test.value l.update.value l.body.value k l.place more i)

pub ruleset turn_laws = (while_turns_law, do_turns_law, for_turns_law, let_turns_law)

pub while_turn_law : (l : WhileLoop) (v : Value) (e : Rc Form Global) → e.value ≡ l.test.value → Leads (Ok (nexts.Under (items.Value (steps.Loop (loops.WhileTested l))) (controls.Eval e l.place))) (loop_work (loops.WhileTurn l) v)
unfolding Leads next_work control_work act step_work loop_work ending_work
while_turn_law l v e r = ap (λ y. λ k. eval y l.place (act (items.Value (steps.Loop (loops.WhileTested l))) k)) r

pub while_tested_yes : (l : WhileLoop) (v : Value) (b : Rc Form Global) → truth_of v ≡ true → b.value ≡ l.body.value → Leads (Ok (nexts.Under (items.Ending (endings.While l)) (controls.Eval b l.place))) (loop_work (loops.WhileTested l) v)
unfolding Leads next_work control_work act step_work loop_work ending_work
while_tested_yes l v b h r =
    ap (λ y. λ k. eval y l.place (body_ended (while_again l k) k)) r
    ∙ ap (λ t. λ k. if t then eval l.body.value l.place (body_ended (while_again l k) k) else k (Normal values.Undefined)) (sym h)

pub while_tested_no : (l : WhileLoop) (v : Value) → truth_of v ≡ false → Leads (Ok (nexts.Just (controls.Done (Normal values.Undefined)))) (loop_work (loops.WhileTested l) v)
unfolding Leads next_work control_work act step_work loop_work
while_tested_no l v h = ap (λ t. λ k. if t then eval l.body.value l.place (body_ended (while_again l k) k) else k (Normal values.Undefined)) (sym h)

pub do_turn_law : (l : WhileLoop) (v : Value) (e : Rc Form Global) → e.value ≡ l.body.value → Leads (Ok (nexts.Under (items.Ending (endings.Do l)) (controls.Eval e l.place))) (loop_work (loops.DoTurn l) v)
unfolding Leads next_work control_work act step_work loop_work ending_work
do_turn_law l v e r = ap (λ y. λ k. eval y l.place (act (items.Ending (endings.Do l)) k)) r

pub repeating_yes : (l : WhileLoop) (v : Value) → truth_of v ≡ true → Leads (Ok (nexts.Under (items.Value (steps.Loop (loops.DoTurn l))) (controls.Ask requests.Tick))) (loop_work (loops.Repeating l) v)
unfolding Leads next_work control_work act step_work loop_work
repeating_yes l v h = do_turns_law l ∙ ap (λ t. λ k. if t then do_again l k else k (Normal values.Undefined)) (sym h)

pub repeating_no : (l : WhileLoop) (v : Value) → truth_of v ≡ false → Leads (Ok (nexts.Just (controls.Done (Normal values.Undefined)))) (loop_work (loops.Repeating l) v)
unfolding Leads next_work control_work act step_work loop_work
repeating_no l v h = ap (λ t. λ k. if t then do_again l k else k (Normal values.Undefined)) (sym h)

pub for_due_law : (l : ForLoop) (v : Value) → Leads (Ok (nexts.Under (items.Value (steps.Loop (loops.ForTurn l))) (controls.Ask requests.Tick))) (loop_work (loops.ForDue l) v)
unfolding Leads next_work control_work act step_work loop_work
for_due_law l v = for_turns_law l

pub for_turn_law : (l : ForLoop) (v : Value) (e : Rc Form Global) → e.value ≡ l.test.value → Leads (Ok (nexts.Under (items.Value (steps.Loop (loops.ForTested l))) (controls.Eval e l.place))) (loop_work (loops.ForTurn l) v)
unfolding Leads next_work control_work act step_work loop_work ending_work
for_turn_law l v e r = ap (λ y. λ k. eval y l.place (act (items.Value (steps.Loop (loops.ForTested l))) k)) r

pub for_tested_yes : (l : ForLoop) (v : Value) (b : Rc Form Global) → truth_of v ≡ true → b.value ≡ l.body.value → Leads (Ok (nexts.Under (items.Ending (endings.For l)) (controls.Eval b l.place))) (loop_work (loops.ForTested l) v)
unfolding Leads next_work control_work act step_work loop_work ending_work
for_tested_yes l v b h r =
    ap (λ y. λ k. eval y l.place (body_ended (for_update l k) k)) r
    ∙ ap (λ t. λ k. if t then eval l.body.value l.place (body_ended (for_update l k) k) else k (Normal values.Undefined)) (sym h)

pub for_tested_no : (l : ForLoop) (v : Value) → truth_of v ≡ false → Leads (Ok (nexts.Just (controls.Done (Normal values.Undefined)))) (loop_work (loops.ForTested l) v)
unfolding Leads next_work control_work act step_work loop_work
for_tested_no l v h = ap (λ t. λ k. if t then eval l.body.value l.place (body_ended (for_update l k) k) else k (Normal values.Undefined)) (sym h)

pub ruleset while_laws = (while_turn_law, while_tested_yes, while_tested_no, do_turn_law, repeating_yes, repeating_no, for_due_law, for_turn_law, for_tested_yes, for_tested_no, leads_error)

-- a loop that moved is the loop before, with another scope
moved_is : (m l : ForLoop) (v : Value) → Moved m l v → m ≡ record l { place = within l.place v }
moved_is m l v h = λ i. record { test = h.test i; update = h.update i; body = h.body i; place = h.place i }

pub let_entered_law : (e : Rc Form Global) (l m : ForLoop) (v : Value) → Moved m l v → Leads (Ok (nexts.Under (items.Value (steps.Loop (loops.LetDeclared m))) (controls.Eval e m.place))) (loop_work (loops.LetEntered e l) v)
unfolding Leads next_work control_work act step_work loop_work
let_entered_law e l m v h = ap (λ (y : ForLoop). λ k. eval e.value y.place (act (items.Value (steps.Loop (loops.LetDeclared y))) k)) (moved_is m l v h)

pub let_declared_law : (l : ForLoop) (v : Value) → Leads (Ok (nexts.Under (items.Value (steps.Loop (loops.LetStarted l))) (controls.Ask (requests.Fork l.place)))) (loop_work (loops.LetDeclared l) v)
unfolding Leads next_work control_work act step_work loop_work
let_declared_law l v = refl

pub let_started_law : (l m : ForLoop) (v : Value) → Moved m l v → Leads (Ok (nexts.Under (items.Value (steps.Loop (loops.LetTurn m))) (controls.Ask requests.Tick))) (loop_work (loops.LetStarted l) v)
unfolding Leads next_work control_work act step_work loop_work
let_started_law l m v h = let_turns_law m ∙ ap let_again (moved_is m l v h)

pub let_turn_law : (l : ForLoop) (v : Value) (e : Rc Form Global) → e.value ≡ l.test.value → Leads (Ok (nexts.Under (items.Value (steps.Loop (loops.LetTested l))) (controls.Eval e l.place))) (loop_work (loops.LetTurn l) v)
unfolding Leads next_work control_work act step_work loop_work ending_work
let_turn_law l v e r = ap (λ y. λ k. eval y l.place (act (items.Value (steps.Loop (loops.LetTested l))) k)) r

pub let_tested_yes : (l : ForLoop) (v : Value) (b : Rc Form Global) → truth_of v ≡ true → b.value ≡ l.body.value → Leads (Ok (nexts.Under (items.Ending (endings.Let l)) (controls.Eval b l.place))) (loop_work (loops.LetTested l) v)
unfolding Leads next_work control_work act step_work loop_work ending_work
let_tested_yes l v b h r =
    ap (λ y. λ k. eval y l.place (body_ended (let_update l k) k)) r
    ∙ ap (λ t. λ k. if t then eval l.body.value l.place (body_ended (let_update l k) k) else k (Normal values.Undefined)) (sym h)

pub let_tested_no : (l : ForLoop) (v : Value) → truth_of v ≡ false → Leads (Ok (nexts.Just (controls.Done (Normal values.Undefined)))) (loop_work (loops.LetTested l) v)
unfolding Leads next_work control_work act step_work loop_work
let_tested_no l v h = ap (λ t. λ k. if t then eval l.body.value l.place (body_ended (let_update l k) k) else k (Normal values.Undefined)) (sym h)

pub updating_law : (l m : ForLoop) (v : Value) (e : Rc Form Global) → Moved m l v → e.value ≡ m.update.value → Leads (Ok (nexts.Under (items.Value (steps.Loop (loops.LetUpdated m))) (controls.Eval e m.place))) (loop_work (loops.Updating l) v)
unfolding Leads next_work control_work act step_work loop_work
updating_law l m v e h r =
    ap (λ y. λ k. eval y m.place (act (items.Value (steps.Loop (loops.LetUpdated m))) k)) r
    ∙ ap (λ (y : ForLoop). λ k. eval y.update.value y.place (before (let_again y k) k)) (moved_is m l v h)

pub let_updated_law : (l : ForLoop) (v : Value) → Leads (Ok (nexts.Under (items.Value (steps.Loop (loops.LetTurn l))) (controls.Ask requests.Tick))) (loop_work (loops.LetUpdated l) v)
unfolding Leads next_work control_work act step_work loop_work
let_updated_law l v = let_turns_law l

pub ruleset let_laws = (let_entered_law, let_declared_law, let_started_law, let_turn_law, let_tested_yes, let_tested_no, updating_law, let_updated_law, leads_error)

pub ruleset loop_laws = (while_laws, let_laws)
