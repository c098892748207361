-- What the items of names do with a value, and how a change begins.
use Rattle.std.proofs.Common.{◌≡◌, true, false, Ok, refl, sym, ap}
use Rattle.std.specs.Prelude.{if◌then◌else◌}
use Rattle.std.specs.declared.rc.Rc.{Rc}
use Rattle.std.specs.declared.alloc.Global.{Global}
use Rattle.actx_value.specs.declared.ids.ScopeId.{ScopeId}
use Rattle.actx_value.specs.declared.value.Value.{Value}
use Rattle.actx_value.specs.declared.request.Request.TheVariants as requests
use Rattle.actx_value.specs.declared.operator.BinaryOp.{BinaryOp}
use Rattle.actx_value.specs.declared.operator.UnaryOp.TheVariants as unary
use Rattle.actx_tree.specs.declared.operator.StepOp.{StepOp}
use Rattle.actx_code.specs.declared.item.Logic.{Logic}
use Rattle.actx_code.specs.declared.form.Form.{Form}
use Rattle.actx_want.specs.declared.completion.Completion.TheVariants.{Normal}
use Rattle.actx_frame_items.specs.declared.items.Step.TheVariants as steps
use Rattle.actx_frame_items.specs.declared.items.Item.TheVariants as items
use Rattle.actx_frame_items.specs.declared.items.Control.TheVariants as controls
use Rattle.actx_frame_items.specs.declared.items.Next.TheVariants as nexts
use Rattle.actx_frame_items.specs.Stack.{step_work, act, control_work, next_work, Leads}
use Rattle.actx_code.specs.declared.member.Change.{Plainly, WithOperator, WithLogic, StepBefore, StepAfter}
use Rattle.actx_want.specs.Names.{is_due, step_operator, one, storing}
use Rattle.actx_want.specs.Bodies.{eval, eval_change}
use Rattle.actx_frame_items.specs.declared.items.name.Spot.{Spot}
use Rattle.actx_frame_items.specs.declared.items.name.Spot.TheVariants as spots
use Rattle.actx_frame_items.specs.declared.items.name.NameStep.TheVariants as names
use Rattle.actx_frame_items.specs.Names.{access, read_of, write_of, name_work}
use Rattle.actx_frame_items.proofs.Parts.{change_plainly, change_operator, change_logic, change_before, change_after}

pub name_storing : (a : Spot) (v : Value) → Leads (Ok (nexts.Under (items.Value (steps.Name (names.Keeping v))) (controls.Ask (write_of a v)))) (name_work (names.Storing a) v)
unfolding Leads next_work control_work act step_work name_work
name_storing (spots.Name s h i) v = refl
name_storing (spots.Member o key) v = refl

pub name_keeping : (w v : Value) → Leads (Ok (nexts.Just (controls.Done (Normal w)))) (name_work (names.Keeping w) v)
unfolding Leads next_work control_work act step_work name_work
name_keeping w v = refl

pub name_combining : (a : Spot) (op : BinaryOp) (left v : Value) → Leads (Ok (nexts.Under (items.Value (steps.Name (names.Storing a))) (controls.Ask (requests.Binary op left v)))) (name_work (names.Combining a op left) v)
unfolding Leads next_work control_work act step_work name_work
name_combining a op left v = refl

pub name_right : (a : Spot) (op : BinaryOp) (e : Rc Form Global) (p : ScopeId) (v : Value) → Leads (Ok (nexts.Under (items.Value (steps.Name (names.Combining a op v))) (controls.Eval e p))) (name_work (names.RightOf a op e p) v)
unfolding Leads next_work control_work act step_work name_work
name_right a op e p v = refl

pub name_due : (a : Spot) (op : Logic) (e : Rc Form Global) (p : ScopeId) (v : Value) → is_due op v ≡ true → Leads (Ok (nexts.Under (items.Value (steps.Name (names.Storing a))) (controls.Eval e p))) (name_work (names.Deciding a op e p) v)
unfolding Leads next_work control_work act step_work name_work
name_due a op e p v h = ap (λ b. λ k. if b then eval e.value p (storing (access a) k) else k (Normal v)) (sym h)

pub name_not_due : (a : Spot) (op : Logic) (e : Rc Form Global) (p : ScopeId) (v : Value) → is_due op v ≡ false → Leads (Ok (nexts.Just (controls.Done (Normal v)))) (name_work (names.Deciding a op e p) v)
unfolding Leads next_work control_work act step_work name_work
name_not_due a op e p v h = ap (λ b. λ k. if b then eval e.value p (storing (access a) k) else k (Normal v)) (sym h)

pub name_storing_after : (a : Spot) (old v : Value) → Leads (Ok (nexts.Under (items.Value (steps.Name (names.Keeping old))) (controls.Ask (write_of a v)))) (name_work (names.StoringAfter a old) v)
unfolding Leads next_work control_work act step_work name_work
name_storing_after (spots.Name s h i) old v = refl
name_storing_after (spots.Member o key) old v = refl

pub name_stepped_before : (a : Spot) (op : StepOp) (v : Value) → Leads (Ok (nexts.Under (items.Value (steps.Name (names.Storing a))) (controls.Ask (requests.Binary (step_operator op) v one)))) (name_work (names.SteppedBefore a op) v)
unfolding Leads next_work control_work act step_work name_work
name_stepped_before a op v = refl

pub name_stepped_after : (a : Spot) (op : StepOp) (v : Value) → Leads (Ok (nexts.Under (items.Value (steps.Name (names.StoringAfter a v))) (controls.Ask (requests.Binary (step_operator op) v one)))) (name_work (names.SteppedAfter a op) v)
unfolding Leads next_work control_work act step_work name_work
name_stepped_after a op v = refl

pub name_numbering_before : (a : Spot) (op : StepOp) (v : Value) → Leads (Ok (nexts.Under (items.Value (steps.Name (names.SteppedBefore a op))) (controls.Ask (requests.Unary unary.ToNumber v)))) (name_work (names.NumberingBefore a op) v)
unfolding Leads next_work control_work act step_work name_work
name_numbering_before a op v = refl

pub name_numbering_after : (a : Spot) (op : StepOp) (v : Value) → Leads (Ok (nexts.Under (items.Value (steps.Name (names.SteppedAfter a op))) (controls.Ask (requests.Unary unary.ToNumber v)))) (name_work (names.NumberingAfter a op) v)
unfolding Leads next_work control_work act step_work name_work
name_numbering_after a op v = refl

pub ruleset name_laws = (name_storing, name_keeping, name_combining, name_right, name_due, name_not_due, name_storing_after, name_stepped_before, name_stepped_after, name_numbering_before, name_numbering_after)

pub begin_plainly : (a : Spot) (e : Rc Form Global) (p : ScopeId) → Leads (Ok (nexts.Under (items.Value (steps.Name (names.Storing a))) (controls.Eval e p))) (eval_change (Plainly e) (access a) p)
unfolding Leads next_work control_work act step_work name_work
begin_plainly a e p = ap (λ c. c (access a) p) (sym (change_plainly e))

pub begin_operator : (a : Spot) (op : BinaryOp) (e : Rc Form Global) (p : ScopeId) → Leads (Ok (nexts.Under (items.Value (steps.Name (names.RightOf a op e p))) (controls.Ask (read_of a)))) (eval_change (WithOperator op e) (access a) p)
unfolding Leads next_work control_work act step_work name_work
begin_operator (spots.Name s h i) op e p = ap (λ c. c (access (spots.Name s h i)) p) (sym (change_operator op e))
begin_operator (spots.Member o key) op e p = ap (λ c. c (access (spots.Member o key)) p) (sym (change_operator op e))

pub begin_logic : (a : Spot) (op : Logic) (e : Rc Form Global) (p : ScopeId) → Leads (Ok (nexts.Under (items.Value (steps.Name (names.Deciding a op e p))) (controls.Ask (read_of a)))) (eval_change (WithLogic op e) (access a) p)
unfolding Leads next_work control_work act step_work name_work
begin_logic (spots.Name s h i) op e p = ap (λ c. c (access (spots.Name s h i)) p) (sym (change_logic op e))
begin_logic (spots.Member o key) op e p = ap (λ c. c (access (spots.Member o key)) p) (sym (change_logic op e))

pub begin_before : (a : Spot) (op : StepOp) (p : ScopeId) → Leads (Ok (nexts.Under (items.Value (steps.Name (names.NumberingBefore a op))) (controls.Ask (read_of a)))) (eval_change (StepBefore op) (access a) p)
unfolding Leads next_work control_work act step_work name_work
begin_before (spots.Name s h i) op p = ap (λ c. c (access (spots.Name s h i)) p) (sym (change_before op))
begin_before (spots.Member o key) op p = ap (λ c. c (access (spots.Member o key)) p) (sym (change_before op))

pub begin_after : (a : Spot) (op : StepOp) (p : ScopeId) → Leads (Ok (nexts.Under (items.Value (steps.Name (names.NumberingAfter a op))) (controls.Ask (read_of a)))) (eval_change (StepAfter op) (access a) p)
unfolding Leads next_work control_work act step_work name_work
begin_after (spots.Name s h i) op p = ap (λ c. c (access (spots.Name s h i)) p) (sym (change_after op))
begin_after (spots.Member o key) op p = ap (λ c. c (access (spots.Member o key)) p) (sym (change_after op))

pub ruleset change_laws = (begin_plainly, begin_operator, begin_logic, begin_before, begin_after)
