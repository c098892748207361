-- What the items that look at every completion do with one.
use Rattle.std.proofs.Common.{◌≡◌, ℕ, zero, suc, Ok, refl, sym, ap, ◌∙◌, arith}
use Rattle.std.specs.declared.rc.Rc.{Rc}
use Rattle.std.specs.declared.alloc.Global.{Global}
use Rattle.actx_value.specs.declared.ids.ScopeId.{ScopeId}
use Rattle.actx_value.specs.declared.value.Value.{Value}
use Rattle.actx_value.specs.declared.value.Value.TheVariants as values
use Rattle.actx_value.specs.declared.request.Request.TheVariants as requests
use Rattle.actx_code.specs.declared.form.Form.{Form}
use Rattle.actx_want.specs.declared.completion.Completion.{Completion}
use Rattle.actx_want.specs.declared.completion.Completion.TheVariants.{Normal, Break, Continue, Return, Throw}
use Rattle.actx_frame_items.specs.declared.items.Step.TheVariants as steps
use Rattle.actx_frame_items.specs.declared.items.Item.TheVariants as items
use Rattle.actx_frame_items.specs.declared.items.Control.TheVariants as controls
use Rattle.actx_frame_items.specs.declared.items.Next.TheVariants as nexts
use Rattle.actx_frame_items.specs.Stack.{step_work, act, control_work, next_work, Leads}
use Rattle.actx_code.specs.declared.pattern.Pattern.{Pattern}
use Rattle.actx_want.specs.Run.{ask, before}
use Rattle.actx_want.specs.Loops.{body_ended, item_ended}
use Rattle.actx_want.specs.Bodies.{eval, eval_pattern}
use Rattle.actx_frame_items.specs.declared.items.walk.WhileLoop.{WhileLoop}
use Rattle.actx_frame_items.specs.declared.items.walk.ForLoop.{ForLoop}
use Rattle.actx_frame_items.specs.declared.items.walk.OfLoop.{OfLoop}
use Rattle.actx_frame_items.specs.declared.items.walk.LoopStep.TheVariants as loops
use Rattle.actx_frame_items.specs.declared.items.walk.OfStep.TheVariants as ofs
use Rattle.actx_frame_items.specs.declared.items.ending.Ending.TheVariants as endings
use Rattle.actx_frame_items.specs.Loops.{while_again, do_again, for_again, of_again, for_update, let_update, loop_work}
use Rattle.actx_frame_items.specs.Endings.{ending_work}
use Rattle.actx_frame_items.proofs.Leading.{leads_error, leads_by}
use Rattle.std.specs.Prelude.{◌-◌}
use Rattle.actx_code.specs.declared.item.Caught.{Caught, Unbound, Bound}
use Rattle.actx_want.specs.Run.{Run, Next'}
use Rattle.actx_want.specs.Functions.{Binding}
use Rattle.actx_want.specs.Loops.{repeating}
use Rattle.actx_want.specs.Patterns.{closed}
use Rattle.actx_want.specs.Tries.{catch_entered}
use Rattle.actx_frame_steps.specs.declared.endings.BodyEnd.{BodyEnd}
use Rattle.actx_frame_steps.specs.declared.endings.BodyEnd.TheVariants.{Again, Over}
use Rattle.actx_frame_items.specs.declared.items.pattern.Elements.{Elements}
use Rattle.actx_frame_items.specs.declared.items.statement.StatementStep.TheVariants as statements
use Rattle.actx_frame_steps.specs.Ends.{body_end_of}
use Rattle.actx_frame_items.specs.Endings.{caught_work}
use Rattle.actx_frame_items.specs.Patterns.{elements_left}
use Rattle.actx_frame_items.specs.Statements.{statement_work}
use Rattle.actx_frame_items.proofs.Parts.{caught_unbound, caught_bound}
use Rattle.actx_frame_steps.proofs.LoopLaws.{while_turns_law}
use Rattle.actx_frame_steps.proofs.OfLaws.{of_turns_law}

-- what a body's end means
ended_by : BodyEnd → (Completion → Run) → Run → Run
ended_by Again over next = next
ended_by (Over d) over next = over d

body_by : (c : Completion) (next : Run) (k : Next') → body_ended next k c ≡ ended_by (body_end_of c) k next
unfolding ended_by
body_by (Normal v) next k = refl
body_by (Break zero) next k = refl
body_by (Break (suc n)) next k = refl
body_by (Continue zero) next k = refl
body_by (Continue (suc n)) next k = refl
body_by (Return v) next k = refl
body_by (Throw v) next k = refl

again_by : (c : Completion) (next : Run) (k : Next') → body_end_of c ≡ Again → body_ended next k c ≡ next
unfolding ended_by
again_by c next k h = body_by c next k ∙ ap (λ b. ended_by b k next) h

over_by : (c d : Completion) (next : Run) (k : Next') → body_end_of c ≡ Over d → body_ended next k c ≡ k d
unfolding ended_by
over_by c d next k h = body_by c next k ∙ ap (λ b. ended_by b k next) h

-- the same for the body of a for-of, which closes its walk
close_after : Value → Next' → Completion → Run
close_after walk k d = ask (requests.Close walk) (closed d k)

item_by : (walk : Value) (c : Completion) (next : Run) (k : Next') → item_ended walk next k c ≡ ended_by (body_end_of c) (close_after walk k) next
unfolding ended_by close_after
item_by walk (Normal v) next k = refl
item_by walk (Break zero) next k = refl
item_by walk (Break (suc n)) next k = refl
item_by walk (Continue zero) next k = refl
item_by walk (Continue (suc n)) next k = refl
item_by walk (Return v) next k = refl
item_by walk (Throw v) next k = refl

item_again : (walk : Value) (c : Completion) (next : Run) (k : Next') → body_end_of c ≡ Again → item_ended walk next k c ≡ next
unfolding ended_by
item_again walk c next k h = item_by walk c next k ∙ ap (λ b. ended_by b (close_after walk k) next) h

item_over : (walk : Value) (c d : Completion) (next : Run) (k : Next') → body_end_of c ≡ Over d → item_ended walk next k c ≡ ask (requests.Close walk) (closed d k)
unfolding ended_by close_after
item_over walk c d next k h = item_by walk c next k ∙ ap (λ b. ended_by b (close_after walk k) next) h

pub break_own : (n : ℕ) → n ≡ 0 → Over (Normal values.Undefined) ≡ body_end_of (Break n)
break_own zero h = refl
break_own (suc n) h = absurd (omega arith)

pub break_outer : (n : ℕ) → (n ≡ 0 → ⊥) → Over (Break (n - 1)) ≡ body_end_of (Break n)
break_outer zero h = absurd (h refl)
break_outer (suc n) h = let e : suc n - 1 ≡ n = omega arith in ap (λ m. Over (Break m)) e

pub continue_own : (n : ℕ) → n ≡ 0 → Again ≡ body_end_of (Continue n)
continue_own zero h = refl
continue_own (suc n) h = absurd (omega arith)

pub continue_outer : (n : ℕ) → (n ≡ 0 → ⊥) → Over (Continue (n - 1)) ≡ body_end_of (Continue n)
continue_outer zero h = absurd (h refl)
continue_outer (suc n) h = let e : suc n - 1 ≡ n = omega arith in ap (λ m. Over (Continue m)) e

pub ruleset body_end_laws = (break_own, break_outer, continue_own, continue_outer)

pub while_again_law : (l : WhileLoop) (c : Completion) → body_end_of c ≡ Again → Leads (Ok (nexts.Under (items.Value (steps.Loop (loops.WhileTurn l))) (controls.Ask requests.Tick))) (ending_work (endings.While l) c)
unfolding Leads next_work control_work act step_work ending_work
while_again_law l c h = while_turns_law l ∙ sym (λ i k. again_by c (while_again l k) k h i)

pub while_over : (l : WhileLoop) (c d : Completion) → body_end_of c ≡ Over d → Leads (Ok (nexts.Just (controls.Done d))) (ending_work (endings.While l) c)
unfolding Leads next_work control_work act step_work ending_work
while_over l c d h = sym (λ i k. over_by c d (while_again l k) k h i)

pub do_again_law : (l : WhileLoop) (c : Completion) (e : Rc Form Global) → body_end_of c ≡ Again → e.value ≡ l.test.value → Leads (Ok (nexts.Under (items.Value (steps.Loop (loops.Repeating l))) (controls.Eval e l.place))) (ending_work (endings.Do l) c)
unfolding Leads next_work control_work act step_work ending_work loop_work
do_again_law l c e h r = ap (λ y. λ k. eval y l.place (repeating (do_again l k) k)) r ∙ sym (λ i k. again_by c (eval l.test.value l.place (repeating (do_again l k) k)) k h i)

pub do_over : (l : WhileLoop) (c d : Completion) → body_end_of c ≡ Over d → Leads (Ok (nexts.Just (controls.Done d))) (ending_work (endings.Do l) c)
unfolding Leads next_work control_work act step_work ending_work
do_over l c d h = sym (λ i k. over_by c d (eval l.test.value l.place (repeating (do_again l k) k)) k h i)

pub for_again_law : (l : ForLoop) (c : Completion) (e : Rc Form Global) → body_end_of c ≡ Again → e.value ≡ l.update.value → Leads (Ok (nexts.Under (items.Value (steps.Loop (loops.ForDue l))) (controls.Eval e l.place))) (ending_work (endings.For l) c)
unfolding Leads next_work control_work act step_work ending_work loop_work
for_again_law l c e h r = ap (λ y. λ k. eval y l.place (before (for_again l k) k)) r ∙ sym (λ i k. again_by c (for_update l k) k h i)

pub for_over : (l : ForLoop) (c d : Completion) → body_end_of c ≡ Over d → Leads (Ok (nexts.Just (controls.Done d))) (ending_work (endings.For l) c)
unfolding Leads next_work control_work act step_work ending_work
for_over l c d h = sym (λ i k. over_by c d (for_update l k) k h i)

pub let_again_law : (l : ForLoop) (c : Completion) → body_end_of c ≡ Again → Leads (Ok (nexts.Under (items.Value (steps.Loop (loops.Updating l))) (controls.Ask (requests.Fork l.place)))) (ending_work (endings.Let l) c)
unfolding Leads next_work control_work act step_work ending_work loop_work
let_again_law l c h = sym (λ i k. again_by c (let_update l k) k h i)

pub let_over : (l : ForLoop) (c d : Completion) → body_end_of c ≡ Over d → Leads (Ok (nexts.Just (controls.Done d))) (ending_work (endings.Let l) c)
unfolding Leads next_work control_work act step_work ending_work
let_over l c d h = sym (λ i k. over_by c d (let_update l k) k h i)

pub of_again_law : (l : OfLoop) (walk : Value) (c : Completion) → body_end_of c ≡ Again → Leads (Ok (nexts.Under (items.Value (steps.Of (ofs.Turn l walk))) (controls.Ask requests.Tick))) (ending_work (endings.Of l walk) c)
unfolding Leads next_work control_work act step_work ending_work
of_again_law l walk c h = of_turns_law l walk ∙ sym (λ i k. item_again walk c (of_again l walk k) k h i)

pub of_over : (l : OfLoop) (walk : Value) (c d : Completion) → body_end_of c ≡ Over d → Leads (Ok (nexts.Under (items.Ending (endings.Closed d)) (controls.Ask (requests.Close walk)))) (ending_work (endings.Of l walk) c)
unfolding Leads next_work control_work act step_work ending_work
of_over l walk c d h = sym (λ i k. item_over walk c d (of_again l walk k) k h i)

pub target_bound : (l : OfLoop) (q : ScopeId) (walk v : Value) (b : Rc Form Global) → b.value ≡ l.body.value → Leads (Ok (nexts.Under (items.Ending (endings.Of l walk)) (controls.Eval b q))) (ending_work (endings.OfTarget l q walk) (Normal v))
unfolding Leads next_work control_work act step_work ending_work
target_bound l q walk v b r = ap (λ y. λ k. eval y q (item_ended walk (of_again l walk k) k)) r

pub target_closes : (l : OfLoop) (q : ScopeId) (walk : Value) (c : Completion) → ((v : Value) → c ≡ Normal v → ⊥) → Leads (Ok (nexts.Under (items.Ending (endings.Closed c)) (controls.Ask (requests.Close walk)))) (ending_work (endings.OfTarget l q walk) c)
unfolding Leads next_work control_work act step_work ending_work
target_closes l q walk (Normal v) h = absurd (h v refl)
target_closes l q walk (Break n) h = refl
target_closes l q walk (Continue n) h = refl
target_closes l q walk (Return v) h = refl
target_closes l q walk (Throw v) h = refl

pub element_bound : (e : Elements) (walk v : Value) → elements_left e walk ≡ ending_work (endings.OrClose e walk) (Normal v)
unfolding Leads next_work control_work act step_work ending_work
element_bound e walk v = refl

pub element_closes : (e : Elements) (walk : Value) (c : Completion) → ((v : Value) → c ≡ Normal v → ⊥) → Leads (Ok (nexts.Under (items.Ending (endings.Closed c)) (controls.Ask (requests.Close walk)))) (ending_work (endings.OrClose e walk) c)
unfolding Leads next_work control_work act step_work ending_work
element_closes e walk (Normal v) h = absurd (h v refl)
element_closes e walk (Break n) h = refl
element_closes e walk (Continue n) h = refl
element_closes e walk (Return v) h = refl
element_closes e walk (Throw v) h = refl

pub catch_passes : (x : Rc Caught Global) (p : ScopeId) (c : Completion) → ((v : Value) → c ≡ Throw v → ⊥) → Leads (Ok (nexts.Just (controls.Done c))) (ending_work (endings.Catching x p) c)
unfolding Leads next_work control_work act step_work ending_work
catch_passes x p (Normal v) h = refl
catch_passes x p (Break n) h = refl
catch_passes x p (Continue n) h = refl
catch_passes x p (Return v) h = refl
catch_passes x p (Throw v) h = absurd (h v refl)

pub catch_takes : (x : Rc Caught Global) (p : ScopeId) (v : Value) → caught_work x.value p v ≡ ending_work (endings.Catching x p) (Throw v)
unfolding Leads next_work control_work act step_work ending_work caught_work
catch_takes x p v = refl

pub finishing_law : (b : Rc Form Global) (p : ScopeId) (c : Completion) → Leads (Ok (nexts.Under (items.Value (steps.Statement (statements.Settling c))) (controls.Eval b p))) (ending_work (endings.Finishing b p) c)
unfolding Leads next_work control_work act step_work ending_work statement_work
finishing_law b p c = refl

pub ruleset ending_laws = (while_again_law, while_over, do_again_law, do_over, for_again_law, for_over, let_again_law, let_over, of_again_law, of_over, target_bound, target_closes, element_bound, element_closes, catch_passes, catch_takes, finishing_law, leads_error)

pub closed_throw : (v : Value) (c : Completion) → Leads (Ok (nexts.Just (controls.Done (Throw v)))) (ending_work (endings.Closed (Throw v)) c)
unfolding Leads next_work control_work act step_work ending_work
closed_throw v c = refl

pub closed_goes_on : (b : Completion) (v : Value) → ((w : Value) → b ≡ Throw w → ⊥) → Leads (Ok (nexts.Just (controls.Done b))) (ending_work (endings.Closed b) (Normal v))
unfolding Leads next_work control_work act step_work ending_work
closed_goes_on (Normal w) v h = refl
closed_goes_on (Break n) v h = refl
closed_goes_on (Continue n) v h = refl
closed_goes_on (Return w) v h = refl
closed_goes_on (Throw w) v h = absurd (h w refl)

pub closed_fails : (b c : Completion) → ((w : Value) → b ≡ Throw w → ⊥) → ((v : Value) → c ≡ Normal v → ⊥) → Leads (Ok (nexts.Just (controls.Done c))) (ending_work (endings.Closed b) c)
unfolding Leads next_work control_work act step_work ending_work
closed_fails (Normal w) (Normal u) h g = absurd (g u refl)
closed_fails (Normal w) (Break m) h g = refl
closed_fails (Normal w) (Continue m) h g = refl
closed_fails (Normal w) (Return u) h g = refl
closed_fails (Normal w) (Throw u) h g = refl
closed_fails (Break n) (Normal u) h g = absurd (g u refl)
closed_fails (Break n) (Break m) h g = refl
closed_fails (Break n) (Continue m) h g = refl
closed_fails (Break n) (Return u) h g = refl
closed_fails (Break n) (Throw u) h g = refl
closed_fails (Continue n) (Normal u) h g = absurd (g u refl)
closed_fails (Continue n) (Break m) h g = refl
closed_fails (Continue n) (Continue m) h g = refl
closed_fails (Continue n) (Return u) h g = refl
closed_fails (Continue n) (Throw u) h g = refl
closed_fails (Return w) (Normal u) h g = absurd (g u refl)
closed_fails (Return w) (Break m) h g = refl
closed_fails (Return w) (Continue m) h g = refl
closed_fails (Return w) (Return u) h g = refl
closed_fails (Return w) (Throw u) h g = refl
closed_fails (Throw w) (Normal u) h g = absurd (h w refl)
closed_fails (Throw w) (Break m) h g = absurd (h w refl)
closed_fails (Throw w) (Continue m) h g = absurd (h w refl)
closed_fails (Throw w) (Return u) h g = absurd (h w refl)
closed_fails (Throw w) (Throw u) h g = absurd (h w refl)

pub ruleset closed_laws = (closed_throw, closed_goes_on, closed_fails)

pub catch_unbound : (b c : Rc Form Global) (p : ScopeId) (v : Value) → c.value ≡ b.value → Leads (Ok (nexts.Just (controls.Eval c p))) (caught_work (Unbound b) p v)
unfolding Leads next_work control_work act step_work caught_work
catch_unbound b c p v r = ap (λ y. eval y p) r ∙ ap (λ (f : Binding). f p v) (sym (caught_unbound b))

pub catch_bound : (cells : ℕ) (x y : Rc Pattern Global) (b c : Rc Form Global) (p : ScopeId) (v : Value) → y.value ≡ x.value → c.value ≡ b.value → Leads (Ok (nexts.Under (items.Value (steps.Statement (statements.CatchEntered y c v p))) (controls.Ask (requests.Scope p cells)))) (caught_work (Bound cells x b) p v)
unfolding Leads next_work control_work act step_work caught_work statement_work
catch_bound cells x y b c p v s r =
    ap (λ z. λ k. ask (requests.Scope p cells) (catch_entered (eval_pattern z) (eval c.value) v p k)) s
    ∙ ap (λ z. λ k. ask (requests.Scope p cells) (catch_entered (eval_pattern x.value) (eval z) v p k)) r
    ∙ ap (λ (f : Binding). f p v) (sym (caught_bound cells x b))

pub ruleset catch_laws = (catch_unbound, catch_bound, leads_error)
