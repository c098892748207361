-- The work between two requests.
use Rattle.std.proofs.Common.{◌≡◌, ℕ, zero, suc, ◌+◌, ◌<◌, ◌≤◌, Bool, true, false, not, List, [], ◌∷◌, ◌++◌, length, map, drop, get_or, Option, Some, None, Result, Ok, Err, refl, sym, ap, ◌∙◌, subst, arith}
use Rattle.std.specs.Prelude.{if◌then◌else◌, pos}
use Rattle.std.specs.declared.rc.Rc.{Rc}
use Rattle.std.specs.declared.alloc.Global.{Global}
use Rattle.std.specs.declared.alloc.AllocError.{AllocError}
use Rattle.std.specs.declared.vec.Vec.{Vec}
use Rattle.actx_text.specs.declared.body_id.BodyId.{BodyId}
use Rattle.actx_value.specs.declared.ids.ScopeId.{ScopeId}
use Rattle.actx_value.specs.declared.value.Value.{Value}
use Rattle.actx_value.specs.declared.value.Value.TheVariants as values
use Rattle.actx_value.specs.declared.request.Request.{Request}
use Rattle.actx_value.specs.declared.request.Request.TheVariants as requests
use Rattle.actx_value.specs.declared.operator.BinaryOp.{BinaryOp}
use Rattle.actx_value.specs.declared.operator.BinaryOp.TheVariants as binary
use Rattle.actx_value.specs.declared.operator.UnaryOp.{UnaryOp}
use Rattle.actx_value.specs.declared.operator.UnaryOp.TheVariants as unary
use Rattle.actx_value.specs.Truth.{truth_of}
use Rattle.actx_tree.specs.declared.operator.StepOp.{StepOp}
use Rattle.actx_code.specs.declared.item.Logic.{Logic}
use Rattle.actx_code.specs.declared.form.Form.{Form}
use Rattle.actx_want.specs.declared.completion.Completion.{Completion}
use Rattle.actx_want.specs.declared.completion.Completion.TheVariants.{Normal, Break, Continue, Return, Throw}
use Rattle.actx_frame_items.specs.declared.items.Step.{Step}
use Rattle.actx_frame_items.specs.declared.items.Step.TheVariants as steps
use Rattle.actx_frame_items.specs.declared.items.Item.{Item}
use Rattle.actx_frame_items.specs.declared.items.Item.TheVariants as items
use Rattle.actx_frame_items.specs.declared.items.Control.{Control}
use Rattle.actx_frame_items.specs.declared.items.Control.TheVariants as controls
use Rattle.actx_frame_items.specs.declared.items.Next.{Next}
use Rattle.actx_frame_items.specs.declared.items.Next.TheVariants as nexts
use Rattle.actx_frame_items.specs.Work.{Work, forms}
use Rattle.actx_frame_items.specs.Stack.{step_work, act, control_work, next_work, Leads}
use Rattle.actx_code.specs.declared.member.Key.{Key}
use Rattle.actx_code.specs.declared.pattern.Element.{Element}
use Rattle.actx_code.specs.declared.pattern.Pattern.{Pattern}
use Rattle.actx_value.specs.declared.value.Answer.{Answer}
use Rattle.actx_want.specs.Run.{Run, Next', completion, ask, asks, on_value}
use Rattle.actx_want.specs.Bodies.{eval, eval_pattern, eval_element, end_of, form_wants}
use Rattle.actx_frame_items.specs.declared.items.member.KeyUse.{KeyUse}
use Rattle.actx_frame_items.specs.declared.items.ending.Ending.{Ending}
use Rattle.actx_frame_items.specs.declared.items.name.NameStep.{NameStep}
use Rattle.actx_frame_items.specs.declared.items.operator.OperatorStep.{OperatorStep}
use Rattle.actx_frame_items.specs.declared.items.member.MemberStep.{MemberStep}
use Rattle.actx_frame_items.specs.declared.items.list.ListStep.{ListStep}
use Rattle.actx_frame_items.specs.declared.items.list.EntryStep.{EntryStep}
use Rattle.actx_frame_items.specs.declared.items.pattern.PatternStep.{PatternStep}
use Rattle.actx_frame_items.specs.declared.items.statement.StatementStep.{StatementStep}
use Rattle.actx_frame_items.specs.declared.items.statement.ClassStep.{ClassStep}
use Rattle.actx_frame_items.specs.declared.items.walk.LoopStep.{LoopStep}
use Rattle.actx_frame_items.specs.declared.items.walk.OfStep.{OfStep}
use Rattle.actx_frame.specs.declared.machine.Want.{Want}
use Rattle.actx_frame.specs.declared.machine.Want.TheVariants as wants
use Rattle.actx_frame.specs.declared.machine.Wanted.{Wanted}
use Rattle.actx_frame.specs.declared.machine.Piece.{Piece}
use Rattle.actx_frame.specs.declared.machine.Piece.TheVariants as pieces
use Rattle.actx_frame_items.specs.Names.{name_work}
use Rattle.actx_frame_items.specs.Operators.{operator_work}
use Rattle.actx_frame_items.specs.Members.{keyed, member_work}
use Rattle.actx_frame_items.specs.Lists.{list_work, entry_work}
use Rattle.actx_frame_items.specs.Patterns.{pattern_work}
use Rattle.actx_frame_items.specs.Statements.{statement_work, class_work}
use Rattle.actx_frame_items.specs.Loops.{loop_work, of_work}
use Rattle.actx_frame_items.specs.Endings.{ending_work}
use Rattle.actx_frame_items.specs.Stack.{stacked, kept, Reaches}
use Rattle.actx_frame.specs.Machine.{completed, ended_of, rest_of, piece_run, Works, Settles}
use Rattle.actx_frame_items.proofs.Leading.{leads_error}

pub step_name : (s : NameStep) (v : Value) → step_work (steps.Name s) v ≡ name_work s v
unfolding step_work
step_name s v = refl

pub step_operator : (s : OperatorStep) (v : Value) → step_work (steps.Operator s) v ≡ operator_work s v
unfolding step_work
step_operator s v = refl

pub step_member : (s : MemberStep) (v : Value) → step_work (steps.Member s) v ≡ member_work s v
unfolding step_work
step_member s v = refl

pub step_list : (s : ListStep) (v : Value) → step_work (steps.List s) v ≡ list_work s v
unfolding step_work
step_list s v = refl

pub step_entry : (s : EntryStep) (v : Value) → step_work (steps.Entry s) v ≡ entry_work s v
unfolding step_work
step_entry s v = refl

pub step_pattern : (s : PatternStep) (v : Value) → step_work (steps.Pattern s) v ≡ pattern_work s v
unfolding step_work
step_pattern s v = refl

pub step_statement : (s : StatementStep) (v : Value) → step_work (steps.Statement s) v ≡ statement_work s v
unfolding step_work
step_statement s v = refl

pub step_class : (s : ClassStep) (v : Value) → step_work (steps.Class s) v ≡ class_work s v
unfolding step_work
step_class s v = refl

pub step_loop : (s : LoopStep) (v : Value) → step_work (steps.Loop s) v ≡ loop_work s v
unfolding step_work
step_loop s v = refl

pub step_of : (s : OfStep) (v : Value) → step_work (steps.Of s) v ≡ of_work s v
unfolding step_work
step_of s v = refl

pub ruleset step_laws = (step_name, step_operator, step_member, step_list, step_entry, step_pattern, step_statement, step_class, step_loop, step_of, leads_error)

pub item_value : (s : Step) (v : Value) → completed (items.Value s) (Normal v) ≡ step_work s v
unfolding completed act
item_value s v = refl

pub item_passes : (s : Step) (c : Completion) → ((v : Value) → c ≡ Normal v → ⊥) → Leads (Ok (nexts.Just (controls.Done c))) (completed (items.Value s) c)
unfolding Leads next_work control_work act step_work completed
item_passes s (Normal v) h = absurd (h v refl)
item_passes s (Break n) h = refl
item_passes s (Continue n) h = refl
item_passes s (Return v) h = refl
item_passes s (Throw v) h = refl

pub item_ending : (e : Ending) (c : Completion) → completed (items.Ending e) c ≡ ending_work e c
unfolding completed act
item_ending e c = refl

pub ruleset item_laws = (item_value, item_passes, item_ending, leads_error)

stacked_push : (k : Next') (is : List Item) (i : Item) → stacked k (is ++ i ∷ []) ≡ act i (stacked k is)
unfolding stacked
stacked_push k [] i = refl
stacked_push k (j ∷ is) i = stacked_push (act j k) is i

pub kept_push : (is : List Item) (i : Item) → kept (is ++ i ∷ []) ≡ act i (kept is)
unfolding kept
kept_push is i = stacked_push end_of is i

pub reaches_error : (e : AllocError) (k : Next') (r : Run) → Reaches (Err e) k r
unfolding Reaches
reaches_error e k r = tt

pub put_just : (c : Control) (k : Next') → Reaches (Ok c) k (next_work (nexts.Just c) k)
unfolding Reaches next_work
put_just c k = refl

pub put_under : (i : Item) (c : Control) (is js : List Item) → js ≡ is ++ i ∷ [] → Reaches (Ok c) (kept js) (next_work (nexts.Under i c) (kept is))
unfolding Reaches next_work
put_under i c is js h = ap (λ xs. control_work c (kept xs)) h ∙ ap (λ k. control_work c k) (kept_push is i)

pub put_two : (i j : Item) (c : Control) (is js ks : List Item) → js ≡ is ++ i ∷ [] → ks ≡ js ++ j ∷ [] → Reaches (Ok c) (kept ks) (next_work (nexts.UnderTwo i j c) (kept is))
unfolding Reaches next_work
put_two i j c is js ks h g = ap (λ xs. control_work c (kept xs)) g ∙ ap (λ k. control_work c k) (kept_push js j) ∙ ap (λ xs. control_work c (act j (kept xs))) h ∙ ap (λ k. control_work c (act j k)) (kept_push is i)

pub ruleset put_laws = (reaches_error, put_just, put_under, put_two)

pub works_error : (e : AllocError) (s : List Item) (r : Run) → Works (Err e) s r
unfolding Works
works_error e s r = tt

pub works_on : (c : Control) (s : List Item) (r : Run) → Reaches (Ok c) (kept s) r → Works (Ok (pieces.On c)) s r
unfolding Works Reaches piece_run
works_on c s r h = h

pub ruleset on_laws = (works_error, works_on)

pub ended_is : (c : Completion) (list : List Value) (k : Next') → rest_of (ended_of c) list k ≡ end_of c
unfolding rest_of
ended_is (Normal v) list k = refl
ended_is (Break n) list k = refl
ended_is (Continue n) list k = refl
ended_is (Return v) list k = refl
ended_is (Throw v) list k = refl

pub works_ended : (c : Completion) (w : Want) (list : Vec Value Global) (s t : List Item) → s ≡ [] → w ≡ ended_of c → Works (Ok (pieces.Out (record { want = w; list = list }))) t (kept s c)
unfolding Works piece_run kept stacked
works_ended c w list s t h e = ap (λ x. rest_of x list.items (kept t)) e ∙ ended_is c list.items (kept t) ∙ ap (λ xs. kept xs c) (sym h)

pub works_popped : (i : Item) (c : Completion) (n : Next) (r : Result Piece AllocError) (is js s : List Item) → is ≡ js ++ i ∷ [] → Leads (Ok n) (completed i c) → Works r s (next_work n (kept js)) → Works r s (kept is c)
unfolding Leads completed
works_popped i c n r is js s h l w = subst (Works r s) (ap (λ (f : Work). f (kept js)) l ∙ sym (ap (λ (f : Next'). f c) (ap kept h ∙ kept_push js i))) w

pub ruleset done_laws = (works_error, leads_error, works_ended, works_popped)

pub works_ask : (q : Request) (list : Vec Value Global) (s : List Item) → list.items ≡ [] → Works (Ok (pieces.Out (record { want = wants.Ask q; list = list }))) s (control_work (controls.Ask q) (kept s))
unfolding Works piece_run rest_of control_work
works_ask q list s h = ap (λ xs. asks q xs (kept s)) h

pub works_ask_with : (q : Request) (list : Vec Value Global) (s : List Item) → Works (Ok (pieces.Out (record { want = wants.Ask q; list = list }))) s (control_work (controls.AskWith q list) (kept s))
unfolding Works piece_run rest_of control_work
works_ask_with q list s = refl

pub works_done : (c : Completion) (k : Next') → control_work (controls.Done c) k ≡ k c
unfolding control_work
works_done c k = refl

pub works_eval : (e : Rc Form Global) (p : ScopeId) (n : Next) (r : Result Piece AllocError) (s : List Item) (k : Next') → Leads (Ok n) (eval e.value p) → Works r s (next_work n k) → Works r s (control_work (controls.Eval e p) k)
unfolding Leads control_work
works_eval e p n r s k l w = subst (Works r s) (ap (λ (f : Work). f k) l) w

pub works_key : (key : Key) (p : ScopeId) (u : KeyUse) (n : Next) (r : Result Piece AllocError) (s : List Item) (k : Next') → Leads (Ok n) (keyed key p u) → Works r s (next_work n k) → Works r s (control_work (controls.UseKey key p u) k)
unfolding Leads control_work
works_key key p u n r s k l w = subst (Works r s) (ap (λ (f : Work). f k) l) w

pub works_bind : (x : Rc Pattern Global) (p : ScopeId) (v : Value) (n : Next) (r : Result Piece AllocError) (s : List Item) (k : Next') → Leads (Ok n) (eval_pattern x.value p v) → Works r s (next_work n k) → Works r s (control_work (controls.Bind x p v) k)
unfolding Leads control_work
works_bind x p v n r s k l w = subst (Works r s) (ap (λ (f : Work). f k) l) w

pub works_element : (x : Element) (p : ScopeId) (v : Value) (n : Next) (r : Result Piece AllocError) (s : List Item) (k : Next') → Leads (Ok n) (eval_element x p v) → Works r s (next_work n k) → Works r s (control_work (controls.BindElement x p v) k)
unfolding Leads control_work
works_element x p v n r s k l w = subst (Works r s) (ap (λ (f : Work). f k) l) w

pub ruleset work_laws = (works_ask, works_ask_with, works_done, works_eval, works_key, works_bind, works_element, works_error, leads_error)

pub settles_error : (e : AllocError) (s : List Item) (r : Run) → Settles (Err e) s r
unfolding Settles
settles_error e s r = tt

pub run_begins : (c : Control) (s : List Item) → Works (Ok (pieces.On c)) s (control_work c (kept s))
unfolding Works piece_run
run_begins c s = refl

pub run_works : (x : Result Piece AllocError) (c : Control) (s t : List Item) (r : Run) → Works (Ok (pieces.On c)) s r → Works x t (control_work c (kept s)) → Works x t r
unfolding Works piece_run
run_works x c s t r h w = subst (Works x t) h w

pub run_settles : (w : Wanted) (t : List Item) (r : Run) → Works (Ok (pieces.Out w)) t r → Settles (Ok w) t r
unfolding Works piece_run Settles
run_settles w t r h = h

pub ruleset run_laws = (settles_error, run_begins, run_works, run_settles, works_error)

pub begin_settles : (n : Next) (c : Control) (x : Result Wanted AllocError) (s t u : List Item) (w : Work) → Leads (Ok n) w → Reaches (Ok c) (kept t) (next_work n (kept s)) → Settles x u (control_work c (kept t)) → Settles x u (w (kept s))
unfolding Leads Reaches
begin_settles n c x s t u w l h g = subst (Settles x u) (h ∙ ap (λ (f : Work). f (kept s)) l) g

pub ruleset begin_laws = (begin_settles, settles_error, leads_error, reaches_error)

pub frame_begins : (form : Form) (p : ScopeId) (w : Want) (list : List Value) (v : Vec Value Global) (none s : List Item) → none ≡ [] → list ≡ v.items → Settles (Ok (record { want = w; list = v })) s (eval form p (kept none)) → rest_of w list (kept s) ≡ form_wants form p
unfolding Settles kept stacked
frame_begins form p w list v none s h e g = ap (λ xs. rest_of w xs (kept s)) e ∙ g ∙ ap (λ xs. eval form p (kept xs)) h

pub ruleset frame_laws = (frame_begins)
