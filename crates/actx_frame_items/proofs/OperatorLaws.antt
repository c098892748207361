-- What the items of operators and templates do with a value.
use Rattle.std.proofs.Common.{◌≡◌, ℕ, ◌+◌, ◌<◌, ◌≤◌, true, false, not, List, [], ◌∷◌, length, map, drop, get_or, Option, Some, None, Ok, refl, sym, ap, ◌∙◌}
use Rattle.std.specs.Prelude.{if◌then◌else◌}
use Rattle.std.specs.declared.rc.Rc.{Rc}
use Rattle.std.specs.declared.alloc.Global.{Global}
use Rattle.std.specs.declared.vec.Vec.{Vec}
use Rattle.actx_value.specs.declared.ids.ScopeId.{ScopeId}
use Rattle.actx_value.specs.declared.value.Value.{Value}
use Rattle.actx_value.specs.declared.value.Value.TheVariants as values
use Rattle.actx_value.specs.declared.request.Request.TheVariants as requests
use Rattle.actx_value.specs.declared.operator.BinaryOp.{BinaryOp}
use Rattle.actx_value.specs.declared.operator.BinaryOp.TheVariants as binary
use Rattle.actx_value.specs.declared.operator.UnaryOp.{UnaryOp}
use Rattle.actx_value.specs.Truth.{truth_of}
use Rattle.actx_code.specs.declared.item.Logic.{Logic}
use Rattle.actx_code.specs.declared.form.Form.{Form}
use Rattle.actx_want.specs.declared.completion.Completion.TheVariants.{Normal}
use Rattle.actx_frame_items.specs.declared.items.Step.TheVariants as steps
use Rattle.actx_frame_items.specs.declared.items.Item.TheVariants as items
use Rattle.actx_frame_items.specs.declared.items.Control.TheVariants as controls
use Rattle.actx_frame_items.specs.declared.items.Next.TheVariants as nexts
use Rattle.actx_frame_items.specs.Work.{forms}
use Rattle.actx_frame_items.specs.Stack.{step_work, act, control_work, next_work, Leads}
use Rattle.std.proofs.lemmas.List.{drop_all}
use Rattle.actx_code.specs.declared.item.Operand.{Operand}
use Rattle.actx_code.specs.declared.item.Piece.{Piece}
use Rattle.actx_want.specs.Run.{on_value}
use Rattle.actx_want.specs.Names.{is_due}
use Rattle.actx_want.specs.Operators.{Chained, chained, decided, applying, piece}
use Rattle.actx_want.specs.Bodies.{eval, eval_operand, eval_piece}
use Rattle.actx_frame_items.specs.declared.items.operator.OperatorStep.TheVariants as operators
use Rattle.actx_frame_items.specs.Operators.{operator_work}
use Rattle.actx_frame_items.proofs.Leading.{leads_error, leads_by, dropped}
use Rattle.actx_frame_items.proofs.Parts.{operand_is, piece_is}

pub chain_end : (os : Rc (Vec Operand Global) Global) (i : ℕ) (p : ScopeId) (v : Value) → length os.value.items ≤ i → Leads (Ok (nexts.Just (controls.Done (Normal v)))) (chained (map eval_operand (drop i os.value.items)) p v)
unfolding Leads next_work control_work act step_work chained
chain_end os i p v le = ap (λ xs. chained (map eval_operand xs) p v) (sym (drop_all i os.value.items le))

pub chain_more : (os : Rc (Vec Operand Global) Global) (i : ℕ) (p : ScopeId) (v : Value) (x : Operand) (e : Rc Form Global) → i < length os.value.items → x ≡ get_or os.value.items i x → e.value ≡ x.right.value → Leads (Ok (nexts.UnderTwo (items.Value (steps.Operator (operators.Chaining os (i + 1) p))) (items.Value (steps.Operator (operators.Applying x.op v))) (controls.Eval e p))) (chained (map eval_operand (drop i os.value.items)) p v)
unfolding Leads next_work control_work act step_work operator_work chained
chain_more os i p v x e lt g r =
    ap (λ f. λ k. f p (applying x.op v (on_value (λ w. chained (map eval_operand (drop (i + 1) os.value.items)) p w k) k))) (ap eval r)
    ∙ ap (λ (f : Chained). λ k. f p v (on_value (λ w. chained (map eval_operand (drop (i + 1) os.value.items)) p w k) k)) (sym (operand_is x))
    ∙ ap (λ xs. chained (map eval_operand xs) p v) (sym (dropped os.value.items i x lt g))

pub ruleset chain_laws = (chain_end, chain_more, leads_error)

pub logic_end : (op : Logic) (es : Rc (Vec (Rc Form Global) Global) Global) (i : ℕ) (p : ScopeId) (v : Value) → length es.value.items ≤ i → Leads (Ok (nexts.Just (controls.Done (Normal v)))) (decided op (forms (drop i es.value.items)) p v)
unfolding Leads next_work control_work act step_work decided
logic_end op es i p v le = ap (λ xs. decided op (forms xs) p v) (sym (drop_all i es.value.items le))

stops : (op : Logic) (es : List (Rc Form Global)) (p : ScopeId) (v : Value) → is_due op v ≡ false → Leads (Ok (nexts.Just (controls.Done (Normal v)))) (decided op (forms es) p v)
unfolding Leads next_work control_work act step_work decided
stops op [] p v h = refl
stops op (e ∷ es) p v h = ap (λ b. λ k. if b then eval e.value p (on_value (λ w. decided op (forms es) p w k) k) else k (Normal v)) (sym h)

pub logic_stops : (op : Logic) (es : Rc (Vec (Rc Form Global) Global) Global) (i : ℕ) (p : ScopeId) (v : Value) → is_due op v ≡ false → Leads (Ok (nexts.Just (controls.Done (Normal v)))) (decided op (forms (drop i es.value.items)) p v)
unfolding Leads next_work control_work act step_work decided
logic_stops op es i p v h = stops op (drop i es.value.items) p v h

pub logic_more : (op : Logic) (es : Rc (Vec (Rc Form Global) Global) Global) (i : ℕ) (p : ScopeId) (v : Value) (x e : Rc Form Global) → i < length es.value.items → is_due op v ≡ true → x ≡ get_or es.value.items i x → e.value ≡ x.value → Leads (Ok (nexts.Under (items.Value (steps.Operator (operators.DecidingOn op es (i + 1) p))) (controls.Eval e p))) (decided op (forms (drop i es.value.items)) p v)
unfolding Leads next_work control_work act step_work operator_work decided
logic_more op es i p v x e lt h g r =
    ap (λ f. λ k. f p (on_value (λ w. decided op (forms (drop (i + 1) es.value.items)) p w k) k)) (ap eval r)
    ∙ ap (λ b. λ k. if b then eval x.value p (on_value (λ w. decided op (forms (drop (i + 1) es.value.items)) p w k) k) else k (Normal v)) (sym h)
    ∙ ap (λ xs. decided op (forms xs) p v) (sym (dropped es.value.items i x lt g))

pub ruleset logic_laws = (logic_end, logic_stops, logic_more, leads_error)

pub template_end : (ps : Rc (Vec Piece Global) Global) (i : ℕ) (p : ScopeId) (v : Value) → length ps.value.items ≤ i → Leads (Ok (nexts.Just (controls.Done (Normal v)))) (chained (map eval_piece (drop i ps.value.items)) p v)
unfolding Leads next_work control_work act step_work chained
template_end ps i p v le = ap (λ xs. chained (map eval_piece xs) p v) (sym (drop_all i ps.value.items le))

pub template_more : (ps : Rc (Vec Piece Global) Global) (i : ℕ) (p : ScopeId) (v : Value) (x : Piece) (e : Rc Form Global) → i < length ps.value.items → x ≡ get_or ps.value.items i x → e.value ≡ x.value.value → Leads (Ok (nexts.UnderTwo (items.Value (steps.Operator (operators.Templating ps (i + 1) p))) (items.Value (steps.Operator (operators.MakingText x.after v))) (controls.Eval e p))) (chained (map eval_piece (drop i ps.value.items)) p v)
unfolding Leads next_work control_work act step_work operator_work chained
template_more ps i p v x e lt g r =
    ap (λ f. λ k. piece f x.after p v (on_value (λ w. chained (map eval_piece (drop (i + 1) ps.value.items)) p w k) k)) (ap eval r)
    ∙ ap (λ (f : Chained). λ k. f p v (on_value (λ w. chained (map eval_piece (drop (i + 1) ps.value.items)) p w k) k)) (sym (piece_is x))
    ∙ ap (λ xs. chained (map eval_piece xs) p v) (sym (dropped ps.value.items i x lt g))

pub ruleset piece_laws = (template_end, template_more, leads_error)

pub applied_law : (op : UnaryOp) (v : Value) → Leads (Ok (nexts.Just (controls.Ask (requests.Unary op v)))) (operator_work (operators.AppliedTo op) v)
unfolding Leads next_work control_work act step_work operator_work
applied_law op v = refl

pub negating_law : (v : Value) → Leads (Ok (nexts.Just (controls.Done (Normal (values.Bool (not (truth_of v))))))) (operator_work operators.Negating v)
unfolding Leads next_work control_work act step_work operator_work
negating_law v = refl

pub dropping_law : (v : Value) → Leads (Ok (nexts.Just (controls.Done (Normal values.Undefined)))) (operator_work operators.Dropping v)
unfolding Leads next_work control_work act step_work operator_work
dropping_law v = refl

pub applying_law : (op : BinaryOp) (left v : Value) → Leads (Ok (nexts.Just (controls.Ask (requests.Binary op left v)))) (operator_work (operators.Applying op left) v)
unfolding Leads next_work control_work act step_work operator_work
applying_law op left v = refl

pub chaining_law : (os : Rc (Vec Operand Global) Global) (i : ℕ) (p : ScopeId) (v : Value) → operator_work (operators.Chaining os i p) v ≡ chained (map eval_operand (drop i os.value.items)) p v
unfolding Leads next_work control_work act step_work operator_work
chaining_law os i p v = refl

pub deciding_law : (op : Logic) (es : Rc (Vec (Rc Form Global) Global) Global) (i : ℕ) (p : ScopeId) (v : Value) → operator_work (operators.DecidingOn op es i p) v ≡ decided op (forms (drop i es.value.items)) p v
unfolding Leads next_work control_work act step_work operator_work
deciding_law op es i p v = refl

pub templating_law : (ps : Rc (Vec Piece Global) Global) (i : ℕ) (p : ScopeId) (v : Value) → operator_work (operators.Templating ps i p) v ≡ chained (map eval_piece (drop i ps.value.items)) p v
unfolding Leads next_work control_work act step_work operator_work
templating_law ps i p v = refl

pub making_law : (after : Option Value) (text v : Value) → Leads (Ok (nexts.Under (items.Value (steps.Operator (operators.JoiningText after text))) (controls.Ask (requests.ToText v)))) (operator_work (operators.MakingText after text) v)
unfolding Leads next_work control_work act step_work operator_work
making_law after text v = refl

pub joining_text_law : (after : Option Value) (text v : Value) → Leads (Ok (nexts.Under (items.Value (steps.Operator (operators.Joining after))) (controls.Ask (requests.Binary binary.Add text v)))) (operator_work (operators.JoiningText after text) v)
unfolding Leads next_work control_work act step_work operator_work
joining_text_law None text v = refl
joining_text_law (Some a) text v = refl

pub joining_none_law : (v : Value) → Leads (Ok (nexts.Just (controls.Done (Normal v)))) (operator_work (operators.Joining None) v)
unfolding Leads next_work control_work act step_work operator_work
joining_none_law v = refl

pub joining_some_law : (after v : Value) → Leads (Ok (nexts.Just (controls.Ask (requests.Binary binary.Add v after)))) (operator_work (operators.Joining (Some after)) v)
unfolding Leads next_work control_work act step_work operator_work
joining_some_law after v = refl

pub ruleset operator_laws = (applied_law, negating_law, dropping_law, applying_law, chaining_law, deciding_law, templating_law, making_law, joining_text_law, joining_none_law, joining_some_law, leads_error)
