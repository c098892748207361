-- How forms begin.
use Rattle.std.proofs.Common.{◌≡◌, ℕ, zero, suc, ◌+◌, ◌<◌, ◌≤◌, Bool, true, false, not, List, [], ◌∷◌, ◌++◌, length, map, drop, get_or, Option, Some, None, Result, Ok, Err, refl, sym, ap, ◌∙◌, subst, arith}
use Rattle.std.specs.Prelude.{if◌then◌else◌, pos}
use Rattle.std.specs.declared.rc.Rc.{Rc}
use Rattle.std.specs.declared.alloc.Global.{Global}
use Rattle.std.specs.declared.alloc.AllocError.{AllocError}
use Rattle.std.specs.declared.vec.Vec.{Vec}
use Rattle.actx_text.specs.declared.body_id.BodyId.{BodyId}
use Rattle.actx_value.specs.declared.ids.ScopeId.{ScopeId}
use Rattle.actx_value.specs.declared.value.Value.{Value}
use Rattle.actx_value.specs.declared.value.Value.TheVariants as values
use Rattle.actx_value.specs.declared.request.Request.{Request}
use Rattle.actx_value.specs.declared.request.Request.TheVariants as requests
use Rattle.actx_value.specs.declared.operator.BinaryOp.{BinaryOp}
use Rattle.actx_value.specs.declared.operator.BinaryOp.TheVariants as binary
use Rattle.actx_value.specs.declared.operator.UnaryOp.{UnaryOp}
use Rattle.actx_value.specs.declared.operator.UnaryOp.TheVariants as unary
use Rattle.actx_value.specs.Truth.{truth_of}
use Rattle.actx_tree.specs.declared.operator.StepOp.{StepOp}
use Rattle.actx_code.specs.declared.item.Logic.{Logic}
use Rattle.actx_code.specs.declared.form.Form.{Form}
use Rattle.actx_want.specs.declared.completion.Completion.{Completion}
use Rattle.actx_want.specs.declared.completion.Completion.TheVariants.{Normal, Break, Continue, Return, Throw}
use Rattle.actx_frame_items.specs.declared.items.Step.{Step}
use Rattle.actx_frame_items.specs.declared.items.Step.TheVariants as steps
use Rattle.actx_frame_items.specs.declared.items.Item.{Item}
use Rattle.actx_frame_items.specs.declared.items.Item.TheVariants as items
use Rattle.actx_frame_items.specs.declared.items.Control.{Control}
use Rattle.actx_frame_items.specs.declared.items.Control.TheVariants as controls
use Rattle.actx_frame_items.specs.declared.items.Next.{Next}
use Rattle.actx_frame_items.specs.declared.items.Next.TheVariants as nexts
use Rattle.actx_frame_items.specs.Work.{Work, forms}
use Rattle.actx_frame_items.specs.Stack.{step_work, act, control_work, next_work, Leads}
use Rattle.actx_code.specs.declared.form.Form.{Literal, Name, ChangeName, ChangeMember, Delete, Unary, Not, Void, Operators, Logical, If, Sequence, Template, Suffixes, SuperMember, New, SuperCall, Array, Object, Function, Class, Init, Bind, Block, While, DoWhile, For, ForLet, ForOf, Break as BreakForm, Continue as ContinueForm, Return as ReturnForm, Throw as ThrowForm, Try, Yield, Await, Parameter, RestParameter, Begin}
use Rattle.actx_code.specs.declared.item.Argument.{Argument}
use Rattle.actx_code.specs.declared.item.Caught.{Caught}
use Rattle.actx_code.specs.declared.item.ClassMember.{ClassMember}
use Rattle.actx_code.specs.declared.item.Declared.{Declared}
use Rattle.actx_code.specs.declared.item.Entry.{Entry}
use Rattle.actx_code.specs.declared.item.Operand.{Operand}
use Rattle.actx_code.specs.declared.item.Piece.{Piece}
use Rattle.actx_code.specs.declared.member.Change.{Change}
use Rattle.actx_code.specs.declared.member.Key.{Key}
use Rattle.actx_code.specs.declared.member.Suffix.{Suffix}
use Rattle.actx_code.specs.declared.pattern.Element.{Element}
use Rattle.actx_code.specs.declared.pattern.Pattern.{Pattern}
use Rattle.actx_want.specs.Run.{Next', Meaning, ask, on_value, before, loop}
use Rattle.actx_want.specs.Names.{Changing, name, change_name}
use Rattle.actx_want.specs.Operators.{Chained, unary as unary_form, negation, nothing_of, operators as operators_form, logical, template}
use Rattle.actx_want.specs.Lists.{Keyed, array, object}
use Rattle.actx_want.specs.Members.{change_member, suffixes, delete, super_member}
use Rattle.actx_want.specs.Calls.{new, super_call}
use Rattle.actx_want.specs.Functions.{Binding, function, parameter, rest_parameter, begin, yielded, awaited}
use Rattle.actx_want.specs.Patterns.{bind}
use Rattle.actx_want.specs.Classes.{class}
use Rattle.actx_want.specs.Statements.{sequence, if_else, init, block, returned, thrown}
use Rattle.actx_want.specs.Loops.{while_loop, do_loop, for_loop, let_loop, of_loop}
use Rattle.actx_want.specs.Tries.{try}
use Rattle.actx_want.specs.Bodies.{values_of, eval, eval_argument, eval_caught, eval_entry, eval_change, eval_key, eval_suffix, eval_pattern, eval_operand, eval_piece, eval_element, eval_property}
use Rattle.actx_want.specs.Members.{at_object, suffixing, deleting_from, super_home}
use Rattle.actx_want.specs.Functions.{binding}
use Rattle.actx_want.specs.Classes.{class_made, extending}
use Rattle.actx_want.specs.Loops.{let_entered, while_turn, do_turn}
use Rattle.actx_want.specs.Tries.{catching, finishing, caught, finally_of}
use Rattle.actx_frame_items.specs.declared.items.name.Spot.TheVariants as spots
use Rattle.actx_frame_items.specs.declared.items.operator.OperatorStep.TheVariants as operators
use Rattle.actx_frame_items.specs.declared.items.member.Chain.{Chain}
use Rattle.actx_frame_items.specs.declared.items.member.ChainEnd.{ChainEnd}
use Rattle.actx_frame_items.specs.declared.items.member.ChainEnd.TheVariants as chain_ends
use Rattle.actx_frame_items.specs.declared.items.member.MemberStep.TheVariants as members
use Rattle.actx_frame_items.specs.declared.items.list.ListStep.TheVariants as lists
use Rattle.actx_frame_items.specs.declared.items.list.ListEnd.TheVariants as list_ends
use Rattle.actx_frame_items.specs.declared.items.list.EntryStep.TheVariants as entries
use Rattle.actx_frame_items.specs.declared.items.pattern.PatternStep.TheVariants as patterns
use Rattle.actx_frame_items.specs.declared.items.statement.StatementStep.TheVariants as statements
use Rattle.actx_frame_items.specs.declared.items.statement.ClassStep.TheVariants as classes
use Rattle.actx_frame_items.specs.declared.items.walk.WhileLoop.{WhileLoop}
use Rattle.actx_frame_items.specs.declared.items.walk.ForLoop.{ForLoop}
use Rattle.actx_frame_items.specs.declared.items.walk.OfLoop.{OfLoop}
use Rattle.actx_frame_items.specs.declared.items.walk.LoopStep.TheVariants as loops
use Rattle.actx_frame_items.specs.declared.items.walk.OfStep.TheVariants as ofs
use Rattle.actx_frame_items.specs.declared.items.ending.Ending.TheVariants as endings
use Rattle.actx_frame_items.specs.Work.{form_in}
use Rattle.actx_frame_items.specs.Names.{access}
use Rattle.actx_frame_items.specs.Operators.{operator_work}
use Rattle.actx_frame_items.specs.Members.{chain_done, stop_value, following, member_work}
use Rattle.actx_frame_items.specs.Lists.{whole_list, finished, list_work, entry_work}
use Rattle.actx_frame_items.specs.Patterns.{pattern_work}
use Rattle.actx_frame_items.specs.Statements.{statement_work, class_work}
use Rattle.actx_frame_items.specs.Loops.{while_again, do_again, for_again, loop_work, of_work}
use Rattle.actx_frame_items.specs.Endings.{ending_work}
use Rattle.actx_frame.specs.Begins.{IsChain, IsWhile, IsFor, clause_in}
use Rattle.actx_frame_items.proofs.Leading.{leads_error, leads_by}
use Rattle.actx_frame_steps.proofs.LoopLaws.{while_turns_law, do_turns_law}
use Rattle.actx_want.specs.Operators.{chained}
use Rattle.actx_want.specs.Statements.{sequenced}
use Rattle.actx_want.specs.Loops.{for_turn}
use Rattle.actx_frame.proofs.Forms.{form_array, form_await, form_begin, form_bind, form_break, form_change_name, form_continue, form_do, form_for, form_function, form_init, form_let, form_literal, form_logical, form_name, form_new, form_not, form_object, form_operators, form_parameter, form_rest_parameter, form_return, form_sequence, form_super_call, form_template, form_throw, form_unary, form_void, form_while, form_yield}

pub enter_literal : (v : Value) (p : ScopeId) → Leads (Ok (nexts.Just (controls.Done (Normal v)))) (eval (Literal v) p)
unfolding Leads next_work control_work act step_work
enter_literal v p = ap (λ (f : Meaning). f p) (sym (form_literal v))

pub enter_name : (hops i : ℕ) (p : ScopeId) → Leads (Ok (nexts.Just (controls.Ask (requests.Load p hops i)))) (eval (Name hops i) p)
unfolding Leads next_work control_work act step_work
enter_name hops i p = ap (λ (f : Meaning). f p) (sym (form_name hops i))

pub enter_change_name : (hops i : ℕ) (c c1 : Change) (p : ScopeId) → eval_change c1 ≡ eval_change c → eval (ChangeName hops i c) p ≡ eval_change c1 (access (spots.Name p hops i)) p
enter_change_name hops i c c1 p h = ap (λ (f : Meaning). f p) (form_change_name hops i c) ∙ ap (λ (z : Changing). z (access (spots.Name p hops i)) p) (sym h)

pub enter_unary : (op : UnaryOp) (e e1 : Rc Form Global) (p : ScopeId) → e1.value ≡ e.value → Leads (Ok (nexts.Under (items.Value (steps.Operator (operators.AppliedTo op))) (controls.Eval e1 p))) (eval (Unary op e) p)
unfolding Leads next_work control_work act step_work operator_work
enter_unary op e e1 p he =
    ap (λ (z : Form). unary_form op (eval z) p) he
    ∙ ap (λ (f : Meaning). f p) (sym (form_unary op e))

pub enter_not : (e e1 : Rc Form Global) (p : ScopeId) → e1.value ≡ e.value → Leads (Ok (nexts.Under (items.Value (steps.Operator (operators.Negating))) (controls.Eval e1 p))) (eval (Not e) p)
unfolding Leads next_work control_work act step_work operator_work
enter_not e e1 p he =
    ap (λ (z : Form). negation (eval z) p) he
    ∙ ap (λ (f : Meaning). f p) (sym (form_not e))

pub enter_void : (e e1 : Rc Form Global) (p : ScopeId) → e1.value ≡ e.value → Leads (Ok (nexts.Under (items.Value (steps.Operator (operators.Dropping))) (controls.Eval e1 p))) (eval (Void e) p)
unfolding Leads next_work control_work act step_work operator_work
enter_void e e1 p he =
    ap (λ (z : Form). nothing_of (eval z) p) he
    ∙ ap (λ (f : Meaning). f p) (sym (form_void e))

pub enter_operators : (e e1 : Rc Form Global) (os os1 : Rc (Vec Operand Global) Global) (p : ScopeId) → e1.value ≡ e.value → os1.value ≡ os.value → Leads (Ok (nexts.Under (items.Value (steps.Operator (operators.Chaining os1 0 p))) (controls.Eval e1 p))) (eval (Operators e os) p)
unfolding Leads next_work control_work act step_work operator_work
enter_operators e e1 os os1 p he hos =
    ap (λ (z : Form). operators_form (eval z) (map eval_operand os1.value.items) p) he
    ∙ ap (λ (z : Vec Operand Global). operators_form (eval e.value) (map eval_operand z.items) p) hos
    ∙ ap (λ (f : Meaning). f p) (sym (form_operators e os))

pub enter_logical : (op : Logic) (e e1 : Rc Form Global) (es es1 : Rc (Vec (Rc Form Global) Global) Global) (p : ScopeId) → e1.value ≡ e.value → es1.value ≡ es.value → Leads (Ok (nexts.Under (items.Value (steps.Operator (operators.DecidingOn op es1 0 p))) (controls.Eval e1 p))) (eval (Logical op e es) p)
unfolding Leads next_work control_work act step_work operator_work
enter_logical op e e1 es es1 p he hes =
    ap (λ (z : Form). logical op (eval z) (forms es1.value.items) p) he
    ∙ ap (λ (z : Vec (Rc Form Global) Global). logical op (eval e.value) (forms z.items) p) hes
    ∙ ap (λ (f : Meaning). f p) (sym (form_logical op e es))

pub enter_sequence : (es fs : Rc (Vec (Rc Form Global) Global) Global) (p : ScopeId) → fs.value ≡ es.value → eval (Sequence es) p ≡ sequenced (forms (drop 0 fs.value.items)) values.Undefined p
enter_sequence es fs p h = ap (λ (f : Meaning). f p) (form_sequence es) ∙ ap (λ (z : Vec (Rc Form Global) Global). sequenced (forms z.items) values.Undefined p) (sym h)

pub enter_template : (v : Value) (ps qs : Rc (Vec Piece Global) Global) (p : ScopeId) → qs.value ≡ ps.value → eval (Template v ps) p ≡ chained (map eval_piece (drop 0 qs.value.items)) p v
enter_template v ps qs p h = ap (λ (f : Meaning). f p) (form_template v ps) ∙ ap (λ (z : Vec Piece Global). chained (map eval_piece z.items) p v) (sym h)

pub enter_array : (ms ns : Rc (Vec Argument Global) Global) (p : ScopeId) → ns.value ≡ ms.value → eval (Array ms) p ≡ whole_list ns.value.items p list_ends.Array
unfolding whole_list finished
enter_array ms ns p h = ap (λ (f : Meaning). f p) (form_array ms) ∙ ap (λ (z : Vec Argument Global). array (map eval_argument z.items) p) (sym h)

pub enter_new : (f f1 : Rc Form Global) (ms ms1 : Rc (Vec Argument Global) Global) (p : ScopeId) → f1.value ≡ f.value → ms1.value ≡ ms.value → Leads (Ok (nexts.Under (items.Value (steps.List (lists.Making ms1 p))) (controls.Eval f1 p))) (eval (New f ms) p)
unfolding Leads next_work control_work act step_work list_work
enter_new f f1 ms ms1 p hf hms =
    ap (λ (z : Form). new (eval z) (map eval_argument ms1.value.items) p) hf
    ∙ ap (λ (z : Vec Argument Global). new (eval f.value) (map eval_argument z.items) p) hms
    ∙ ap (λ (f : Meaning). f p) (sym (form_new f ms))

pub enter_super_call : (hops : ℕ) (ms ms1 : Rc (Vec Argument Global) Global) (p : ScopeId) → ms1.value ≡ ms.value → Leads (Ok (nexts.Under (items.Value (steps.List (lists.SuperCalling hops ms1 p))) (controls.Ask (requests.Load p hops 1)))) (eval (SuperCall hops ms) p)
unfolding Leads next_work control_work act step_work list_work
enter_super_call hops ms ms1 p hms =
    ap (λ (z : Vec Argument Global). super_call hops (map eval_argument z.items) p) hms
    ∙ ap (λ (f : Meaning). f p) (sym (form_super_call hops ms))

pub enter_object : (es es1 : Rc (Vec Entry Global) Global) (p : ScopeId) → es1.value ≡ es.value → Leads (Ok (nexts.Under (items.Value (steps.Entry (entries.Filling es1 p))) (controls.Ask requests.Object))) (eval (Object es) p)
unfolding Leads next_work control_work act step_work entry_work
enter_object es es1 p hes =
    ap (λ (z : Vec Entry Global). object (map eval_entry z.items) p) hes
    ∙ ap (λ (f : Meaning). f p) (sym (form_object es))

pub enter_function : (body : BodyId) (p : ScopeId) → Leads (Ok (nexts.Just (controls.Ask (requests.Function body p)))) (eval (Function body) p)
unfolding Leads next_work control_work act step_work
enter_function body p = ap (λ (f : Meaning). f p) (sym (form_function body))

pub enter_init : (i : ℕ) (e e1 : Rc Form Global) (p : ScopeId) → e1.value ≡ e.value → Leads (Ok (nexts.Under (items.Value (steps.Statement (statements.Initialising i p))) (controls.Eval e1 p))) (eval (Init i e) p)
unfolding Leads next_work control_work act step_work statement_work
enter_init i e e1 p he =
    ap (λ (z : Form). init i (eval z) p) he
    ∙ ap (λ (f : Meaning). f p) (sym (form_init i e))

pub enter_bind : (x x1 : Rc Pattern Global) (e e1 : Rc Form Global) (p : ScopeId) → x1.value ≡ x.value → e1.value ≡ e.value → Leads (Ok (nexts.Under (items.Value (steps.Pattern (patterns.Binding x1 p))) (controls.Eval e1 p))) (eval (Bind x e) p)
unfolding Leads next_work control_work act step_work pattern_work
enter_bind x x1 e e1 p hx he =
    ap (λ (z : Pattern). bind (eval_pattern z) (eval e1.value) p) hx
    ∙ ap (λ (z : Form). bind (eval_pattern x.value) (eval z) p) he
    ∙ ap (λ (f : Meaning). f p) (sym (form_bind x e))

pub enter_while : (t b : Rc Form Global) (l : WhileLoop) (p : ScopeId) → IsWhile l t b p → Leads (Ok (nexts.Under (items.Value (steps.Loop (loops.WhileTurn l))) (controls.Ask requests.Tick))) (eval (While t b) p)
unfolding Leads next_work control_work act step_work
enter_while t b l p h =
    while_turns_law l
    ∙ ap (λ z. while_loop (eval z) (eval l.body.value) l.place) h.test
    ∙ ap (λ z. while_loop (eval t.value) (eval z) l.place) h.body
    ∙ ap (λ q. while_loop (eval t.value) (eval b.value) q) h.place
    ∙ ap (λ (f : Meaning). f p) (sym (form_while t b))

pub enter_do : (t b : Rc Form Global) (l : WhileLoop) (p : ScopeId) → IsWhile l t b p → Leads (Ok (nexts.Under (items.Value (steps.Loop (loops.DoTurn l))) (controls.Ask requests.Tick))) (eval (DoWhile b t) p)
unfolding Leads next_work control_work act step_work
enter_do t b l p h =
    do_turns_law l
    ∙ ap (λ z. do_loop (eval l.body.value) (eval z) l.place) h.test
    ∙ ap (λ z. do_loop (eval z) (eval t.value) l.place) h.body
    ∙ ap (λ q. do_loop (eval b.value) (eval t.value) q) h.place
    ∙ ap (λ (f : Meaning). f p) (sym (form_do b t))

pub enter_for : (e e1 t u b : Rc Form Global) (l : ForLoop) (p : ScopeId) → e1.value ≡ e.value → IsFor l t u b p → Leads (Ok (nexts.Under (items.Value (steps.Loop (loops.ForDue l))) (controls.Eval e1 p))) (eval (For e t u b) p)
unfolding Leads next_work control_work act step_work loop_work
enter_for e e1 t u b l p he h =
    ap (λ q. (λ k. eval e1.value p (before (loop (for_turn (eval l.test.value) (eval l.update.value) (eval l.body.value) q k) tt) k))) h.place
    ∙ ap (λ z. (λ k. eval z p (before (loop (for_turn (eval l.test.value) (eval l.update.value) (eval l.body.value) p k) tt) k))) he
    ∙ ap (λ z. (λ k. eval e.value p (before (loop (for_turn (eval z) (eval l.update.value) (eval l.body.value) p k) tt) k))) h.test
    ∙ ap (λ z. (λ k. eval e.value p (before (loop (for_turn (eval t.value) (eval z) (eval l.body.value) p k) tt) k))) h.update
    ∙ ap (λ z. (λ k. eval e.value p (before (loop (for_turn (eval t.value) (eval u.value) (eval z) p k) tt) k))) h.body
    ∙ ap (λ (f : Meaning). f p) (sym (form_for e t u b))

pub enter_let : (cells : ℕ) (e e1 t u b : Rc Form Global) (l : ForLoop) (p : ScopeId) → e1.value ≡ e.value → IsFor l t u b p → Leads (Ok (nexts.Under (items.Value (steps.Loop (loops.LetEntered e1 l))) (controls.Ask (requests.Scope p cells)))) (eval (ForLet cells e t u b) p)
unfolding Leads next_work control_work act step_work loop_work
enter_let cells e e1 t u b l p he h =
    ap (λ q. (λ k. ask (requests.Scope p cells) (let_entered (eval e1.value) (eval l.test.value) (eval l.update.value) (eval l.body.value) q k))) h.place
    ∙ ap (λ z. (λ k. ask (requests.Scope p cells) (let_entered (eval z) (eval l.test.value) (eval l.update.value) (eval l.body.value) p k))) he
    ∙ ap (λ z. (λ k. ask (requests.Scope p cells) (let_entered (eval e.value) (eval z) (eval l.update.value) (eval l.body.value) p k))) h.test
    ∙ ap (λ z. (λ k. ask (requests.Scope p cells) (let_entered (eval e.value) (eval t.value) (eval z) (eval l.body.value) p k))) h.update
    ∙ ap (λ z. (λ k. ask (requests.Scope p cells) (let_entered (eval e.value) (eval t.value) (eval u.value) (eval z) p k))) h.body
    ∙ ap (λ (f : Meaning). f p) (sym (form_let cells e t u b))

pub enter_break : (n : ℕ) (p : ScopeId) → Leads (Ok (nexts.Just (controls.Done (Break n)))) (eval (BreakForm n) p)
unfolding Leads next_work control_work act step_work
enter_break n p = ap (λ (f : Meaning). f p) (sym (form_break n))

pub enter_continue : (n : ℕ) (p : ScopeId) → Leads (Ok (nexts.Just (controls.Done (Continue n)))) (eval (ContinueForm n) p)
unfolding Leads next_work control_work act step_work
enter_continue n p = ap (λ (f : Meaning). f p) (sym (form_continue n))

pub enter_return : (e e1 : Rc Form Global) (p : ScopeId) → e1.value ≡ e.value → Leads (Ok (nexts.Under (items.Value (steps.Statement (statements.Returning))) (controls.Eval e1 p))) (eval (ReturnForm e) p)
unfolding Leads next_work control_work act step_work statement_work
enter_return e e1 p he =
    ap (λ (z : Form). returned (eval z) p) he
    ∙ ap (λ (f : Meaning). f p) (sym (form_return e))

pub enter_throw : (e e1 : Rc Form Global) (p : ScopeId) → e1.value ≡ e.value → Leads (Ok (nexts.Under (items.Value (steps.Statement (statements.Throwing))) (controls.Eval e1 p))) (eval (ThrowForm e) p)
unfolding Leads next_work control_work act step_work statement_work
enter_throw e e1 p he =
    ap (λ (z : Form). thrown (eval z) p) he
    ∙ ap (λ (f : Meaning). f p) (sym (form_throw e))

pub enter_yield : (e e1 : Rc Form Global) (p : ScopeId) → e1.value ≡ e.value → Leads (Ok (nexts.Under (items.Value (steps.Statement (statements.Yielding))) (controls.Eval e1 p))) (eval (Yield e) p)
unfolding Leads next_work control_work act step_work statement_work
enter_yield e e1 p he =
    ap (λ (z : Form). yielded (eval z) p) he
    ∙ ap (λ (f : Meaning). f p) (sym (form_yield e))

pub enter_await : (e e1 : Rc Form Global) (p : ScopeId) → e1.value ≡ e.value → Leads (Ok (nexts.Under (items.Value (steps.Statement (statements.Awaiting))) (controls.Eval e1 p))) (eval (Await e) p)
unfolding Leads next_work control_work act step_work statement_work
enter_await e e1 p he =
    ap (λ (z : Form). awaited (eval z) p) he
    ∙ ap (λ (f : Meaning). f p) (sym (form_await e))

pub enter_parameter : (i : ℕ) (x x1 : Rc Element Global) (p : ScopeId) → x1.value ≡ x.value → Leads (Ok (nexts.Under (items.Value (steps.Pattern (patterns.BindingElement x1 p))) (controls.Ask (requests.Arg i)))) (eval (Parameter i x) p)
unfolding Leads next_work control_work act step_work pattern_work
enter_parameter i x x1 p hx =
    ap (λ (z : Element). parameter i (eval_element z) p) hx
    ∙ ap (λ (f : Meaning). f p) (sym (form_parameter i x))

pub enter_rest_parameter : (i : ℕ) (x x1 : Rc Pattern Global) (p : ScopeId) → x1.value ≡ x.value → Leads (Ok (nexts.Under (items.Value (steps.Pattern (patterns.Binding x1 p))) (controls.Ask (requests.ArgsFrom i)))) (eval (RestParameter i x) p)
unfolding Leads next_work control_work act step_work pattern_work
enter_rest_parameter i x x1 p hx =
    ap (λ (z : Pattern). rest_parameter i (eval_pattern z) p) hx
    ∙ ap (λ (f : Meaning). f p) (sym (form_rest_parameter i x))

pub enter_begin : (p : ScopeId) → Leads (Ok (nexts.Just (controls.Ask requests.Begin))) (eval (Begin) p)
unfolding Leads next_work control_work act step_work
enter_begin p = ap (λ (f : Meaning). f p) (sym (form_begin))

pub ruleset operation_laws = (enter_literal, enter_name, enter_change_name, enter_unary, enter_not, enter_void, enter_operators, enter_logical, enter_template, leads_error)

pub ruleset value_laws = (enter_new, enter_super_call, enter_array, enter_object, enter_function, enter_init, enter_bind, enter_yield, enter_await, enter_parameter, enter_rest_parameter, enter_begin, leads_error)

pub ruleset statement_laws = (enter_sequence, enter_while, enter_do, enter_for, enter_let, enter_break, enter_continue, enter_return, enter_throw, leads_error)
