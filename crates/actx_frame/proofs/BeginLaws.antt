-- How the forms of several parts begin.
use Rattle.std.proofs.Common.{◌≡◌, ℕ, zero, suc, ◌+◌, ◌<◌, ◌≤◌, Bool, true, false, not, List, [], ◌∷◌, ◌++◌, length, map, drop, get_or, Option, Some, None, Result, Ok, Err, refl, sym, ap, ◌∙◌, subst, arith}
use Rattle.std.specs.Prelude.{if◌then◌else◌, pos}
use Rattle.std.specs.declared.rc.Rc.{Rc}
use Rattle.std.specs.declared.alloc.Global.{Global}
use Rattle.std.specs.declared.alloc.AllocError.{AllocError}
use Rattle.std.specs.declared.vec.Vec.{Vec}
use Rattle.actx_text.specs.declared.body_id.BodyId.{BodyId}
use Rattle.actx_value.specs.declared.ids.ScopeId.{ScopeId}
use Rattle.actx_value.specs.declared.value.Value.{Value}
use Rattle.actx_value.specs.declared.value.Value.TheVariants as values
use Rattle.actx_value.specs.declared.request.Request.{Request}
use Rattle.actx_value.specs.declared.request.Request.TheVariants as requests
use Rattle.actx_value.specs.declared.operator.BinaryOp.{BinaryOp}
use Rattle.actx_value.specs.declared.operator.BinaryOp.TheVariants as binary
use Rattle.actx_value.specs.declared.operator.UnaryOp.{UnaryOp}
use Rattle.actx_value.specs.declared.operator.UnaryOp.TheVariants as unary
use Rattle.actx_value.specs.Truth.{truth_of}
use Rattle.actx_tree.specs.declared.operator.StepOp.{StepOp}
use Rattle.actx_code.specs.declared.item.Logic.{Logic}
use Rattle.actx_code.specs.declared.form.Form.{Form}
use Rattle.actx_want.specs.declared.completion.Completion.{Completion}
use Rattle.actx_want.specs.declared.completion.Completion.TheVariants.{Normal, Break, Continue, Return, Throw}
use Rattle.actx_frame_items.specs.declared.items.Step.{Step}
use Rattle.actx_frame_items.specs.declared.items.Step.TheVariants as steps
use Rattle.actx_frame_items.specs.declared.items.Item.{Item}
use Rattle.actx_frame_items.specs.declared.items.Item.TheVariants as items
use Rattle.actx_frame_items.specs.declared.items.Control.{Control}
use Rattle.actx_frame_items.specs.declared.items.Control.TheVariants as controls
use Rattle.actx_frame_items.specs.declared.items.Next.{Next}
use Rattle.actx_frame_items.specs.declared.items.Next.TheVariants as nexts
use Rattle.actx_frame_items.specs.Work.{Work, forms}
use Rattle.actx_frame_items.specs.Stack.{step_work, act, control_work, next_work, Leads}
use Rattle.actx_code.specs.declared.form.Form.{Literal, Name, ChangeName, ChangeMember, Delete, Unary, Not, Void, Operators, Logical, If, Sequence, Template, Suffixes, SuperMember, New, SuperCall, Array, Object, Function, Class, Init, Bind, Block, While, DoWhile, For, ForLet, ForOf, Break as BreakForm, Continue as ContinueForm, Return as ReturnForm, Throw as ThrowForm, Try, Yield, Await, Parameter, RestParameter, Begin}
use Rattle.actx_code.specs.declared.item.Argument.{Argument}
use Rattle.actx_code.specs.declared.item.Caught.{Caught}
use Rattle.actx_code.specs.declared.item.ClassMember.{ClassMember}
use Rattle.actx_code.specs.declared.item.Declared.{Declared}
use Rattle.actx_code.specs.declared.item.Entry.{Entry}
use Rattle.actx_code.specs.declared.item.Operand.{Operand}
use Rattle.actx_code.specs.declared.item.Piece.{Piece}
use Rattle.actx_code.specs.declared.member.Change.{Change}
use Rattle.actx_code.specs.declared.member.Key.{Key}
use Rattle.actx_code.specs.declared.member.Suffix.{Suffix}
use Rattle.actx_code.specs.declared.pattern.Element.{Element}
use Rattle.actx_code.specs.declared.pattern.Pattern.{Pattern}
use Rattle.actx_want.specs.Run.{Next', Meaning, ask, on_value, before, loop}
use Rattle.actx_want.specs.Names.{Changing, name, change_name}
use Rattle.actx_want.specs.Operators.{Chained, unary as unary_form, negation, nothing_of, operators as operators_form, logical, template}
use Rattle.actx_want.specs.Lists.{Keyed, array, object}
use Rattle.actx_want.specs.Members.{change_member, suffixes, delete, super_member}
use Rattle.actx_want.specs.Calls.{new, super_call}
use Rattle.actx_want.specs.Functions.{Binding, function, parameter, rest_parameter, begin, yielded, awaited}
use Rattle.actx_want.specs.Patterns.{bind}
use Rattle.actx_want.specs.Classes.{class}
use Rattle.actx_want.specs.Statements.{sequence, if_else, init, block, returned, thrown}
use Rattle.actx_want.specs.Loops.{while_loop, do_loop, for_loop, let_loop, of_loop}
use Rattle.actx_want.specs.Tries.{try}
use Rattle.actx_want.specs.Bodies.{values_of, eval, eval_argument, eval_caught, eval_entry, eval_change, eval_key, eval_suffix, eval_pattern, eval_operand, eval_piece, eval_element, eval_property}
use Rattle.actx_want.specs.Members.{at_object, suffixing, deleting_from, super_home}
use Rattle.actx_want.specs.Functions.{binding}
use Rattle.actx_want.specs.Classes.{class_made, extending}
use Rattle.actx_want.specs.Loops.{let_entered, while_turn, do_turn}
use Rattle.actx_want.specs.Tries.{catching, finishing, caught, finally_of}
use Rattle.actx_frame_items.specs.declared.items.name.Spot.TheVariants as spots
use Rattle.actx_frame_items.specs.declared.items.operator.OperatorStep.TheVariants as operators
use Rattle.actx_frame_items.specs.declared.items.member.Chain.{Chain}
use Rattle.actx_frame_items.specs.declared.items.member.ChainEnd.{ChainEnd}
use Rattle.actx_frame_items.specs.declared.items.member.ChainEnd.TheVariants as chain_ends
use Rattle.actx_frame_items.specs.declared.items.member.MemberStep.TheVariants as members
use Rattle.actx_frame_items.specs.declared.items.list.ListStep.TheVariants as lists
use Rattle.actx_frame_items.specs.declared.items.list.ListEnd.TheVariants as list_ends
use Rattle.actx_frame_items.specs.declared.items.list.EntryStep.TheVariants as entries
use Rattle.actx_frame_items.specs.declared.items.pattern.PatternStep.TheVariants as patterns
use Rattle.actx_frame_items.specs.declared.items.statement.StatementStep.TheVariants as statements
use Rattle.actx_frame_items.specs.declared.items.statement.ClassStep.TheVariants as classes
use Rattle.actx_frame_items.specs.declared.items.walk.WhileLoop.{WhileLoop}
use Rattle.actx_frame_items.specs.declared.items.walk.ForLoop.{ForLoop}
use Rattle.actx_frame_items.specs.declared.items.walk.OfLoop.{OfLoop}
use Rattle.actx_frame_items.specs.declared.items.walk.LoopStep.TheVariants as loops
use Rattle.actx_frame_items.specs.declared.items.walk.OfStep.TheVariants as ofs
use Rattle.actx_frame_items.specs.declared.items.ending.Ending.TheVariants as endings
use Rattle.actx_frame_items.specs.Work.{form_in}
use Rattle.actx_frame_items.specs.Names.{access}
use Rattle.actx_frame_items.specs.Operators.{operator_work}
use Rattle.actx_frame_items.specs.Members.{chain_done, stop_value, following, member_work}
use Rattle.actx_frame_items.specs.Lists.{whole_list, finished, list_work, entry_work}
use Rattle.actx_frame_items.specs.Patterns.{pattern_work}
use Rattle.actx_frame_items.specs.Statements.{statement_work, class_work}
use Rattle.actx_frame_items.specs.Loops.{while_again, do_again, for_again, loop_work, of_work}
use Rattle.actx_frame_items.specs.Endings.{ending_work}
use Rattle.actx_frame.specs.Begins.{IsChain, IsWhile, IsFor, clause_in}
use Rattle.actx_frame_items.proofs.Leading.{leads_error, leads_by}
use Rattle.actx_frame_steps.proofs.LoopLaws.{while_turns_law, do_turns_law}
use Rattle.actx_want.specs.Run.{Run}
use Rattle.actx_want.specs.Members.{suffixed}
use Rattle.actx_frame.proofs.Forms.{form_block, form_change_member, form_class, form_delete, form_if, form_of, form_suffixes, form_super_member, form_try}

pub begin_change : (o o1 : Rc Form Global) (key key1 : Key) (c c1 : Change) (p : ScopeId) → o1.value ≡ o.value → eval_key key1 ≡ eval_key key → eval_change c1 ≡ eval_change c → Leads (Ok (nexts.Under (items.Value (steps.Member (members.AtObject key1 c1 p))) (controls.Eval o1 p))) (eval (ChangeMember o key c) p)
unfolding Leads next_work control_work act step_work member_work
begin_change o o1 key key1 c c1 p ho hk hc =
    ap (λ z. change_member (eval z) (eval_key key1) (eval_change c1) p) ho
    ∙ ap (λ (z : Keyed). change_member (eval o.value) z (eval_change c1) p) hk
    ∙ ap (λ (z : Changing). change_member (eval o.value) (eval_key key) z p) hc
    ∙ ap (λ (f : Meaning). f p) (sym (form_change_member o key c))

pub ruleset change_laws = (begin_change, leads_error)

chain_values : (c : Chain) (ss : Rc (Vec Suffix Global) Global) → c.suffixes.value ≡ ss.value → map eval_suffix (drop 0 c.suffixes.value.items) ≡ map eval_suffix ss.value.items
chain_values c ss h = ap (λ (x : Vec Suffix Global). map eval_suffix x.items) h

-- a chain from its first suffix on
chain_from : (ss : Rc (Vec Suffix Global) Global) (p : ScopeId) (e : ChainEnd) (r v : Value) → Next' → Run
chain_from ss p e r v k = suffixed (map eval_suffix ss.value.items) p (chain_done e p k) (k (Normal (stop_value e))) k r v

chain_is : (c : Chain) (ss : Rc (Vec Suffix Global) Global) (p : ScopeId) (e : ChainEnd) → IsChain c ss p e → (r v : Value) → following c r v ≡ chain_from ss p e r v
unfolding following chain_from
chain_is c ss p e h r v =
    ap (λ i. λ k. suffixed (map eval_suffix (drop i c.suffixes.value.items)) c.place (chain_done c.end c.place k) (k (Normal (stop_value c.end))) k r v) h.at
    ∙ ap (λ xs. λ k. suffixed xs c.place (chain_done c.end c.place k) (k (Normal (stop_value c.end))) k r v) (chain_values c ss h.suffixes)
    ∙ ap (λ q. λ k. suffixed (map eval_suffix ss.value.items) q (chain_done c.end q k) (k (Normal (stop_value c.end))) k r v) h.place
    ∙ ap (λ x. λ k. suffixed (map eval_suffix ss.value.items) p (chain_done x p k) (k (Normal (stop_value x))) k r v) h.end

pub begin_delete : (b b1 : Rc Form Global) (ss : Rc (Vec Suffix Global) Global) (c : Chain) (optional : Bool) (key key1 : Key) (p : ScopeId) → b1.value ≡ b.value → eval_key key1 ≡ eval_key key → IsChain c ss p (chain_ends.Delete optional key1) → Leads (Ok (nexts.Under (items.Value (steps.Member (members.Following c values.Undefined))) (controls.Eval b1 p))) (eval (Delete b ss optional key) p)
unfolding Leads next_work control_work act step_work member_work following chain_done chain_from suffixed
begin_delete b b1 ss c optional key key1 p hb hk hc =
    (λ i k. eval b1.value p (on_value (λ v. chain_is c ss p (chain_ends.Delete optional key1) hc values.Undefined v i k) k))
    ∙ ap (λ z. λ k. eval z p (deleting_from (map eval_suffix ss.value.items) optional (eval_key key1) p k)) hb
    ∙ ap (λ (z : Keyed). λ k. eval b.value p (deleting_from (map eval_suffix ss.value.items) optional z p k)) hk
    ∙ ap (λ (f : Meaning). f p) (sym (form_delete b ss optional key))

pub ruleset delete_laws = (begin_delete, leads_error)

pub begin_if : (t t1 : Rc Form Global) (a a1 : Rc Form Global) (b b1 : Rc Form Global) (p : ScopeId) → t1.value ≡ t.value → a1.value ≡ a.value → b1.value ≡ b.value → Leads (Ok (nexts.Under (items.Value (steps.Statement (statements.Choosing a1 b1 p))) (controls.Eval t1 p))) (eval (If t a b) p)
unfolding Leads next_work control_work act step_work statement_work
begin_if t t1 a a1 b b1 p ht ha hb =
    ap (λ (z : Form). if_else (eval z) (eval a1.value) (eval b1.value) p) ht
    ∙ ap (λ (z : Form). if_else (eval t.value) (eval z) (eval b1.value) p) ha
    ∙ ap (λ (z : Form). if_else (eval t.value) (eval a.value) (eval z) p) hb
    ∙ ap (λ (f : Meaning). f p) (sym (form_if t a b))

pub ruleset if_laws = (begin_if, leads_error)

pub begin_suffixes : (b b1 : Rc Form Global) (ss : Rc (Vec Suffix Global) Global) (c : Chain) (p : ScopeId) → b1.value ≡ b.value → IsChain c ss p chain_ends.Give → Leads (Ok (nexts.Under (items.Value (steps.Member (members.Following c values.Undefined))) (controls.Eval b1 p))) (eval (Suffixes b ss) p)
unfolding Leads next_work control_work act step_work member_work chain_from chain_done
begin_suffixes b b1 ss c p hb hc =
    (λ i k. eval b1.value p (on_value (λ v. chain_is c ss p chain_ends.Give hc values.Undefined v i k) k))
    ∙ ap (λ z. λ k. eval z p (suffixing (map eval_suffix ss.value.items) p k)) hb
    ∙ ap (λ (f : Meaning). f p) (sym (form_suffixes b ss))

pub ruleset suffix_laws = (begin_suffixes, leads_error)

pub begin_super : (hops : ℕ) (key : Value) (ss : Rc (Vec Suffix Global) Global) (c : Chain) (p : ScopeId) → IsChain c ss p chain_ends.Give → Leads (Ok (nexts.Under (items.Value (steps.Member (members.SuperHome hops key c))) (controls.Ask (requests.Load p hops 2)))) (eval (SuperMember hops key ss) p)
unfolding Leads next_work control_work act step_work member_work chain_from chain_done
begin_super hops key ss c p hc =
    ap (λ q. λ k. ask (requests.Load p hops 2) (on_value (λ home. ask (requests.Load q hops 0) (on_value (λ this. ask (requests.SuperGet home key this) (on_value (λ w. following c this w k) k)) k)) k)) hc.place
    ∙ (λ i k. ask (requests.Load p hops 2) (on_value (λ home. ask (requests.Load p hops 0) (on_value (λ this. ask (requests.SuperGet home key this) (on_value (λ w. chain_is c ss p chain_ends.Give hc this w i k) k)) k)) k))
    ∙ ap (λ (f : Meaning). f p) (sym (form_super_member hops key ss))

pub ruleset super_laws = (begin_super, leads_error)

pub begin_class : (body : BodyId) (key : Value) (ms ns : Rc (Vec ClassMember Global) Global) (p : ScopeId) → ns.value ≡ ms.value → Leads (Ok (nexts.Under (items.Value (steps.Class (classes.Made key ns p))) (controls.Ask (requests.Class body p None)))) (eval (Class body None key ms) p)
unfolding Leads next_work control_work act step_work class_work
begin_class body key ms ns p h =
    ap (λ (z : Vec ClassMember Global). λ k. ask (requests.Class body p None) (class_made key z.items p k)) h
    ∙ ap (λ (f : Meaning). f p) (sym (form_class body None key ms))

pub begin_subclass : (body : BodyId) (e e1 : Rc Form Global) (key : Value) (ms ns : Rc (Vec ClassMember Global) Global) (p : ScopeId) → ns.value ≡ ms.value → e1.value ≡ e.value → Leads (Ok (nexts.Under (items.Value (steps.Class (classes.Extending body key ns p))) (controls.Eval e1 p))) (eval (Class body (Some e) key ms) p)
unfolding Leads next_work control_work act step_work class_work
begin_subclass body e e1 key ms ns p h he =
    ap (λ (z : Vec ClassMember Global). λ k. eval e1.value p (extending body key z.items p k)) h
    ∙ ap (λ z. λ k. eval z p (extending body key ms.value.items p k)) he
    ∙ ap (λ (f : Meaning). f p) (sym (form_class body (Some e) key ms))

pub ruleset class_laws = (begin_class, begin_subclass, leads_error)

pub begin_block : (cells : ℕ) (fs fs1 : Rc (Vec Declared Global) Global) (e e1 : Rc Form Global) (p : ScopeId) → fs1.value ≡ fs.value → e1.value ≡ e.value → Leads (Ok (nexts.Under (items.Value (steps.Statement (statements.Entered fs1 e1 p))) (controls.Ask (requests.Scope p cells)))) (eval (Block cells fs e) p)
unfolding Leads next_work control_work act step_work statement_work
begin_block cells fs fs1 e e1 p hfs he =
    ap (λ (z : Vec Declared Global). block cells z.items (eval e1.value) p) hfs
    ∙ ap (λ (z : Form). block cells fs.value.items (eval z) p) he
    ∙ ap (λ (f : Meaning). f p) (sym (form_block cells fs e))

pub ruleset block_laws = (begin_block, leads_error)

pub begin_of : (cells : ℕ) (x x1 : Rc Pattern Global) (e e1 : Rc Form Global) (b b1 : Rc Form Global) (p : ScopeId) → x1.value ≡ x.value → e1.value ≡ e.value → b1.value ≡ b.value → Leads (Ok (nexts.Under (items.Value (steps.Of (ofs.Opening (record { cells = cells; target = x1; body = b1; place = p })))) (controls.Eval e1 p))) (eval (ForOf cells x e b) p)
unfolding Leads next_work control_work act step_work of_work
begin_of cells x x1 e e1 b b1 p hx he hb =
    ap (λ (z : Pattern). of_loop cells (eval_pattern z) (eval e1.value) (eval b1.value) p) hx
    ∙ ap (λ (z : Form). of_loop cells (eval_pattern x.value) (eval z) (eval b1.value) p) he
    ∙ ap (λ (z : Form). of_loop cells (eval_pattern x.value) (eval e.value) (eval z) p) hb
    ∙ ap (λ (f : Meaning). f p) (sym (form_of cells x e b))

pub ruleset of_laws = (begin_of, leads_error)

pub try_alone : (b b1 : Rc Form Global) (p : ScopeId) → b1.value ≡ b.value → Leads (Ok (nexts.Just (controls.Eval b1 p))) (eval (Try b None None) p)
unfolding Leads next_work control_work act step_work
try_alone b b1 p hb =
    ap (λ z. eval z p) hb
    ∙ ap (λ (f : Meaning). f p) (sym (form_try b None None))

pub try_finally : (b b1 f f1 : Rc Form Global) (p : ScopeId) → b1.value ≡ b.value → f1.value ≡ f.value → Leads (Ok (nexts.Under (items.Ending (endings.Finishing f1 p)) (controls.Eval b1 p))) (eval (Try b None (Some f)) p)
unfolding Leads next_work control_work act step_work ending_work
try_finally b b1 f f1 p hb hf =
    ap (λ z. λ k. eval z p (finishing (eval f1.value) p k)) hb
    ∙ ap (λ z. λ k. eval b.value p (finishing (eval z) p k)) hf
    ∙ ap (λ (f : Meaning). f p) (sym (form_try b None (Some f)))

pub try_catch : (b b1 : Rc Form Global) (c c1 : Rc Caught Global) (p : ScopeId) → b1.value ≡ b.value → c1.value ≡ c.value → Leads (Ok (nexts.Under (items.Ending (endings.Catching c1 p)) (controls.Eval b1 p))) (eval (Try b (Some c) None) p)
unfolding Leads next_work control_work act step_work ending_work
try_catch b b1 c c1 p hb hc =
    ap (λ z. λ k. eval z p (catching (eval_caught c1.value) p k)) hb
    ∙ ap (λ z. λ k. eval b.value p (catching (eval_caught z) p k)) hc
    ∙ ap (λ (f : Meaning). f p) (sym (form_try b (Some c) None))

pub try_both : (b b1 f f1 : Rc Form Global) (c c1 : Rc Caught Global) (p : ScopeId) → b1.value ≡ b.value → f1.value ≡ f.value → c1.value ≡ c.value → Leads (Ok (nexts.UnderTwo (items.Ending (endings.Finishing f1 p)) (items.Ending (endings.Catching c1 p)) (controls.Eval b1 p))) (eval (Try b (Some c) (Some f)) p)
unfolding Leads next_work control_work act step_work ending_work
try_both b b1 f f1 c c1 p hb hf hc =
    ap (λ z. λ k. eval z p (catching (eval_caught c1.value) p (finishing (eval f1.value) p k))) hb
    ∙ ap (λ z. λ k. eval b.value p (catching (eval_caught c1.value) p (finishing (eval z) p k))) hf
    ∙ ap (λ z. λ k. eval b.value p (catching (eval_caught z) p (finishing (eval f.value) p k))) hc
    ∙ ap (λ (f : Meaning). f p) (sym (form_try b (Some c) (Some f)))

pub ruleset try_laws = (try_alone, try_finally, try_catch, try_both, leads_error)
