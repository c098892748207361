-- What the items of statements and scopes do with a value.
use Rattle.std.proofs.Common.{◌≡◌, ℕ, ◌+◌, ◌<◌, ◌≤◌, true, false, length, drop, get_or, Ok, refl, sym, ap, ◌∙◌}
use Rattle.std.specs.Prelude.{if◌then◌else◌}
use Rattle.std.specs.declared.rc.Rc.{Rc}
use Rattle.std.specs.declared.alloc.Global.{Global}
use Rattle.std.specs.declared.vec.Vec.{Vec}
use Rattle.actx_value.specs.declared.ids.ScopeId.{ScopeId}
use Rattle.actx_value.specs.declared.value.Value.{Value}
use Rattle.actx_value.specs.declared.request.Request.TheVariants as requests
use Rattle.actx_value.specs.Truth.{truth_of}
use Rattle.actx_code.specs.declared.form.Form.{Form}
use Rattle.actx_want.specs.declared.completion.Completion.{Completion}
use Rattle.actx_want.specs.declared.completion.Completion.TheVariants.{Normal, Return, Throw}
use Rattle.actx_frame_items.specs.declared.items.Step.TheVariants as steps
use Rattle.actx_frame_items.specs.declared.items.Item.TheVariants as items
use Rattle.actx_frame_items.specs.declared.items.Control.TheVariants as controls
use Rattle.actx_frame_items.specs.declared.items.Next.TheVariants as nexts
use Rattle.actx_frame_items.specs.Work.{forms}
use Rattle.actx_frame_items.specs.Stack.{step_work, act, control_work, next_work, Leads}
use Rattle.std.proofs.lemmas.List.{drop_all}
use Rattle.actx_code.specs.declared.item.Declared.{Declared}
use Rattle.actx_code.specs.declared.pattern.Pattern.{Pattern}
use Rattle.actx_want.specs.Run.{ask, on_value, before, within}
use Rattle.actx_want.specs.Statements.{sequenced, declared_of}
use Rattle.actx_want.specs.Bodies.{eval, eval_pattern}
use Rattle.actx_frame_items.specs.declared.items.name.NameStep.TheVariants as names
use Rattle.actx_frame_items.specs.declared.items.statement.Declarations.{Declarations}
use Rattle.actx_frame_items.specs.declared.items.statement.StatementStep.TheVariants as statements
use Rattle.actx_frame_items.specs.Names.{name_work}
use Rattle.actx_frame_items.specs.Statements.{declarations_left, statement_work}
use Rattle.actx_frame_items.proofs.Leading.{leads_error, leads_by, dropped}

pub sequence_end : (es : Rc (Vec (Rc Form Global) Global) Global) (i : ℕ) (p : ScopeId) (v : Value) → length es.value.items ≤ i → Leads (Ok (nexts.Just (controls.Done (Normal v)))) (sequenced (forms (drop i es.value.items)) v p)
unfolding Leads next_work control_work act step_work sequenced
sequence_end es i p v le = ap (λ xs. sequenced (forms xs) v p) (sym (drop_all i es.value.items le))

pub sequence_more : (es : Rc (Vec (Rc Form Global) Global) Global) (i : ℕ) (p : ScopeId) (v : Value) (x e : Rc Form Global) → i < length es.value.items → x ≡ get_or es.value.items i x → e.value ≡ x.value → Leads (Ok (nexts.Under (items.Value (steps.Statement (statements.Sequenced es (i + 1) p))) (controls.Eval e p))) (sequenced (forms (drop i es.value.items)) v p)
unfolding Leads next_work control_work act step_work statement_work sequenced
sequence_more es i p v x e lt g r =
    ap (λ y. λ k. eval y p (on_value (λ w. sequenced (forms (drop (i + 1) es.value.items)) w p k) k)) r
    ∙ ap (λ xs. sequenced (forms xs) v p) (sym (dropped es.value.items i x lt g))

pub ruleset sequence_laws = (sequence_end, sequence_more, leads_error)

pub declarations_end : (d : Declarations) → length d.functions.value.items ≤ d.at → Leads (Ok (nexts.Just (controls.Eval d.body d.place))) (declarations_left d)
unfolding Leads next_work control_work act step_work declarations_left declared_of
declarations_end d le = ap (λ xs. λ k. declared_of xs d.place (eval d.body.value d.place k) k) (sym (drop_all d.at d.functions.value.items le))

pub declarations_more : (d e : Declarations) (x : Declared) → d.at < length d.functions.value.items → x ≡ get_or d.functions.value.items d.at x → e ≡ record d { at = d.at + 1 } → Leads (Ok (nexts.Under (items.Value (steps.Statement (statements.Declaring x.slot e))) (controls.Ask (requests.Function x.body d.place)))) (declarations_left d)
unfolding Leads next_work control_work act step_work statement_work declarations_left declared_of
declarations_more d e x lt g s =
    ap (λ (y : Declarations). λ k. ask (requests.Function x.body d.place) (act (items.Value (steps.Statement (statements.Declaring x.slot y))) k)) s
    ∙ ap (λ xs. λ k. declared_of xs d.place (eval d.body.value d.place k) k) (sym (dropped d.functions.value.items d.at x lt g))

pub ruleset declaration_laws = (declarations_end, declarations_more, leads_error)

pub sequenced_law : (es : Rc (Vec (Rc Form Global) Global) Global) (i : ℕ) (p : ScopeId) (v : Value) → statement_work (statements.Sequenced es i p) v ≡ sequenced (forms (drop i es.value.items)) v p
unfolding statement_work
sequenced_law es i p v = refl

pub choosing_yes : (a b : Rc Form Global) (p : ScopeId) (v : Value) → truth_of v ≡ true → Leads (Ok (nexts.Just (controls.Eval a p))) (statement_work (statements.Choosing a b p) v)
unfolding Leads next_work control_work act step_work statement_work
choosing_yes a b p v h = ap (λ t. λ k. if t then eval a.value p k else eval b.value p k) (sym h)

pub choosing_no : (a b : Rc Form Global) (p : ScopeId) (v : Value) → truth_of v ≡ false → Leads (Ok (nexts.Just (controls.Eval b p))) (statement_work (statements.Choosing a b p) v)
unfolding Leads next_work control_work act step_work statement_work
choosing_no a b p v h = ap (λ t. λ k. if t then eval a.value p k else eval b.value p k) (sym h)

pub initialising_law : (slot : ℕ) (p : ScopeId) (v : Value) → Leads (Ok (nexts.Under (items.Value (steps.Name (names.Keeping v))) (controls.Ask (requests.Init p 0 slot v)))) (statement_work (statements.Initialising slot p) v)
unfolding Leads next_work control_work act step_work statement_work name_work
initialising_law slot p v = refl

pub entered_law : (fs : Rc (Vec Declared Global) Global) (b : Rc Form Global) (p q : ScopeId) (v : Value) → q ≡ within p v → statement_work (statements.Entered fs b p) v ≡ declarations_left (record { functions = fs; at = 0; body = b; place = q })
unfolding statement_work declarations_left
entered_law fs b p q v h = ap (λ s. λ k. declared_of fs.value.items s (eval b.value s k) k) (sym h)

pub declaring_law : (slot : ℕ) (d : Declarations) (v : Value) → Leads (Ok (nexts.Under (items.Value (steps.Statement (statements.DeclaredOne d))) (controls.Ask (requests.Init d.place 0 slot v)))) (statement_work (statements.Declaring slot d) v)
unfolding Leads next_work control_work act step_work statement_work
declaring_law slot d v = refl

pub declared_law : (d : Declarations) (v : Value) → statement_work (statements.DeclaredOne d) v ≡ declarations_left d
unfolding statement_work
declared_law d v = refl

pub returning_law : (v : Value) → Leads (Ok (nexts.Just (controls.Done (Return v)))) (statement_work statements.Returning v)
unfolding Leads next_work control_work act step_work statement_work
returning_law v = refl

pub throwing_law : (v : Value) → Leads (Ok (nexts.Just (controls.Done (Throw v)))) (statement_work statements.Throwing v)
unfolding Leads next_work control_work act step_work statement_work
throwing_law v = refl

pub yielding_law : (v : Value) → Leads (Ok (nexts.Just (controls.Ask (requests.Yield v)))) (statement_work statements.Yielding v)
unfolding Leads next_work control_work act step_work statement_work
yielding_law v = refl

pub awaiting_law : (v : Value) → Leads (Ok (nexts.Just (controls.Ask (requests.Await v)))) (statement_work statements.Awaiting v)
unfolding Leads next_work control_work act step_work statement_work
awaiting_law v = refl

pub settling_law : (c : Completion) (v : Value) → Leads (Ok (nexts.Just (controls.Done c))) (statement_work (statements.Settling c) v)
unfolding Leads next_work control_work act step_work statement_work
settling_law c v = refl

pub catch_law : (x : Rc Pattern Global) (b : Rc Form Global) (w : Value) (p q : ScopeId) (v : Value) → q ≡ within p v → Leads (Ok (nexts.Under (items.Value (steps.Statement (statements.CatchBlock b q))) (controls.Bind x q w))) (statement_work (statements.CatchEntered x b w p) v)
unfolding Leads next_work control_work act step_work statement_work
catch_law x b w p q v h = ap (λ s. λ k. eval_pattern x.value s w (before (eval b.value s k) k)) h

pub catch_block_law : (b : Rc Form Global) (p : ScopeId) (v : Value) → Leads (Ok (nexts.Just (controls.Eval b p))) (statement_work (statements.CatchBlock b p) v)
unfolding Leads next_work control_work act step_work statement_work
catch_block_law b p v = refl

pub ruleset step_laws = (sequenced_law, choosing_yes, choosing_no, initialising_law, entered_law, declaring_law, declared_law, returning_law, throwing_law, yielding_law, awaiting_law, settling_law, catch_law, catch_block_law, leads_error)
