-- What the items of objects do with a value.
use Rattle.std.proofs.Common.{◌≡◌, ℕ, ◌+◌, ◌<◌, ◌≤◌, length, map, drop, get_or, Ok, refl, sym, ap, ◌∙◌}
use Rattle.std.specs.declared.rc.Rc.{Rc}
use Rattle.std.specs.declared.alloc.Global.{Global}
use Rattle.std.specs.declared.vec.Vec.{Vec}
use Rattle.actx_text.specs.declared.body_id.BodyId.{BodyId}
use Rattle.actx_value.specs.declared.ids.ScopeId.{ScopeId}
use Rattle.actx_value.specs.declared.value.Value.{Value}
use Rattle.actx_value.specs.declared.request.Request.TheVariants as requests
use Rattle.actx_code.specs.declared.form.Form.{Form}
use Rattle.actx_want.specs.declared.completion.Completion.TheVariants.{Normal}
use Rattle.actx_frame_items.specs.declared.items.Step.TheVariants as steps
use Rattle.actx_frame_items.specs.declared.items.Item.TheVariants as items
use Rattle.actx_frame_items.specs.declared.items.Control.TheVariants as controls
use Rattle.actx_frame_items.specs.declared.items.Next.TheVariants as nexts
use Rattle.actx_frame_items.specs.Stack.{step_work, act, control_work, next_work, Leads}
use Rattle.std.proofs.lemmas.List.{drop_all}
use Rattle.actx_code.specs.declared.item.Entry.{Entry, Pair, Method, Copied}
use Rattle.actx_code.specs.declared.member.Key.{Key}
use Rattle.actx_want.specs.Run.{ask, before}
use Rattle.actx_want.specs.Lists.{Filling, Keyed, filled, defining, copying}
use Rattle.actx_want.specs.Bodies.{eval, eval_entry, eval_key}
use Rattle.actx_frame_items.specs.declared.items.member.KeyUse.TheVariants as uses
use Rattle.actx_frame_items.specs.declared.items.list.EntryStep.TheVariants as entries
use Rattle.actx_frame_items.specs.Members.{used, keyed}
use Rattle.actx_frame_items.specs.Lists.{entry_work}
use Rattle.actx_frame_items.proofs.Leading.{leads_error, leads_by, dropped}
use Rattle.actx_frame_items.proofs.Parts.{entry_pair, entry_method, entry_copied}

pub entries_end : (es : Rc (Vec Entry Global) Global) (i : ℕ) (p : ScopeId) (o : Value) → length es.value.items ≤ i → Leads (Ok (nexts.Just (controls.Done (Normal o)))) (filled (map eval_entry (drop i es.value.items)) p o)
unfolding Leads next_work control_work act step_work filled
entries_end es i p o le = ap (λ xs. filled (map eval_entry xs) p o) (sym (drop_all i es.value.items le))

entry_at : (es : Rc (Vec Entry Global) Global) (i : ℕ) (p : ScopeId) (o : Value) (x : Entry) → i < length es.value.items → x ≡ get_or es.value.items i x → filled (map eval_entry (drop i es.value.items)) p o ≡ (λ k. eval_entry x p o (before (filled (map eval_entry (drop (i + 1) es.value.items)) p o k) k))
unfolding filled
entry_at es i p o x lt g = ap (λ xs. filled (map eval_entry xs) p o) (dropped es.value.items i x lt g)

pub entry_pairs : (es : Rc (Vec Entry Global) Global) (i : ℕ) (p : ScopeId) (o : Value) (x : Entry) (key kept : Key) (e f : Rc Form Global) → i < length es.value.items → x ≡ get_or es.value.items i x → x ≡ Pair key e → eval_key kept ≡ eval_key key → f.value ≡ e.value → Leads (Ok (nexts.Under (items.Value (steps.Entry (entries.Filled es (i + 1) p o))) (controls.UseKey kept p (uses.Pair f p o)))) (filled (map eval_entry (drop i es.value.items)) p o)
unfolding Leads next_work control_work act step_work entry_work keyed used
entry_pairs es i p o x key kept e f lt g q h r =
    sym (entry_at es i p o x lt g
    ∙ ap (λ y. λ k. eval_entry y p o (before (filled (map eval_entry (drop (i + 1) es.value.items)) p o k) k)) q
    ∙ ap (λ (y : Filling). λ k. y p o (before (filled (map eval_entry (drop (i + 1) es.value.items)) p o k) k)) (entry_pair key e)
    ∙ ap (λ (y : Keyed). λ k. y p (λ name. eval e.value p (defining o name (before (filled (map eval_entry (drop (i + 1) es.value.items)) p o k) k))) (before (filled (map eval_entry (drop (i + 1) es.value.items)) p o k) k)) (sym h)
    ∙ ap (λ y. λ k. eval_key kept p (λ name. eval y p (defining o name (before (filled (map eval_entry (drop (i + 1) es.value.items)) p o k) k))) (before (filled (map eval_entry (drop (i + 1) es.value.items)) p o k) k)) (sym r))

pub entry_methods : (es : Rc (Vec Entry Global) Global) (i : ℕ) (p : ScopeId) (o : Value) (x : Entry) (key kept : Key) (body : BodyId) → i < length es.value.items → x ≡ get_or es.value.items i x → x ≡ Method key body → eval_key kept ≡ eval_key key → Leads (Ok (nexts.Under (items.Value (steps.Entry (entries.Filled es (i + 1) p o))) (controls.UseKey kept p (uses.Method body p o)))) (filled (map eval_entry (drop i es.value.items)) p o)
unfolding Leads next_work control_work act step_work entry_work keyed used
entry_methods es i p o x key kept body lt g q h =
    sym (entry_at es i p o x lt g
    ∙ ap (λ y. λ k. eval_entry y p o (before (filled (map eval_entry (drop (i + 1) es.value.items)) p o k) k)) q
    ∙ ap (λ (y : Filling). λ k. y p o (before (filled (map eval_entry (drop (i + 1) es.value.items)) p o k) k)) (entry_method key body)
    ∙ ap (λ (y : Keyed). λ k. y p (λ name. ask (requests.Method body p o) (defining o name (before (filled (map eval_entry (drop (i + 1) es.value.items)) p o k) k))) (before (filled (map eval_entry (drop (i + 1) es.value.items)) p o k) k)) (sym h))

pub entry_copies : (es : Rc (Vec Entry Global) Global) (i : ℕ) (p : ScopeId) (o : Value) (x : Entry) (e f : Rc Form Global) → i < length es.value.items → x ≡ get_or es.value.items i x → x ≡ Copied e → f.value ≡ e.value → Leads (Ok (nexts.UnderTwo (items.Value (steps.Entry (entries.Filled es (i + 1) p o))) (items.Value (steps.Entry (entries.Copying o))) (controls.Eval f p))) (filled (map eval_entry (drop i es.value.items)) p o)
unfolding Leads next_work control_work act step_work entry_work
entry_copies es i p o x e f lt g q r =
    sym (entry_at es i p o x lt g
    ∙ ap (λ y. λ k. eval_entry y p o (before (filled (map eval_entry (drop (i + 1) es.value.items)) p o k) k)) q
    ∙ ap (λ (y : Filling). λ k. y p o (before (filled (map eval_entry (drop (i + 1) es.value.items)) p o k) k)) (entry_copied e)
    ∙ ap (λ y. λ k. eval y p (copying o (before (filled (map eval_entry (drop (i + 1) es.value.items)) p o k) k))) (sym r))

pub ruleset entry_laws = (entries_end, entry_pairs, entry_methods, entry_copies, leads_error)

pub filling_law : (es : Rc (Vec Entry Global) Global) (p : ScopeId) (v : Value) → entry_work (entries.Filling es p) v ≡ filled (map eval_entry (drop 0 es.value.items)) p v
unfolding entry_work
filling_law es p v = refl

pub filled_law : (es : Rc (Vec Entry Global) Global) (i : ℕ) (p : ScopeId) (o : Value) (v : Value) → entry_work (entries.Filled es i p o) v ≡ filled (map eval_entry (drop i es.value.items)) p o
unfolding entry_work
filled_law es i p o v = refl

pub defining_law : (o key v : Value) → Leads (Ok (nexts.Just (controls.Ask (requests.Define o key v)))) (entry_work (entries.Defining o key) v)
unfolding Leads next_work control_work act step_work entry_work
defining_law o key v = refl

pub copying_law : (o v : Value) → Leads (Ok (nexts.Just (controls.Ask (requests.Copy o v)))) (entry_work (entries.Copying o) v)
unfolding Leads next_work control_work act step_work entry_work
copying_law o v = refl

pub ruleset step_laws = (filling_law, filled_law, defining_law, copying_law, leads_error)
