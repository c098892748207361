-- What the items of keys, members and suffixes do with a value.
use Rattle.std.proofs.Common.{◌≡◌, ℕ, ◌+◌, ◌<◌, ◌≤◌, Bool, true, false, [], length, map, get_or, Ok, refl, sym, ap, ◌∙◌}
use Rattle.std.specs.Prelude.{if◌then◌else◌}
use Rattle.std.specs.declared.rc.Rc.{Rc}
use Rattle.std.specs.declared.alloc.Global.{Global}
use Rattle.std.specs.declared.vec.Vec.{Vec}
use Rattle.actx_text.specs.declared.body_id.BodyId.{BodyId}
use Rattle.actx_value.specs.declared.ids.ScopeId.{ScopeId}
use Rattle.actx_value.specs.declared.value.Value.{Value}
use Rattle.actx_value.specs.declared.value.Value.TheVariants as values
use Rattle.actx_value.specs.declared.request.Request.TheVariants as requests
use Rattle.actx_value.specs.declared.operator.BinaryOp.{BinaryOp}
use Rattle.actx_code.specs.declared.item.Logic.{Logic}
use Rattle.actx_code.specs.declared.form.Form.{Form}
use Rattle.actx_want.specs.declared.completion.Completion.TheVariants.{Normal}
use Rattle.actx_frame_items.specs.declared.items.Step.TheVariants as steps
use Rattle.actx_frame_items.specs.declared.items.Item.TheVariants as items
use Rattle.actx_frame_items.specs.declared.items.Control.TheVariants as controls
use Rattle.actx_frame_items.specs.declared.items.Next.TheVariants as nexts
use Rattle.actx_frame_items.specs.Stack.{step_work, act, control_work, next_work, Leads}
use Rattle.std.proofs.lemmas.List.{drop_all}
use Rattle.actx_code.specs.declared.item.Argument.{Argument}
use Rattle.actx_code.specs.declared.member.Key.{Key, Plain, Computed}
use Rattle.actx_code.specs.declared.member.Change.{Change, Plainly, WithOperator, WithLogic}
use Rattle.actx_code.specs.declared.member.Suffix.{Suffix, Member, Call}
use Rattle.actx_want.specs.Run.{ask}
use Rattle.actx_want.specs.Names.{changed_plainly, changed_by_operator, changed_by_logic}
use Rattle.actx_want.specs.Lists.{Keyed, listed}
use Rattle.actx_want.specs.Members.{Suffixed, stops, computed, suffixed, got}
use Rattle.actx_want.specs.Calls.{calling}
use Rattle.actx_want.specs.Bodies.{eval, eval_key, eval_change, eval_suffix, eval_argument}
use Rattle.actx_frame_items.specs.declared.items.name.Spot.TheVariants as spots
use Rattle.actx_frame_items.specs.declared.items.member.Chain.{Chain}
use Rattle.actx_frame_items.specs.declared.items.member.ChainEnd.{ChainEnd}
use Rattle.actx_frame_items.specs.declared.items.member.ChainEnd.TheVariants as ends
use Rattle.actx_frame_items.specs.declared.items.member.KeyUse.{KeyUse}
use Rattle.actx_frame_items.specs.declared.items.member.KeyUse.TheVariants as uses
use Rattle.actx_frame_items.specs.declared.items.member.MemberStep.TheVariants as members
use Rattle.actx_frame_items.specs.declared.items.list.ListEnd.TheVariants as list_ends
use Rattle.actx_frame_items.specs.declared.items.list.EntryStep.TheVariants as entries
use Rattle.actx_frame_items.specs.Names.{access}
use Rattle.actx_frame_items.specs.Members.{chain_done, stop_value, chain_ended, following, used, keyed, member_work}
use Rattle.actx_frame_items.specs.Lists.{entry_work, listing, finished}
use Rattle.actx_frame_items.proofs.Leading.{leads_error, leads_by, dropped}
use Rattle.actx_frame_items.proofs.Parts.{change_plainly, change_operator, change_logic, key_plain, key_computed, suffix_member, suffix_call}

pub copy_computed : (e f : Rc Form Global) → f.value ≡ e.value → eval_key (Computed f) ≡ eval_key (Computed e)
copy_computed e f h = key_computed f ∙ ap (λ x. computed (eval x)) h ∙ sym (key_computed e)

pub copy_plainly : (e f : Rc Form Global) → f.value ≡ e.value → eval_change (Plainly f) ≡ eval_change (Plainly e)
copy_plainly e f h = change_plainly f ∙ ap (λ x. changed_plainly (eval x)) h ∙ sym (change_plainly e)

pub copy_operator : (op : BinaryOp) (e f : Rc Form Global) → f.value ≡ e.value → eval_change (WithOperator op f) ≡ eval_change (WithOperator op e)
copy_operator op e f h = change_operator op f ∙ ap (λ x. changed_by_operator op (eval x)) h ∙ sym (change_operator op e)

pub copy_logic : (op : Logic) (e f : Rc Form Global) → f.value ≡ e.value → eval_change (WithLogic op f) ≡ eval_change (WithLogic op e)
copy_logic op e f h = change_logic op f ∙ ap (λ x. changed_by_logic op (eval x)) h ∙ sym (change_logic op e)

pub ruleset copy_laws = (copy_computed, copy_plainly, copy_operator, copy_logic)

pub use_change : (o : Value) (c : Change) (p : ScopeId) (name : Value) → used (uses.Change o c p) name ≡ eval_change c (access (spots.Member o name)) p
unfolding used
use_change o c p name = refl

pub use_get : (c : Chain) (v name : Value) → Leads (Ok (nexts.Under (items.Value (steps.Member (members.Following c v))) (controls.Ask (requests.Get v name)))) (used (uses.Get c v) name)
unfolding Leads next_work control_work act step_work member_work used
use_get c v name = refl

pub use_delete : (v name : Value) → Leads (Ok (nexts.Just (controls.Ask (requests.Delete v name)))) (used (uses.Delete v) name)
unfolding Leads next_work control_work act step_work used
use_delete v name = refl

pub use_pair : (e : Rc Form Global) (p : ScopeId) (o name : Value) → Leads (Ok (nexts.Under (items.Value (steps.Entry (entries.Defining o name))) (controls.Eval e p))) (used (uses.Pair e p o) name)
unfolding Leads next_work control_work act step_work entry_work used
use_pair e p o name = refl

pub use_method : (body : BodyId) (p : ScopeId) (o name : Value) → Leads (Ok (nexts.Under (items.Value (steps.Entry (entries.Defining o name))) (controls.Ask (requests.Method body p o)))) (used (uses.Method body p o) name)
unfolding Leads next_work control_work act step_work entry_work used
use_method body p o name = refl

pub ruleset use_laws = (use_change, use_get, use_delete, use_pair, use_method)

pub plain_key : (v : Value) (p : ScopeId) (u : KeyUse) → keyed (Plain v) p u ≡ used u v
unfolding keyed
plain_key v p u = ap (λ (x : Keyed). λ k. x p (λ name. used u name k) k) (key_plain v)

pub computed_key : (e : Rc Form Global) (p : ScopeId) (u : KeyUse) → Leads (Ok (nexts.Under (items.Value (steps.Member (members.Keying u))) (controls.Eval e p))) (keyed (Computed e) p u)
unfolding Leads next_work control_work act step_work member_work keyed
computed_key e p u = ap (λ (x : Keyed). λ k. x p (λ name. used u name k) k) (sym (key_computed e))

pub ruleset key_laws = (plain_key, computed_key)

pub end_give : (p : ScopeId) (v : Value) → Leads (Ok (nexts.Just (controls.Done (Normal v)))) (chain_ended ends.Give p v)
unfolding Leads next_work control_work act step_work chain_ended chain_done
end_give p v = refl

pub end_stops : (optional : Bool) (key : Key) (p : ScopeId) (v : Value) → stops optional v ≡ true → Leads (Ok (nexts.Just (controls.Done (Normal (values.Bool true))))) (chain_ended (ends.Delete optional key) p v)
unfolding Leads next_work control_work act step_work chain_ended chain_done
end_stops optional key p v h = ap (λ b. λ k. if b then k (Normal (values.Bool true)) else eval_key key p (λ name. ask (requests.Delete v name) k) k) (sym h)

pub end_deletes : (optional : Bool) (key : Key) (p : ScopeId) (v : Value) → stops optional v ≡ false → chain_ended (ends.Delete optional key) p v ≡ keyed key p (uses.Delete v)
unfolding chain_ended chain_done keyed used
end_deletes optional key p v h = ap (λ b. λ k. if b then k (Normal (values.Bool true)) else eval_key key p (λ name. ask (requests.Delete v name) k) k) h

pub ruleset end_laws = (end_give, end_stops, end_deletes)

any_receiver : (e : ChainEnd) (p : ScopeId) (k : _) (r v : Value) → chain_done e p k r v ≡ chain_done e p k values.Undefined v
unfolding chain_done
any_receiver ends.Give p k r v = refl
any_receiver (ends.Delete optional key) p k r v = refl

pub chain_over : (c : Chain) (r v : Value) → length c.suffixes.value.items ≤ c.at → following c r v ≡ chain_ended c.end c.place v
unfolding following chain_ended suffixed
chain_over c r v le =
    ap (λ xs. λ k. suffixed (map eval_suffix xs) c.place (chain_done c.end c.place k) (k (Normal (stop_value c.end))) k r v) (drop_all c.at c.suffixes.value.items le)
    ∙ (λ i k. any_receiver c.end c.place k r v i)

-- a chain is its present suffix, and then the chain from the next one on
first_suffix : (c : Chain) (x : Suffix) (r v : Value) → c.at < length c.suffixes.value.items → x ≡ get_or c.suffixes.value.items c.at x → following c r v ≡ (λ k. eval_suffix x c.place (λ r' w. following (record c { at = c.at + 1 }) r' w k) (k (Normal (stop_value c.end))) k r v)
unfolding following suffixed
first_suffix c x r v lt g =
    ap (λ xs. λ k. suffixed (map eval_suffix xs) c.place (chain_done c.end c.place k) (k (Normal (stop_value c.end))) k r v) (dropped c.suffixes.value.items c.at x lt g)

member_at : (c d : Chain) (x : Suffix) (optional : Bool) (key : Key) (r v : Value) → c.at < length c.suffixes.value.items → x ≡ get_or c.suffixes.value.items c.at x → x ≡ Member optional key → d ≡ record c { at = c.at + 1 } → following c r v ≡ (λ k. if stops optional v then k (Normal (stop_value c.end)) else eval_key key c.place (λ name. used (uses.Get d v) name k) k)
unfolding used
member_at c d x optional key r v lt g o s =
    first_suffix c x r v lt g
    ∙ ap (λ y. λ k. eval_suffix y c.place (λ r' w. following (record c { at = c.at + 1 }) r' w k) (k (Normal (stop_value c.end))) k r v) o
    ∙ ap (λ (y : Suffixed). λ k. y c.place (λ r' w. following (record c { at = c.at + 1 }) r' w k) (k (Normal (stop_value c.end))) k r v) (suffix_member optional key)
    ∙ ap (λ (y : Chain). λ k. if stops optional v then k (Normal (stop_value c.end)) else eval_key key c.place (λ name. ask (requests.Get v name) (got (λ r' w. following y r' w k) v k)) k) (sym s)

pub chain_member_stops : (c : Chain) (x : Suffix) (optional : Bool) (key : Key) (r v : Value) → c.at < length c.suffixes.value.items → x ≡ get_or c.suffixes.value.items c.at x → x ≡ Member optional key → stops optional v ≡ true → Leads (Ok (nexts.Just (controls.Done (Normal (stop_value c.end))))) (following c r v)
unfolding Leads next_work control_work act step_work
chain_member_stops c x optional key r v lt g o h =
    sym (member_at c (record c { at = c.at + 1 }) x optional key r v lt g o refl
    ∙ ap (λ b. λ k. if b then k (Normal (stop_value c.end)) else eval_key key c.place (λ name. used (uses.Get (record c { at = c.at + 1 }) v) name k) k) h)

pub chain_member : (c d : Chain) (x : Suffix) (optional : Bool) (key kept : Key) (r v : Value) → c.at < length c.suffixes.value.items → x ≡ get_or c.suffixes.value.items c.at x → x ≡ Member optional key → stops optional v ≡ false → eval_key kept ≡ eval_key key → d ≡ record c { at = c.at + 1 } → following c r v ≡ keyed kept c.place (uses.Get d v)
unfolding keyed
chain_member c d x optional key kept r v lt g o h e s =
    member_at c d x optional key r v lt g o s
    ∙ ap (λ b. λ k. if b then k (Normal (stop_value c.end)) else eval_key key c.place (λ name. used (uses.Get d v) name k) k) h
    ∙ ap (λ (y : Keyed). λ k. y c.place (λ name. used (uses.Get d v) name k) k) (sym e)

call_at : (c d : Chain) (x : Suffix) (optional : Bool) (ms : Rc (Vec Argument Global) Global) (r v : Value) → c.at < length c.suffixes.value.items → x ≡ get_or c.suffixes.value.items c.at x → x ≡ Call optional ms → d ≡ record c { at = c.at + 1 } → following c r v ≡ (λ k. if stops optional v then k (Normal (stop_value c.end)) else listed (map eval_argument ms.value.items) c.place [] (calling (λ r' w. following d r' w k) r v k) k)
call_at c d x optional ms r v lt g o s =
    first_suffix c x r v lt g
    ∙ ap (λ y. λ k. eval_suffix y c.place (λ r' w. following (record c { at = c.at + 1 }) r' w k) (k (Normal (stop_value c.end))) k r v) o
    ∙ ap (λ (y : Suffixed). λ k. y c.place (λ r' w. following (record c { at = c.at + 1 }) r' w k) (k (Normal (stop_value c.end))) k r v) (suffix_call optional ms)
    ∙ ap (λ (y : Chain). λ k. if stops optional v then k (Normal (stop_value c.end)) else listed (map eval_argument ms.value.items) c.place [] (calling (λ r' w. following y r' w k) r v k) k) (sym s)

pub chain_call_stops : (c : Chain) (x : Suffix) (optional : Bool) (ms : Rc (Vec Argument Global) Global) (r v : Value) → c.at < length c.suffixes.value.items → x ≡ get_or c.suffixes.value.items c.at x → x ≡ Call optional ms → stops optional v ≡ true → Leads (Ok (nexts.Just (controls.Done (Normal (stop_value c.end))))) (following c r v)
unfolding Leads next_work control_work act step_work
chain_call_stops c x optional ms r v lt g o h =
    sym (call_at c (record c { at = c.at + 1 }) x optional ms r v lt g o refl
    ∙ ap (λ b. λ k. if b then k (Normal (stop_value c.end)) else listed (map eval_argument ms.value.items) c.place [] (calling (λ r' w. following (record c { at = c.at + 1 }) r' w k) r v k) k) h)

pub chain_call : (c d : Chain) (x : Suffix) (optional : Bool) (ms ns : Rc (Vec Argument Global) Global) (none : Vec Value Global) (r v : Value) → c.at < length c.suffixes.value.items → x ≡ get_or c.suffixes.value.items c.at x → x ≡ Call optional ms → stops optional v ≡ false → ns.value ≡ ms.value → d ≡ record c { at = c.at + 1 } → none.items ≡ [] → following c r v ≡ listing (record { done = none; members = ns; at = 0; place = c.place; end = list_ends.Call d r v })
unfolding listing finished
chain_call c d x optional ms ns none r v lt g o h e s n =
    call_at c d x optional ms r v lt g o s
    ∙ ap (λ b. λ k. if b then k (Normal (stop_value c.end)) else listed (map eval_argument ms.value.items) c.place [] (calling (λ r' w. following d r' w k) r v k) k) h
    ∙ ap (λ (y : Vec Argument Global). λ k. listed (map eval_argument y.items) c.place [] (calling (λ r' w. following d r' w k) r v k) k) (sym e)
    ∙ ap (λ y. λ k. listed (map eval_argument ns.value.items) c.place y (calling (λ r' w. following d r' w k) r v k) k) (sym n)

pub ruleset chain_laws = (leads_error, chain_over, chain_member_stops, chain_member, chain_call_stops, chain_call)

pub keying_law : (u : KeyUse) (v : Value) → Leads (Ok (nexts.Under (items.Value (steps.Member (members.Keyed u))) (controls.Ask (requests.ToKey v)))) (member_work (members.Keying u) v)
unfolding Leads next_work control_work act step_work member_work
keying_law u v = refl

pub keyed_law : (u : KeyUse) (v : Value) → member_work (members.Keyed u) v ≡ used u v
unfolding member_work
keyed_law u v = refl

pub object_law : (key : Key) (c : Change) (p : ScopeId) (v : Value) → member_work (members.AtObject key c p) v ≡ keyed key p (uses.Change v c p)
unfolding member_work keyed used
object_law key c p v = refl

pub following_law : (c : Chain) (r v : Value) → member_work (members.Following c r) v ≡ following c r v
unfolding member_work
following_law c r v = refl

pub super_this_law : (key home : Value) (c : Chain) (v : Value) → Leads (Ok (nexts.Under (items.Value (steps.Member (members.Following c v))) (controls.Ask (requests.SuperGet home key v)))) (member_work (members.SuperThis key home c) v)
unfolding Leads next_work control_work act step_work member_work
super_this_law key home c v = refl

pub super_home_law : (hops : ℕ) (key : Value) (c : Chain) (v : Value) → Leads (Ok (nexts.Under (items.Value (steps.Member (members.SuperThis key v c))) (controls.Ask (requests.Load c.place hops 0)))) (member_work (members.SuperHome hops key c) v)
unfolding Leads next_work control_work act step_work member_work
super_home_law hops key c v = refl

pub ruleset member_laws = (keying_law, keyed_law, object_law, following_law, super_this_law, super_home_law, leads_error)
