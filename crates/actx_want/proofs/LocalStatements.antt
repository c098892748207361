-- Statements, loops and `try` are local.
use Rattle.std.proofs.Common.{ℕ, zero, suc, List, [], ◌∷◌, Option, Some, None, arith}
use Rattle.actx_value.specs.declared.value.Value.{Value}
use Rattle.actx_value.specs.declared.value.Value.TheVariants as values
use Rattle.actx_value.specs.declared.request.Request.TheVariants as requests
use Rattle.actx_value.specs.Truth.{truth_of}
use Rattle.actx_code.specs.declared.item.Declared.{Declared}
use Rattle.actx_want.specs.declared.completion.Completion.TheVariants.{Normal, Break, Continue, Return, Throw}
use Rattle.actx_want.specs.Run.{Run, Next', Place, Meaning, is_mark, within}
use Rattle.actx_want.specs.Functions.{Binding}
use Rattle.actx_want.specs.Statements.{sequenced, sequence, if_else, init, declared_of, block, returned, thrown}
use Rattle.actx_want.specs.Loops.{body_ended, tested, while_turn, while_loop, do_turn, do_loop, for_turn, for_loop, let_turn, let_loop, item_ended, of_turn, of_loop}
use Rattle.actx_want.specs.Tries.{unbound, bound, catching, caught, finally_of, try}
use Rattle.actx_want.specs.Locality.{Same, Agree, IsLocal, IsLocalAt}
use Rattle.actx_want.proofs.Local.{asks_same, value_agree, keeping_agree, before_agree, if_same, agree_below, Alls, IsLocalTurn, loop_same}
use Rattle.actx_want.proofs.LocalPatterns.{closing_same, or_close_agree, IsLocalIn}

-- ---- statements

sequenced_local : (es : List Meaning) → Alls IsLocal es → (v : Value) → IsLocal (sequenced es v)
unfolding sequenced
sequenced_local [] all v n p k l h = h (Normal v)
sequenced_local (e ∷ es) all v n p k l h = all.0 n p _ _ (value_agree (λ w. sequenced_local es all.1 w n p k l h) h)

pub sequence_local : (es : List Meaning) → Alls IsLocal es → IsLocal (sequence es)
sequence_local es all n p k l h = sequenced_local es all values.Undefined n p k l h

pub if_local : (t a b : Meaning) → IsLocal t → IsLocal a → IsLocal b → IsLocal (if_else t a b)
if_local t a b lt la lb n p k l h = lt n p _ _ (value_agree (λ v. if_same (truth_of v) (la n p k l h) (lb n p k l h)) h)

pub init_local : (i : ℕ) (e : Meaning) → IsLocal e → IsLocal (init i e)
init_local i e le n p k l h = le n p _ _ (value_agree (λ v. asks_same (requests.Init p 0 i v) [] n (keeping_agree v n h)) h)

declared_same : (fs : List Declared) (n : ℕ) (p : Place) {r s : Run} {k l : Next'} → Same n r s → Agree n k l → Same n (declared_of fs p r k) (declared_of fs p s l)
unfolding declared_of
declared_same [] n p rs h = rs
declared_same (f ∷ fs) n p rs h =
    asks_same (requests.Function f.body p) [] n
    (value_agree (λ v. asks_same (requests.Init p 0 f.slot v) [] n (before_agree n (declared_same fs n p rs h) h)) h)

pub block_local : (cells : ℕ) (fs : List Declared) (e : Meaning) → IsLocal e → IsLocal (block cells fs e)
block_local cells fs e le n p k l h =
    asks_same (requests.Scope p cells) [] n (value_agree (λ s. declared_same fs n (within p s) (le n (within p s) k l h) h) h)

pub returned_local : (e : Meaning) → IsLocal e → IsLocal (returned e)
returned_local e le n p k l h = le n p _ _ (value_agree (λ v. h (Return v)) h)

pub thrown_local : (e : Meaning) → IsLocal e → IsLocal (thrown e)
thrown_local e le n p k l h = le n p _ _ (value_agree (λ v. h (Throw v)) h)

-- ---- loops

body_ended_agree : {n : ℕ} {r s : Run} {k l : Next'} → Same n r s → Agree n k l → Agree n (body_ended r k) (body_ended s l)
body_ended_agree rs h (Normal v) = rs
body_ended_agree rs h (Break zero) = h (Normal values.Undefined)
body_ended_agree rs h (Break (suc m)) = h (Break m)
body_ended_agree rs h (Continue zero) = rs
body_ended_agree rs h (Continue (suc m)) = h (Continue m)
body_ended_agree rs h (Return v) = h (Return v)
body_ended_agree rs h (Throw v) = h (Throw v)

tested_agree : (b : Meaning) → IsLocal b → (n : ℕ) (p : Place) {r s : Run} {k l : Next'} → Same n r s → Agree n k l → Agree n (tested b r p k) (tested b s p l)
tested_agree b lb n p rs h = value_agree (λ v. if_same (truth_of v) (lb n p _ _ (body_ended_agree rs h)) (h (Normal values.Undefined))) h

pub while_turns : (t b : Meaning) → IsLocal t → IsLocal b → (m : ℕ) (p : Place) {k l : Next'} → Agree m k l → IsLocalTurn m (while_turn t b p k) (while_turn t b p l)
while_turns t b lt lb m p h n ln again more am s =
    value_agree (λ _. lt n p _ _ (tested_agree b lb n p (am tt) (agree_below ln h))) (agree_below ln h)

pub while_local : (t b : Meaning) → IsLocal t → IsLocal b → IsLocal (while_loop t b)
while_local t b lt lb n p k l h = loop_same (while_turn t b p k) (while_turn t b p l) n (while_turns t b lt lb n p h) n (omega arith) tt

pub do_turns : (b t : Meaning) → IsLocal b → IsLocal t → (m : ℕ) (p : Place) {k l : Next'} → Agree m k l → IsLocalTurn m (do_turn b t p k) (do_turn b t p l)
do_turns b t lb lt m p h n ln again more am s =
    let hn = agree_below ln h in
    value_agree (λ _. lb n p _ _ (body_ended_agree (lt n p _ _ (value_agree (λ v. if_same (truth_of v) (am tt) (hn (Normal values.Undefined))) hn)) hn)) hn

pub do_local : (b t : Meaning) → IsLocal b → IsLocal t → IsLocal (do_loop b t)
do_local b t lb lt n p k l h = loop_same (do_turn b t p k) (do_turn b t p l) n (do_turns b t lb lt n p h) n (omega arith) tt

pub for_turns : (t u b : Meaning) → IsLocal t → IsLocal u → IsLocal b → (m : ℕ) (p : Place) {k l : Next'} → Agree m k l → IsLocalTurn m (for_turn t u b p k) (for_turn t u b p l)
for_turns t u b lt lu lb m p h n ln again more am s =
    let hn = agree_below ln h in
    value_agree (λ _. lt n p _ _ (tested_agree b lb n p (lu n p _ _ (before_agree n (am tt) hn)) hn)) hn

pub for_local : (e t u b : Meaning) → IsLocal e → IsLocal t → IsLocal u → IsLocal b → IsLocal (for_loop e t u b)
for_local e t u b le lt lu lb n p k l h =
    le n p _ _ (before_agree n (loop_same (for_turn t u b p k) (for_turn t u b p l) n (for_turns t u b lt lu lb n p h) n (omega arith) tt) h)

pub let_turns : (t u b : Meaning) → IsLocal t → IsLocal u → IsLocal b → (m : ℕ) {k l : Next'} → Agree m k l → IsLocalTurn m (let_turn t u b k) (let_turn t u b l)
let_turns t u b lt lu lb m h n ln again more am p =
    let hn = agree_below ln h in
    value_agree (λ _. lt n p _ _ (tested_agree b lb n p
    (asks_same (requests.Fork p) [] n (value_agree (λ s. lu n (within p s) _ _ (before_agree n (am (within p s)) hn)) hn)) hn)) hn

pub let_local : (cells : ℕ) (e t u b : Meaning) → IsLocal e → IsLocal t → IsLocal u → IsLocal b → IsLocal (let_loop cells e t u b)
let_local cells e t u b le lt lu lb n p k l h =
    asks_same (requests.Scope p cells) [] n
    (value_agree (λ s. le n (within p s) _ _ (before_agree n
    (asks_same (requests.Fork (within p s)) [] n
    (value_agree (λ z. loop_same (let_turn t u b k) (let_turn t u b l) n (let_turns t u b lt lu lb n h) n (omega arith) (within (within p s) z)) h)) h)) h)

item_ended_agree : (walk : Value) (n : ℕ) {r s : Run} {k l : Next'} → Same n r s → Agree n k l → Agree n (item_ended walk r k) (item_ended walk s l)
item_ended_agree walk n rs h (Normal v) = rs
item_ended_agree walk n rs h (Break zero) = closing_same walk (Normal values.Undefined) n h
item_ended_agree walk n rs h (Break (suc m)) = closing_same walk (Break m) n h
item_ended_agree walk n rs h (Continue zero) = rs
item_ended_agree walk n rs h (Continue (suc m)) = closing_same walk (Continue m) n h
item_ended_agree walk n rs h (Return v) = closing_same walk (Return v) n h
item_ended_agree walk n rs h (Throw v) = closing_same walk (Throw v) n h

pub of_turns : (cells : ℕ) (x : Binding) (b : Meaning) → IsLocalAt x → IsLocal b → (walk : Value) (m : ℕ) (p : Place) {k l : Next'} → Agree m k l → IsLocalTurn m (of_turn cells x b walk p k) (of_turn cells x b walk p l)
of_turns cells x b lx lb walk m p h n ln again more am z =
    let hn = agree_below ln h in
    value_agree (λ _. asks_same (requests.Next walk) [] n
    (value_agree (λ v. if_same (is_mark v) (hn (Normal values.Undefined))
    (asks_same (requests.Scope p cells) [] n
    (value_agree (λ s. lx n (within p s) v _ _ (or_close_agree walk n (lb n (within p s) _ _ (item_ended_agree walk n (am tt) hn)) hn)) hn))) hn)) hn

pub of_local : (cells : ℕ) (x : Binding) (e b : Meaning) → IsLocalAt x → IsLocal e → IsLocal b → IsLocal (of_loop cells x e b)
of_local cells x e b lx le lb n p k l h =
    le n p _ _ (value_agree (λ v. asks_same (requests.Open v) [] n
    (value_agree (λ walk. loop_same (of_turn cells x b walk p k) (of_turn cells x b walk p l) n (of_turns cells x b lx lb walk n p h) n (omega arith) tt) h)) h)

-- ---- `try`

pub unbound_local : (e : Meaning) → IsLocal e → IsLocalAt (unbound e)
unbound_local e le n p v k l h = le n p k l h

pub bound_local : (cells : ℕ) (x : Binding) (e : Meaning) → IsLocalAt x → IsLocal e → IsLocalAt (bound cells x e)
bound_local cells x e lx le n p v k l h =
    asks_same (requests.Scope p cells) [] n
    (value_agree (λ s. lx n (within p s) v _ _ (before_agree n (le n (within p s) k l h) h)) h)

abbrev pub IsLocalClause : Option Binding → Type 0
IsLocalClause None = Unit {0}
IsLocalClause (Some b) = IsLocalAt b

catching_agree : (b : Binding) → IsLocalAt b → (n : ℕ) (p : Place) {k l : Next'} → Agree n k l → Agree n (catching b p k) (catching b p l)
catching_agree b lb n p h (Throw v) = lb n p v _ _ h
catching_agree b lb n p h (Normal v) = h (Normal v)
catching_agree b lb n p h (Break m) = h (Break m)
catching_agree b lb n p h (Continue m) = h (Continue m)
catching_agree b lb n p h (Return v) = h (Return v)

caught_agree : (c : Option Binding) → IsLocalClause c → (n : ℕ) (p : Place) {k l : Next'} → Agree n k l → Agree n (caught c p k) (caught c p l)
caught_agree None lc n p h = h
caught_agree (Some b) lc n p h = catching_agree b lc n p h

finally_agree : (e : Option Meaning) → IsLocalIn e → (n : ℕ) (p : Place) {k l : Next'} → Agree n k l → Agree n (finally_of e p k) (finally_of e p l)
finally_agree None le n p h = h
finally_agree (Some e) le n p h = λ c. le n p _ _ (value_agree (λ _. h c) h)

pub try_local : (e : Meaning) (c : Option Binding) (f : Option Meaning) → IsLocal e → IsLocalClause c → IsLocalIn f → IsLocal (try e c f)
try_local e c f le lc lf n p k l h = le n p _ _ (caught_agree c lc n p (finally_agree f lf n p h))
