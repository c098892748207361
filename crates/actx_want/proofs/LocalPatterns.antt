-- Functions, patterns and classes are local.
use Rattle.std.proofs.Common.{ℕ, List, [], ◌∷◌, Option, Some, None}
use Rattle.actx_text.specs.declared.body_id.BodyId.{BodyId}
use Rattle.actx_value.specs.declared.value.Value.{Value}
use Rattle.actx_value.specs.declared.value.Value.TheVariants as values
use Rattle.actx_value.specs.declared.request.Request.TheVariants as requests
use Rattle.actx_code.specs.declared.item.ClassMember.{ClassMember}
use Rattle.actx_want.specs.declared.completion.Completion.{Completion}
use Rattle.actx_want.specs.declared.completion.Completion.TheVariants.{Normal, Break, Continue, Return, Throw}
use Rattle.actx_want.specs.Run.{Run, Next', Place, Meaning, is_mark, is_undefined}
use Rattle.actx_want.specs.Functions.{Binding, binding, function, parameter, rest_parameter, begin, yielded, awaited}
use Rattle.actx_want.specs.Patterns.{slot, element, closed, closing, or_close, PropertyBinding, keys_of, properties_of, rest_of, properties, rest_array, rest_past_end, past_end, rest_of_walk, items_of, elements, bind}
use Rattle.actx_want.specs.Classes.{stands_on_prototype, home_of, members_of, class_made, class}
use Rattle.actx_want.specs.Locality.{Same, Agree, IsLocal, IsLocalAt, IsLocalProperty}
use Rattle.actx_want.proofs.Local.{asks_same, value_agree, before_agree, if_same, Alls}
use Rattle.actx_want.proofs.LocalMembers.{collected_same}

-- ---- functions

pub function_local : (body : BodyId) → IsLocal (function body)
function_local body n p k l h = asks_same (requests.Function body p) [] n h

pub binding_agree : (b : Binding) → IsLocalAt b → (n : ℕ) (p : Place) {k l : Next'} → Agree n k l → Agree n (binding b p k) (binding b p l)
binding_agree b lb n p h = value_agree (λ v. lb n p v _ _ h) h

pub parameter_local : (i : ℕ) (b : Binding) → IsLocalAt b → IsLocal (parameter i b)
parameter_local i b lb n p k l h = asks_same (requests.Arg i) [] n (binding_agree b lb n p h)

pub rest_parameter_local : (i : ℕ) (b : Binding) → IsLocalAt b → IsLocal (rest_parameter i b)
rest_parameter_local i b lb n p k l h = asks_same (requests.ArgsFrom i) [] n (binding_agree b lb n p h)

pub begin_local : IsLocal begin
begin_local n p k l h = asks_same requests.Begin [] n h

pub yielded_local : (e : Meaning) → IsLocal e → IsLocal (yielded e)
yielded_local e le n p k l h = le n p _ _ (value_agree (λ v. asks_same (requests.Yield v) [] n h) h)

pub awaited_local : (e : Meaning) → IsLocal e → IsLocal (awaited e)
awaited_local e le n p k l h = le n p _ _ (value_agree (λ v. asks_same (requests.Await v) [] n h) h)

-- ---- patterns

pub slot_local : (i : ℕ) → IsLocalAt (slot i)
slot_local i n p v k l h = asks_same (requests.Init p 0 i v) [] n h

-- where there is one
abbrev pub IsLocalIn : Option Meaning → Type 0
IsLocalIn None = Unit {0}
IsLocalIn (Some e) = IsLocal e

pub element_local : (b : Binding) (default : Option Meaning) → IsLocalAt b → IsLocalIn default → IsLocalAt (element b default)
element_local b None lb ld n p v k l h = lb n p v k l h
element_local b (Some e) lb ld n p v k l h = if_same (is_undefined v) (ld n p _ _ (binding_agree b lb n p h)) (lb n p v k l h)

closed_agree : (c : Completion) (n : ℕ) {k l : Next'} → Agree n k l → Agree n (closed c k) (closed c l)
closed_agree (Throw v) n h = λ _. h (Throw v)
closed_agree (Normal v) n h = value_agree (λ _. h (Normal v)) h
closed_agree (Break m) n h = value_agree (λ _. h (Break m)) h
closed_agree (Continue m) n h = value_agree (λ _. h (Continue m)) h
closed_agree (Return v) n h = value_agree (λ _. h (Return v)) h

pub closing_same : (walk : Value) (c : Completion) (n : ℕ) {k l : Next'} → Agree n k l → Same n (closing walk c k) (closing walk c l)
closing_same walk c n h = asks_same (requests.Close walk) [] n (closed_agree c n h)

pub or_close_agree : (walk : Value) (n : ℕ) {r s : Run} {k l : Next'} → Same n r s → Agree n k l → Agree n (or_close walk r k) (or_close walk s l)
or_close_agree walk n rs h (Normal v) = rs
or_close_agree walk n rs h (Break m) = closing_same walk (Break m) n h
or_close_agree walk n rs h (Continue m) = closing_same walk (Continue m) n h
or_close_agree walk n rs h (Return v) = closing_same walk (Return v) n h
or_close_agree walk n rs h (Throw v) = closing_same walk (Throw v) n h

properties_of_same : (qs : List PropertyBinding) → Alls IsLocalProperty qs → (n : ℕ) (p : Place) (v : Value) {r s : Run} {k l : Next'} → Same n r s → Agree n k l → Same n (properties_of qs p v r k) (properties_of qs p v s l)
unfolding properties_of
properties_of_same [] all n p v rs h = rs
properties_of_same (q ∷ qs) all n p v rs h =
    asks_same (requests.Get v q.key) [] n
    (value_agree (λ w. all.0 n p w _ _ (before_agree n (properties_of_same qs all.1 n p v rs h) h)) h)

rest_of_same : (rest : Option ℕ) (keys : List Value) (n : ℕ) (p : Place) (v : Value) {k l : Next'} → Agree n k l → Same n (rest_of rest keys p v k) (rest_of rest keys p v l)
rest_of_same None keys n p v h = h _
rest_of_same (Some i) keys n p v h = asks_same (requests.Rest v) keys n (binding_agree (slot i) (slot_local i) n p h)

pub properties_local : (qs : List PropertyBinding) (rest : Option ℕ) → Alls IsLocalProperty qs → IsLocalAt (properties qs rest)
properties_local qs rest all n p v k l h = properties_of_same qs all n p v (rest_of_same rest (keys_of qs) n p v h) h

rest_array_same : (i n : ℕ) (p : Place) {k l : Next'} → Agree n k l → (d : List Value) → Same n (rest_array i p k d) (rest_array i p l d)
rest_array_same i n p h d = asks_same requests.Array d n (binding_agree (slot i) (slot_local i) n p h)

rest_past_end_same : (rest : Option ℕ) (n : ℕ) (p : Place) {k l : Next'} → Agree n k l → Same n (rest_past_end rest p k) (rest_past_end rest p l)
rest_past_end_same None n p h = h _
rest_past_end_same (Some i) n p h = rest_array_same i n p h []

past_end_same : (bs : List Binding) → Alls IsLocalAt bs → (rest : Option ℕ) (n : ℕ) (p : Place) {k l : Next'} → Agree n k l → Same n (past_end bs rest p k) (past_end bs rest p l)
unfolding past_end
past_end_same [] all rest n p h = rest_past_end_same rest n p h
past_end_same (b ∷ bs) all rest n p h = all.0 n p values.Undefined _ _ (before_agree n (past_end_same bs all.1 rest n p h) h)

rest_of_walk_same : (walk : Value) (rest : Option ℕ) (n : ℕ) (p : Place) {k l : Next'} → Agree n k l → Same n (rest_of_walk walk rest p k) (rest_of_walk walk rest p l)
rest_of_walk_same walk None n p h = closing_same walk (Normal values.Undefined) n h
rest_of_walk_same walk (Some i) n p h = collected_same walk n (rest_array_same i n p h) h []

items_of_same : (bs : List Binding) → Alls IsLocalAt bs → (rest : Option ℕ) (walk : Value) (n : ℕ) (p : Place) {k l : Next'} → Agree n k l → Same n (items_of bs rest walk p k) (items_of bs rest walk p l)
unfolding items_of
items_of_same [] all rest walk n p h = rest_of_walk_same walk rest n p h
items_of_same (b ∷ bs) all rest walk n p h =
    asks_same (requests.Next walk) [] n
    (value_agree (λ v. if_same (is_mark v) (all.0 n p values.Undefined _ _ (before_agree n (past_end_same bs all.1 rest n p h) h))
    (all.0 n p v _ _ (or_close_agree walk n (items_of_same bs all.1 rest walk n p h) h))) h)

pub elements_local : (bs : List Binding) (rest : Option ℕ) → Alls IsLocalAt bs → IsLocalAt (elements bs rest)
elements_local bs rest all n p v k l h = asks_same (requests.Open v) [] n (value_agree (λ walk. items_of_same bs all rest walk n p h) h)

pub bind_local : (b : Binding) (e : Meaning) → IsLocalAt b → IsLocal e → IsLocal (bind b e)
bind_local b e lb le n p k l h = le n p _ _ (binding_agree b lb n p h)

-- ---- classes

members_of_local : (ms : List ClassMember) (f o : Value) → IsLocal (members_of ms f o)
unfolding members_of
members_of_local [] f o n p k l h = h (Normal f)
members_of_local (m ∷ ms) f o n p k l h =
    asks_same (requests.Method m.body p (home_of m f o)) [] n
    (value_agree (λ v. asks_same (requests.DefineMethod (home_of m f o) m.key v) [] n (before_agree n (members_of_local ms f o n p k l h) h)) h)

class_made_agree : (key : Value) (ms : List ClassMember) (n : ℕ) (p : Place) {k l : Next'} → Agree n k l → Agree n (class_made key ms p k) (class_made key ms p l)
class_made_agree key ms n p h =
    value_agree (λ f. if_same (stands_on_prototype ms) (asks_same (requests.Get f key) [] n (value_agree (λ o. members_of_local ms f o n p _ _ h) h)) (members_of_local ms f f n p _ _ h)) h

pub class_local : (c : BodyId) (parent : Option Meaning) (key : Value) (ms : List ClassMember) → IsLocalIn parent → IsLocal (class c parent key ms)
class_local c None key ms lp n p k l h = asks_same (requests.Class c p None) [] n (class_made_agree key ms n p h)
class_local c (Some e) key ms lp n p k l h =
    lp n p _ _ (value_agree (λ v. asks_same (requests.Class c p (Some v)) [] n (class_made_agree key ms n p h)) h)
