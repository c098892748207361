-- Names, changes, operators and templates are local.
use Rattle.std.proofs.Common.{ℕ, List, [], ◌∷◌, Option, Some, None}
use Rattle.actx_value.specs.declared.value.Value.{Value}
use Rattle.actx_value.specs.declared.request.Request.TheVariants as requests
use Rattle.actx_value.specs.declared.operator.BinaryOp.{BinaryOp}
use Rattle.actx_value.specs.declared.operator.BinaryOp.TheVariants as binary
use Rattle.actx_value.specs.declared.operator.UnaryOp.{UnaryOp}
use Rattle.actx_value.specs.declared.operator.UnaryOp.TheVariants as unary_op
use Rattle.actx_tree.specs.declared.operator.StepOp.{StepOp}
use Rattle.actx_code.specs.declared.item.Logic.{Logic}
use Rattle.actx_want.specs.declared.completion.Completion.TheVariants.{Normal}
use Rattle.actx_want.specs.Run.{Next', Place, Meaning}
use Rattle.actx_want.specs.Names.{Access, Changing, name_at, storing, changed_plainly, changed_by_operator, is_due, changed_by_logic, step_operator, one, changed_before, changed_after, name, change_name}
use Rattle.actx_want.specs.Operators.{Chained, unary, negation, nothing_of, operand, chained, operators, decided, logical, joining, piece, template}
use Rattle.actx_want.specs.Locality.{Agree, IsLocal, IsLocalAt, IsLocalAccess, IsLocalChange}
use Rattle.actx_want.proofs.Local.{asks_same, value_agree, keeping_agree, if_same, Alls}

-- ---- names

pub name_access : (p : Place) (hops i : ℕ) → IsLocalAccess (name_at p hops i)
name_access p hops i = record { read = λ n k l h. asks_same (requests.Load p hops i) [] n h; write = λ n v k l h. asks_same (requests.Store p hops i v) [] n h }

pub name_local : (hops i : ℕ) → IsLocal (name hops i)
name_local hops i n p k l h = asks_same (requests.Load p hops i) [] n h

pub change_name_local : (hops i : ℕ) (c : Changing) → IsLocalChange c → IsLocal (change_name hops i c)
change_name_local hops i c lc n p k l h = lc (name_at p hops i) (name_access p hops i) n p k l h

pub storing_agree : (a : Access) → IsLocalAccess a → (n : ℕ) {k l : Next'} → Agree n k l → Agree n (storing a k) (storing a l)
storing_agree a la n h = value_agree (λ v. la.write n v _ _ (keeping_agree v n h)) h

pub plainly_local : (e : Meaning) → IsLocal e → IsLocalChange (changed_plainly e)
plainly_local e le a la n p k l h = le n p _ _ (storing_agree a la n h)

pub operator_local : (op : BinaryOp) (e : Meaning) → IsLocal e → IsLocalChange (changed_by_operator op e)
operator_local op e le a la n p k l h =
    la.read n _ _ (value_agree (λ old. le n p _ _ (value_agree (λ v. asks_same (requests.Binary op old v) [] n (storing_agree a la n h)) h)) h)

pub logic_local : (op : Logic) (e : Meaning) → IsLocal e → IsLocalChange (changed_by_logic op e)
logic_local op e le a la n p k l h =
    la.read n _ _ (value_agree (λ old. if_same (is_due op old) (le n p _ _ (storing_agree a la n h)) (h (Normal old))) h)

pub step_before_local : (op : StepOp) → IsLocalChange (changed_before op)
step_before_local op a la n p k l h =
    la.read n _ _ (value_agree (λ old. asks_same (requests.Unary unary_op.ToNumber old) [] n (value_agree (λ v. asks_same (requests.Binary (step_operator op) v one) [] n (storing_agree a la n h)) h)) h)

pub step_after_local : (op : StepOp) → IsLocalChange (changed_after op)
step_after_local op a la n p k l h =
    la.read n _ _ (value_agree (λ old. asks_same (requests.Unary unary_op.ToNumber old) [] n (value_agree (λ v. asks_same (requests.Binary (step_operator op) v one) [] n (value_agree (λ w. la.write n w _ _ (keeping_agree v n h)) h)) h)) h)

-- ---- operators

pub unary_local : (op : UnaryOp) (e : Meaning) → IsLocal e → IsLocal (unary op e)
unary_local op e le n p k l h = le n p _ _ (value_agree (λ v. asks_same (requests.Unary op v) [] n h) h)

pub negation_local : (e : Meaning) → IsLocal e → IsLocal (negation e)
negation_local e le n p k l h = le n p _ _ (value_agree (λ v. h _) h)

pub nothing_local : (e : Meaning) → IsLocal e → IsLocal (nothing_of e)
nothing_local e le n p k l h = le n p _ _ (value_agree (λ v. h _) h)

pub operand_local : (op : BinaryOp) (e : Meaning) → IsLocal e → IsLocalAt (operand op e)
operand_local op e le n p v k l h = le n p _ _ (value_agree (λ w. asks_same (requests.Binary op v w) [] n h) h)

pub chained_local : (cs : List Chained) → Alls IsLocalAt cs → IsLocalAt (chained cs)
unfolding chained
chained_local [] all n p v k l h = h (Normal v)
chained_local (c ∷ cs) all n p v k l h = all.0 n p v _ _ (value_agree (λ w. chained_local cs all.1 n p w k l h) h)

pub operators_local : (e : Meaning) (cs : List Chained) → IsLocal e → Alls IsLocalAt cs → IsLocal (operators e cs)
operators_local e cs le all n p k l h = le n p _ _ (value_agree (λ v. chained_local cs all n p v k l h) h)

pub decided_local : (op : Logic) (es : List Meaning) → Alls IsLocal es → IsLocalAt (decided op es)
unfolding decided
decided_local op [] all n p v k l h = h (Normal v)
decided_local op (e ∷ es) all n p v k l h = if_same (is_due op v) (all.0 n p _ _ (value_agree (λ w. decided_local op es all.1 n p w k l h) h)) (h (Normal v))

pub logical_local : (op : Logic) (e : Meaning) (es : List Meaning) → IsLocal e → Alls IsLocal es → IsLocal (logical op e es)
logical_local op e es le all n p k l h = le n p _ _ (value_agree (λ v. decided_local op es all n p v k l h) h)

-- ---- templates

joining_agree : (after : Option Value) (n : ℕ) {k l : Next'} → Agree n k l → Agree n (joining after k) (joining after l)
joining_agree None n h = value_agree (λ u. h (Normal u)) h
joining_agree (Some a) n h = value_agree (λ u. asks_same (requests.Binary binary.Add u a) [] n h) h

pub piece_local : (e : Meaning) (after : Option Value) → IsLocal e → IsLocalAt (piece e after)
piece_local e after le n p v k l h =
    le n p _ _ (value_agree (λ w. asks_same (requests.ToText w) [] n (value_agree (λ t. asks_same (requests.Binary binary.Add v t) [] n (joining_agree after n h)) h)) h)

pub template_local : (first : Value) (cs : List Chained) → Alls IsLocalAt cs → IsLocal (template first cs)
template_local first cs all n p k l h = chained_local cs all n p first k l h
