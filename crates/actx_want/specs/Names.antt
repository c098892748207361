-- Names, and changes of names and members (ECMA-262 §13.1.3, §13.4, §13.15).
use Rattle.std.specs.Prelude.{ℕ, Bool, not, if◌then◌else◌, pos}
use Rattle.actx_value.specs.declared.value.Value.{Value}
use Rattle.actx_value.specs.declared.value.Value.TheVariants as values
use Rattle.actx_value.specs.declared.request.Request.TheVariants as requests
use Rattle.actx_value.specs.declared.operator.BinaryOp.{BinaryOp}
use Rattle.actx_value.specs.declared.operator.BinaryOp.TheVariants as binary
use Rattle.actx_value.specs.declared.operator.UnaryOp.TheVariants as unary
use Rattle.actx_value.specs.Truth.{truth_of}
use Rattle.actx_tree.specs.declared.operator.StepOp.{StepOp}
use Rattle.actx_tree.specs.declared.operator.StepOp.TheVariants as steps
use Rattle.actx_code.specs.declared.item.Logic.{Logic}
use Rattle.actx_code.specs.declared.item.Logic.TheVariants as logic
use Rattle.actx_want.specs.declared.completion.Completion.TheVariants.{Normal}
use Rattle.actx_want.specs.Run.{Run, Next', Place, Meaning, ask, on_value, keeping, is_nullish}

-- how a name or a member is read and written (GetValue and PutValue, §6.2.5.5, §6.2.5.6)
pub record Access : Type 0 where
  pub read : Next' → Run
  pub write : Value → Next' → Run

-- a name in its scope, so many scopes further out
abbrev pub name_at : Place → ℕ → ℕ → Access
name_at p hops slot = record { read = λ k. ask (requests.Load p hops slot) k; write = λ v k. ask (requests.Store p hops slot v) k }

-- a change of what is read and written so
abbrev pub Changing : Type 0
Changing = Access → Meaning

-- the value that came is written, and given (§13.15.2)
abbrev pub storing : Access → Next' → Next'
storing a k = on_value (λ v. a.write v (keeping v k)) k

-- `=` (§13.15.2)
abbrev pub changed_plainly : Meaning → Changing
changed_plainly e a p k = e p (storing a k)

-- `op=` (§13.15.2): the old value is read before the right operand
abbrev pub combining : Access → BinaryOp → Value → Next' → Next'
combining a op old k = on_value (λ v. ask (requests.Binary op old v) (storing a k)) k

abbrev pub right_of : Access → BinaryOp → Meaning → Place → Next' → Next'
right_of a op e p k = on_value (λ old. e p (combining a op old k)) k

abbrev pub changed_by_operator : BinaryOp → Meaning → Changing
changed_by_operator op e a p k = a.read (right_of a op e p k)

-- where the right operand is due (§13.13)
abbrev pub is_due : Logic → Value → Bool
is_due logic.And v = truth_of v
is_due logic.Or v = not (truth_of v)
is_due logic.Coalesce v = is_nullish v

-- `&&=`, `||=` and `??=` (§13.15.2): nothing is written where the right operand isn't due
abbrev pub deciding : Access → Logic → Meaning → Place → Next' → Next'
deciding a op e p k = on_value (λ old. if is_due op old then e p (storing a k) else k (Normal old)) k

abbrev pub changed_by_logic : Logic → Meaning → Changing
changed_by_logic op e a p k = a.read (deciding a op e p k)

-- ---- `++` and `--` (§13.4)

abbrev pub step_operator : StepOp → BinaryOp
step_operator steps.Increment = binary.Add
step_operator steps.Decrement = binary.Subtract

abbrev pub one : Value
one = values.Num (pos 1)

-- the new value is written, and the value before it given
abbrev pub storing_after : Access → Value → Next' → Next'
storing_after a old k = on_value (λ v. a.write v (keeping old k)) k

-- the old value as a number came (ToNumeric, §7.1.3)
abbrev pub stepped_before : Access → StepOp → Next' → Next'
stepped_before a op k = on_value (λ n. ask (requests.Binary (step_operator op) n one) (storing a k)) k

abbrev pub stepped_after : Access → StepOp → Next' → Next'
stepped_after a op k = on_value (λ n. ask (requests.Binary (step_operator op) n one) (storing_after a n k)) k

-- the old value came
abbrev pub numbering : Next' → Next' → Next'
numbering next k = on_value (λ old. ask (requests.Unary unary.ToNumber old) next) k

-- §13.4.4, §13.4.5
abbrev pub changed_before : StepOp → Changing
changed_before op a p k = a.read (numbering (stepped_before a op k) k)

-- §13.4.2, §13.4.3
abbrev pub changed_after : StepOp → Changing
changed_after op a p k = a.read (numbering (stepped_after a op k) k)

-- ---- forms

-- a name, or `this` (§13.1.3, §13.2.1.1)
abbrev pub name : ℕ → ℕ → Meaning
name hops slot p k = ask (requests.Load p hops slot) k

abbrev pub change_name : ℕ → ℕ → Changing → Meaning
change_name hops slot change p k = change (name_at p hops slot) p k
