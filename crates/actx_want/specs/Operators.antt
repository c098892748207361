-- Operators and templates (ECMA-262 §13.2.8, §13.5, §13.10 to §13.13, §13.15.4).
use Rattle.std.specs.Prelude.{List, [], ◌∷◌, not, if◌then◌else◌, Option, Some, None}
use Rattle.actx_value.specs.declared.value.Value.{Value}
use Rattle.actx_value.specs.declared.value.Value.TheVariants as values
use Rattle.actx_value.specs.declared.request.Request.TheVariants as requests
use Rattle.actx_value.specs.declared.operator.BinaryOp.{BinaryOp}
use Rattle.actx_value.specs.declared.operator.BinaryOp.TheVariants as binary
use Rattle.actx_value.specs.declared.operator.UnaryOp.{UnaryOp}
use Rattle.actx_value.specs.Truth.{truth_of}
use Rattle.actx_code.specs.declared.item.Logic.{Logic}
use Rattle.actx_want.specs.declared.completion.Completion.TheVariants.{Normal}
use Rattle.actx_want.specs.Run.{Run, Next', Place, Meaning, ask, on_value}
use Rattle.actx_want.specs.Names.{is_due}

-- an operator before its operand (§13.5)
abbrev pub applied_to : UnaryOp → Next' → Next'
applied_to op k = on_value (λ v. ask (requests.Unary op v) k) k

abbrev pub unary : UnaryOp → Meaning → Meaning
unary op e p k = e p (applied_to op k)

-- `!` (§13.5.7)
abbrev pub negating : Next' → Next'
negating k = on_value (λ v. k (Normal (values.Bool (not (truth_of v))))) k

abbrev pub negation : Meaning → Meaning
negation e p k = e p (negating k)

-- `void` (§13.5.2)
abbrev pub dropping : Next' → Next'
dropping k = on_value (λ _. k (Normal values.Undefined)) k

abbrev pub nothing_of : Meaning → Meaning
nothing_of e p k = e p (dropping k)

-- ---- chains

-- what the rest of a chain does with the value so far
abbrev pub Chained : Type 0
Chained = Place → Value → Next' → Run

-- a right operand came (EvaluateStringOrNumericBinaryExpression, §13.15.4)
abbrev pub applying : BinaryOp → Value → Next' → Next'
applying op v k = on_value (λ w. ask (requests.Binary op v w) k) k

-- an operator and its right operand
abbrev pub operand : BinaryOp → Meaning → Chained
operand op right p v k = right p (applying op v k)

-- one after another, each with the value so far
unfoldable pub chained : List Chained → Chained
chained [] p v k = k (Normal v)
chained (c ∷ cs) p v k = c p v (on_value (λ w. chained cs p w k) k)

-- what a chain does with its first value
abbrev pub chaining : List Chained → Place → Next' → Next'
chaining cs p k = on_value (λ v. chained cs p v k) k

-- a chain of operators of one level
abbrev pub operators : Meaning → List Chained → Meaning
operators first operands p k = first p (chaining operands p k)

-- ---- `&&`, `||` and `??` (§13.13.1)

unfoldable pub decided : Logic → List Meaning → Chained
decided op [] p v k = k (Normal v)
decided op (e ∷ es) p v k = if is_due op v then e p (on_value (λ w. decided op es p w k) k) else k (Normal v)

abbrev pub deciding_on : Logic → List Meaning → Place → Next' → Next'
deciding_on op es p k = on_value (λ v. decided op es p v k) k

abbrev pub logical : Logic → Meaning → List Meaning → Meaning
logical op first es p k = first p (deciding_on op es p k)

-- ---- templates (§13.2.8.6)

-- the text so far, and the piece after a value
abbrev pub joining : Option Value → Next' → Next'
joining None k = on_value (λ u. k (Normal u)) k
joining (Some after) k = on_value (λ u. ask (requests.Binary binary.Add u after) k) k

-- a value as a text came
abbrev pub joining_text : Option Value → Value → Next' → Next'
joining_text after v k = on_value (λ t. ask (requests.Binary binary.Add v t) (joining after k)) k

-- a value came
abbrev pub making_text : Option Value → Value → Next' → Next'
making_text after v k = on_value (λ w. ask (requests.ToText w) (joining_text after v k)) k

-- a value and the piece after it
abbrev pub piece : Meaning → Option Value → Chained
piece e after p v k = e p (making_text after v k)

abbrev pub template : Value → List Chained → Meaning
template first pieces p k = chained pieces p first k
