-- Requests that apply operators and conversions.
use Rattle.std.specs.Prelude.{Option, Some, None}
use Rattle.actx_value.specs.Operators.{op_of_unary, op_of_binary}
use Rattle.actx_value.specs.declared.operator.Op.{Op}
use Rattle.actx_value.specs.declared.operator.UnaryOp.{UnaryOp}
use Rattle.actx_value.specs.declared.operator.BinaryOp.{BinaryOp}
use Rattle.actx_value.specs.declared.value.Value.{Value}
use Rattle.actx_value.specs.declared.value.Value.TheVariants.{Undefined}
use Rattle.actx_ops.specs.declared.out.OpOut.{OpOut}
use Rattle.actx_ops.specs.declared.out.OpOut.TheVariants.{Value as Gives, NewText, Throw, OutOfProfile}
use Rattle.actx_ops.specs.Conversions.{as_text, as_key}
use Rattle.actx_ops.specs.Operators.{applied}
use Rattle.actx_request.specs.Outcomes.{Stores, Outcome, gives, gives_text, throws, leaves_profile}

-- what an operator or a conversion gave
abbrev pub as_given : OpOut → Stores → Outcome
as_given (Gives v) s = gives v s
as_given (NewText text) s = gives_text text s
as_given (Throw e) s = throws e s
as_given (OutOfProfile r) s = leaves_profile r s

-- an operator that depends on its operands and the texts alone; the others aren't plain
abbrev pub operator_on : Option Op → Value → Value → Stores → Outcome
operator_on None a b s = gives Undefined s
operator_on (Some op) a b s = as_given (applied s.texts.texts op a b) s

-- Unary (ECMA-262 §13.5.4, §13.5.5)
abbrev pub unary_on : UnaryOp → Value → Stores → Outcome
unary_on op v s = operator_on (op_of_unary op) v v s

-- Binary (ApplyStringOrNumericBinaryOperator, §13.15.3; §13.10, §13.11)
abbrev pub binary_on : BinaryOp → Value → Value → Stores → Outcome
binary_on op a b s = operator_on (op_of_binary op) a b s

-- ToText (ToString, §7.1.17)
abbrev pub text_of : Value → Stores → Outcome
text_of v s = as_given (as_text s.texts.texts v) s

-- ToKey (ToPropertyKey, §7.1.19)
abbrev pub key_of : Value → Stores → Outcome
key_of v s = as_given (as_key s.texts.texts v) s
