-- Which operators depend on their operands and the texts alone.
use Rattle.std.specs.Prelude.{Option, Some, None}
use Rattle.actx_value.specs.declared.operator.Op.{Op}
use Rattle.actx_value.specs.declared.operator.Op.TheVariants as op
use Rattle.actx_value.specs.declared.operator.UnaryOp.{UnaryOp}
use Rattle.actx_value.specs.declared.operator.UnaryOp.TheVariants.{Negate, ToNumber, TypeOf}
use Rattle.actx_value.specs.declared.operator.BinaryOp.{BinaryOp}
use Rattle.actx_value.specs.declared.operator.BinaryOp.TheVariants.{Add, Subtract, Multiply, Divide, Remainder, Less, Greater, LessOrEqual, GreaterOrEqual, Equal, NotEqual, StrictlyEqual, StrictlyNotEqual, In, InstanceOf}

abbrev pub op_of_unary : UnaryOp → Option Op
op_of_unary Negate = Some op.Negate
op_of_unary ToNumber = Some op.ToNumber
op_of_unary TypeOf = None

abbrev pub op_of_binary : BinaryOp → Option Op
op_of_binary Add = Some op.Add
op_of_binary Subtract = Some op.Subtract
op_of_binary Multiply = Some op.Multiply
op_of_binary Divide = Some op.Divide
op_of_binary Remainder = Some op.Remainder
op_of_binary Less = Some op.Less
op_of_binary Greater = Some op.Greater
op_of_binary LessOrEqual = Some op.LessOrEqual
op_of_binary GreaterOrEqual = Some op.GreaterOrEqual
op_of_binary Equal = Some op.Equal
op_of_binary NotEqual = Some op.NotEqual
op_of_binary StrictlyEqual = Some op.StrictlyEqual
op_of_binary StrictlyNotEqual = Some op.StrictlyNotEqual
op_of_binary In = None
op_of_binary InstanceOf = None
