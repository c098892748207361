-- Operators of the source as those of core forms, and chains of them (ECMA-262 §13.5 to §13.15).
use Rattle.std.specs.Prelude.{List, [], ◌∷◌, map, Option, Some, None}
use Rattle.actx_tree.specs.declared.operator.BinaryOp.{BinaryOp as SourceOp}
use Rattle.actx_tree.specs.declared.operator.BinaryOp.TheVariants as op
use Rattle.actx_tree.specs.declared.operator.AssignOp.{AssignOp}
use Rattle.actx_tree.specs.declared.operator.AssignOp.TheVariants as assign
use Rattle.actx_value.specs.declared.operator.BinaryOp.{BinaryOp}
use Rattle.actx_value.specs.declared.operator.BinaryOp.TheVariants as binary
use Rattle.actx_code.specs.declared.item.Logic.{Logic}
use Rattle.actx_code.specs.declared.item.Logic.TheVariants as logic
use Rattle.actx_core.specs.declared.core_form.Core.{Core}
use Rattle.actx_core.specs.declared.core_form.Core.TheVariants as forms
use Rattle.actx_core.specs.declared.core_parts.CoreChange.{CoreChange}
use Rattle.actx_core.specs.declared.core_parts.CoreChange.TheVariants as change
use Rattle.actx_core.specs.declared.core_parts.CoreOperand.{CoreOperand}
use Rattle.actx_core.specs.declared.core_parts.CoreOperand.TheVariants as operand
use Rattle.actx_core.specs.Making.{Making, of1, of2, all}

-- An operator that may leave its right operand out (§13.13).
abbrev pub logic_of : SourceOp → Option Logic
logic_of op.Or = Some logic.Or
logic_of op.And = Some logic.And
logic_of op.Coalesce = Some logic.Coalesce
logic_of op.Equal = None
logic_of op.NotEqual = None
logic_of op.StrictEqual = None
logic_of op.StrictNotEqual = None
logic_of op.Less = None
logic_of op.Greater = None
logic_of op.LessOrEqual = None
logic_of op.GreaterOrEqual = None
logic_of op.InstanceOf = None
logic_of op.In = None
logic_of op.Add = None
logic_of op.Subtract = None
logic_of op.Multiply = None
logic_of op.Divide = None
logic_of op.Remainder = None

-- An operator that asks (§13.15.3). The first three stand in no chain of such operators.
abbrev pub binary_of : SourceOp → BinaryOp
binary_of op.Or = binary.Add
binary_of op.And = binary.Add
binary_of op.Coalesce = binary.Add
binary_of op.Equal = binary.Equal
binary_of op.NotEqual = binary.NotEqual
binary_of op.StrictEqual = binary.StrictlyEqual
binary_of op.StrictNotEqual = binary.StrictlyNotEqual
binary_of op.Less = binary.Less
binary_of op.Greater = binary.Greater
binary_of op.LessOrEqual = binary.LessOrEqual
binary_of op.GreaterOrEqual = binary.GreaterOrEqual
binary_of op.InstanceOf = binary.InstanceOf
binary_of op.In = binary.In
binary_of op.Add = binary.Add
binary_of op.Subtract = binary.Subtract
binary_of op.Multiply = binary.Multiply
binary_of op.Divide = binary.Divide
binary_of op.Remainder = binary.Remainder

-- ---- chains

-- an operator of a chain, and its right operand
pub record Operand : Type 0 where
  pub op : SourceOp
  pub right : Making Core

-- the operators of a chain are of one level, so the first says whether they are logical
abbrev pub first_logic : List Operand → Option Logic
first_logic [] = None
first_logic (o ∷ os) = logic_of o.op

abbrev pub right_of : Operand → Making Core
right_of o = o.right

abbrev pub operand_of : Operand → Making CoreOperand
operand_of o = of1 (operand.Operand (binary_of o.op)) o.right

abbrev pub chain_by : Option Logic → Making Core → List Operand → Making Core
chain_by None first os = of2 forms.Operators first (all (map operand_of os))
chain_by (Some l) first os = of2 (forms.Logical l) first (all (map right_of os))

-- §13.13.1; §13.7 to §13.12, §13.15.4
abbrev pub chain : Making Core → List Operand → Making Core
chain first os = chain_by (first_logic os) first os

-- ---- assignments (§13.15.2)

-- the change that an operator of assignment makes with its right side
abbrev pub change_with : AssignOp → Core → CoreChange
change_with assign.Plain x = change.Plainly x
change_with assign.Add x = change.WithOperator binary.Add x
change_with assign.Subtract x = change.WithOperator binary.Subtract x
change_with assign.Multiply x = change.WithOperator binary.Multiply x
change_with assign.Divide x = change.WithOperator binary.Divide x
change_with assign.Remainder x = change.WithOperator binary.Remainder x
change_with assign.And x = change.WithLogic logic.And x
change_with assign.Or x = change.WithLogic logic.Or x
change_with assign.Coalesce x = change.WithLogic logic.Coalesce x

abbrev pub assigned : AssignOp → Making Core → Making CoreChange
assigned op x = of1 (change_with op) x
