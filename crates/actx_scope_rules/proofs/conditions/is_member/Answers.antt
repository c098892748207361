use Rattle.std.proofs.Common.{refl}
use Rattle.actx_scope_rules.proofs.PartEquations as part
use Rattle.actx_scope_rules.proofs.conditions.is_member.Goals as goal

pub returns-in-Left : goal.returns-in-Left
returns-in-Left c = rw (c.in-Left.is, part.expr_part-Left) (rw c.as_slice.ensures at c.ends_in_member.ensures)

pub returns-in-Name : goal.returns-in-Name
returns-in-Name c = rw (c.in-Name.is, part.expr_part-Name) refl

pub returns-in-Number : goal.returns-in-Number
returns-in-Number c = rw (c.in-Number.is, part.expr_part-Number) refl

pub returns-in-Text : goal.returns-in-Text
returns-in-Text c = rw (c.in-Text.is, part.expr_part-Text) refl

pub returns-in-Bool : goal.returns-in-Bool
returns-in-Bool c = rw (c.in-Bool.is, part.expr_part-Bool) refl

pub returns-in-Null : goal.returns-in-Null
returns-in-Null c = rw (c.in-Null.is, part.expr_part-Null) refl

pub returns-in-This : goal.returns-in-This
returns-in-This c = rw (c.in-This.is, part.expr_part-This) refl

pub returns-in-Template : goal.returns-in-Template
returns-in-Template c = rw (c.in-Template.is, part.expr_part-Template) refl

pub returns-in-Brackets : goal.returns-in-Brackets
returns-in-Brackets c = rw (c.in-Brackets.is, part.expr_part-Brackets) refl

pub returns-in-Array : goal.returns-in-Array
returns-in-Array c = rw (c.in-Array.is, part.expr_part-Array) refl

pub returns-in-Object : goal.returns-in-Object
returns-in-Object c = rw (c.in-Object.is, part.expr_part-Object) refl

pub returns-in-SuperCall : goal.returns-in-SuperCall
returns-in-SuperCall c = rw (c.in-SuperCall.is, part.expr_part-SuperCall) refl

pub returns-in-SuperMember : goal.returns-in-SuperMember
returns-in-SuperMember c = rw (c.in-SuperMember.is, part.expr_part-SuperMember) refl

pub returns-in-Function : goal.returns-in-Function
returns-in-Function c = rw (c.in-Function.is, part.expr_part-Function, part.function_part-fields) refl

pub returns-in-Class : goal.returns-in-Class
returns-in-Class c = rw (c.in-Class.is, part.expr_part-Class, part.class_part-fields) refl

pub returns-in-New : goal.returns-in-New
returns-in-New c = rw (c.in-New.is, part.expr_part-New) refl

pub returns-in-StepBefore : goal.returns-in-StepBefore
returns-in-StepBefore c = rw (c.in-StepBefore.is, part.expr_part-StepBefore) refl

pub returns-in-StepAfter : goal.returns-in-StepAfter
returns-in-StepAfter c = rw (c.in-StepAfter.is, part.expr_part-StepAfter) refl

pub returns-in-Unary : goal.returns-in-Unary
returns-in-Unary c = rw (c.in-Unary.is, part.expr_part-Unary) refl

pub returns-in-Chain : goal.returns-in-Chain
returns-in-Chain c = rw (c.in-Chain.is, part.expr_part-Chain) refl

pub returns-in-Conditional : goal.returns-in-Conditional
returns-in-Conditional c = rw (c.in-Conditional.is, part.expr_part-Conditional) refl

pub returns-in-Assign : goal.returns-in-Assign
returns-in-Assign c = rw (c.in-Assign.is, part.expr_part-Assign) refl

pub returns-in-Yield : goal.returns-in-Yield
returns-in-Yield c = rw (c.in-Yield.is, part.expr_part-Yield) refl

pub returns-in-Arrow : goal.returns-in-Arrow
returns-in-Arrow c = rw (c.in-Arrow.is, part.expr_part-Arrow) refl

pub returns-in-ArrowBlock : goal.returns-in-ArrowBlock
returns-in-ArrowBlock c = rw (c.in-ArrowBlock.is, part.expr_part-ArrowBlock) refl

pub returns-in-Comma : goal.returns-in-Comma
returns-in-Comma c = rw (c.in-Comma.is, part.expr_part-Comma) refl
