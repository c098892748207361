-- What the items of operators and templates do with a value.
use Rattle.std.specs.Prelude.{map, drop}
use Rattle.actx_value.specs.declared.value.Value.{Value}
use Rattle.actx_want.specs.declared.completion.Completion.TheVariants.{Normal}
use Rattle.actx_want.specs.Operators.{applied_to, negating, dropping, applying, chaining, deciding_on, making_text, joining_text, joining}
use Rattle.actx_want.specs.Bodies.{eval_operand, eval_piece}
use Rattle.actx_frame_items.specs.declared.items.operator.OperatorStep.{OperatorStep}
use Rattle.actx_frame_items.specs.declared.items.operator.OperatorStep.TheVariants as steps
use Rattle.actx_frame_items.specs.Work.{Work, forms}

unfoldable pub operator_work : OperatorStep → Value → Work
operator_work (steps.AppliedTo op) v = λ k. applied_to op k (Normal v)
operator_work steps.Negating v = λ k. negating k (Normal v)
operator_work steps.Dropping v = λ k. dropping k (Normal v)
operator_work (steps.Applying op left) v = λ k. applying op left k (Normal v)
operator_work (steps.Chaining os i p) v = λ k. chaining (map eval_operand (drop i os.value.items)) p k (Normal v)
operator_work (steps.DecidingOn op es i p) v = λ k. deciding_on op (forms (drop i es.value.items)) p k (Normal v)
operator_work (steps.Templating ps i p) v = λ k. chaining (map eval_piece (drop i ps.value.items)) p k (Normal v)
operator_work (steps.MakingText after before) v = λ k. making_text after before k (Normal v)
operator_work (steps.JoiningText after before) v = λ k. joining_text after before k (Normal v)
operator_work (steps.Joining after) v = λ k. joining after k (Normal v)
