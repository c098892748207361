-- What the end of a body means for its own loop (LoopContinues, ECMA-262 §14.7.1.1).
use Rattle.std.specs.Prelude.{zero, suc}
use Rattle.actx_value.specs.declared.value.Value.TheVariants as values
use Rattle.actx_want.specs.declared.completion.Completion.{Completion}
use Rattle.actx_want.specs.declared.completion.Completion.TheVariants.{Normal, Break, Continue, Return, Throw}
use Rattle.actx_frame_steps.specs.declared.endings.BodyEnd.{BodyEnd}
use Rattle.actx_frame_steps.specs.declared.endings.BodyEnd.TheVariants.{Again, Over}

-- `break` and `continue` of number 0 are the loop's own; those of a greater number are of a loop further out, and are
-- one less there
abbrev pub body_end_of : Completion → BodyEnd
body_end_of (Normal v) = Again
body_end_of (Break zero) = Over (Normal values.Undefined)
body_end_of (Break (suc n)) = Over (Break n)
body_end_of (Continue zero) = Again
body_end_of (Continue (suc n)) = Over (Continue n)
body_end_of (Return v) = Over (Return v)
body_end_of (Throw v) = Over (Throw v)
