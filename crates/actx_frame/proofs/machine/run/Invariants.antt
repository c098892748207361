use Rattle.std.proofs.Common.{Ok}
use Rattle.actx_frame.specs.declared.machine.Piece.TheVariants.{On}
use Rattle.actx_frame_items.specs.Stack.{kept, control_work}
use Rattle.actx_frame.specs.Machine.{Works}
use Rattle.actx_frame.proofs.machine.run.Given as goal

-- the work that is left leads to what was to be done
abbrev pub invariant-loop-piece : goal.invariant-loop-piece
invariant-loop-piece l = Works (Ok (On l.control)) l.stack.items (control_work l.initial.control (kept l.initial.stack.items))
