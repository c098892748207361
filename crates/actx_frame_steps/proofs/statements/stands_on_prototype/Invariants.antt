use Rattle.std.proofs.Common.{◌≡◌, drop}
use Rattle.actx_want.specs.Classes.{stands_on_prototype}
use Rattle.actx_frame_steps.proofs.statements.stands_on_prototype.Given as goal

-- the members up to here are static
abbrev pub invariant-loop-member : goal.invariant-loop-member
invariant-loop-member l = stands_on_prototype (drop l.member-index l.members) ≡ stands_on_prototype l.members
