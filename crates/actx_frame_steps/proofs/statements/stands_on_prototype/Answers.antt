use Rattle.std.proofs.Common.{sym, ◌∙◌}
use Rattle.actx_frame_steps.proofs.ClassLaws.{stands_first, stands_later}
use Rattle.actx_frame_steps.proofs.statements.stands_on_prototype.Goals as goal

pub returns-then-not-member : goal.returns-then-not-member
returns-then-not-member c =
    sym (stands_first c.args.members.now c.loop-member.member-index _ c.loop-member-test.true c.if-not-member.true) ∙ c.loop-member.invariant

pub loop-member-preserved : goal.loop-member-preserved
loop-member-preserved c =
    sym (stands_later c.args.members.now c.loop-member.member-index _ c.loop-member-test.true c.if-not-member.false) ∙ c.loop-member.invariant
