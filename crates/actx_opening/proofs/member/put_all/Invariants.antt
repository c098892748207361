use Rattle.std.proofs.Common.{◌≡◌, drop}
use Rattle.std.specs.List.{fold}
use Rattle.actx_opening.specs.Members.{with_member}
use Rattle.actx_opening.proofs.member.put_all.Given as goal

abbrev pub invariant-loop-member : goal.invariant-loop-member
invariant-loop-member l = fold (with_member l.texts.texts l.first) l.objects (drop l.member-index l.table) ≡ fold (with_member l.texts.texts l.first) l.fn.objects l.fn.table
