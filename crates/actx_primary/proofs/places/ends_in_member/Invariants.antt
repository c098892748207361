use Rattle.std.proofs.Common.{◌≡◌, length}
use Rattle.actx_grammar.specs.Places.{ends_in_member}
use Rattle.actx_primary.proofs.places.ends_in_member.Given as goal

abbrev pub invariant-loop-left : goal.invariant-loop-left
invariant-loop-left l = ends_in_member l.suffixes ≡ ends_in_member l.left

abbrev pub decreases-loop-left : goal.decreases-loop-left
decreases-loop-left l = length l.left
