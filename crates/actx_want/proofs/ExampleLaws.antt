-- The worked examples, by computation.
use Rattle.std.proofs.Common.{refl}
use Rattle.actx_want.specs.Run.{turns, loop}
use Rattle.actx_want.specs.Lists.{listed}
use Rattle.actx_want.specs.Members.{suffixed}
use Rattle.actx_want.specs.Patterns.{keys_of, properties_of, past_end, items_of}
use Rattle.actx_want.specs.Classes.{stands_on_prototype, members_of}
use Rattle.actx_want.specs.CallExamples.{StopsAtNothing, SpreadsUntilTheMark, SuperBindsThis, MembersStandInOrder}
use Rattle.actx_want.specs.PatternExamples.{ClosesOpenWalks, CollectsTheRest, LeavesKeysOut}
use Rattle.actx_want.specs.Examples.{CountsInCopies, ClosesWhatItLeaves}

pub counts : CountsInCopies
unfolding turns loop
counts start old number new v p a b c = record { scope = refl; declared = refl; copy = refl; turn = refl; test = refl; ends = refl; next_copy = refl; read = refl; to_number = refl; add = refl; write = refl; next_turn = refl }

pub closes : ClosesWhatItLeaves
unfolding turns loop
closes value walk v w o p s = record { opens = refl; turn = refl; next = refl; ends = refl; fails = refl; scope = refl; target = refl; closes = refl; breaks = refl; closes_first = refl; returns = refl; closing_fails = refl; throws = refl }

pub stops : StopsAtNothing
unfolding listed suffixed
stops o key argument f v p = record { gets = refl; calls = refl; ends = refl; stops = refl; stops_at_null = refl; deletes = refl; deletes_nothing = refl }

pub spreads : SpreadsUntilTheMark
unfolding listed suffixed turns loop
spreads f items last walk o v p = record { opens = refl; turn = refl; next = refl; next_turn = refl; calls = refl; fails = refl }

pub binds : SuperBindsThis
unfolding listed
binds hops argument f this v p = record { loads = refl; calls = refl; binds = refl; ends = refl }

pub stands : MembersStandInOrder
unfolding stands_on_prototype members_of
stands c m o parent prototype key name f home x y v p = record { makes = refl; gets = refl; method = refl; defines = refl; static_method = refl; defines_static = refl; empty = refl }

pub closes_open : ClosesOpenWalks
unfolding items_of past_end
closes_open d value walk v w o p = record { opens = refl; next = refl; given = refl; null_given = refl; default = refl; next_element = refl; closes = refl; ends = refl; past_end = refl; past_end_too = refl; ends_there = refl; leaves = refl; left = refl; fails = refl; fails_past_end = refl }

pub collects : CollectsTheRest
unfolding items_of past_end turns loop
collects value walk v array o p = record { turn = refl; next = refl; collects = refl; binds = refl; nothing_left = refl }

pub leaves : LeavesKeysOut
unfolding properties_of keys_of
leaves key d value v rest p = record { gets = refl; default = refl; null_given = refl; collects = refl; binds = refl }
