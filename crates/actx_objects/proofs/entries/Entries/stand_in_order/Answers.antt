use Rattle.std.proofs.Common.{◌≡◌, ◌<◌, List, Option, length, arith}
use Rattle.actx_objects.specs.declared.slot.Slot.{Slot}
use Rattle.actx_objects.specs.Entries.{EntryList, StandInOrder}
use Rattle.actx_objects.specs.Slots.{standing_from}
use Rattle.actx_objects.proofs.OrderLemmas.{slots_ascend, slots_below}
use Rattle.actx_objects.proofs.entries.Entries.stand_in_order.Goals as goal

in_order : (slots : List (Option Slot)) (es : EntryList) → record { standing = standing_from 0 slots; places = length slots } ≡ es → es.places < 2147483648 → StandInOrder es
in_order slots es e h = rw (← e) (record { ascending = slots_ascend 0 slots; below = slots_below 0 (length slots) slots (omega arith); few = rw (← e) at h })

pub returns : goal.returns
returns c = in_order c.self.inside.slots.items c.args.self.now c.self.view_is c.requires
