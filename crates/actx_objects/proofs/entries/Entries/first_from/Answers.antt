use Rattle.std.proofs.Common.{◌≤◌, List, Option, length, sym, ◌∙◌, arith}
use Rattle.actx_objects.specs.declared.slot.Slot.{Slot}
use Rattle.actx_objects.proofs.SeenLemmas.{first_skips, first_over}
use Rattle.actx_objects.proofs.entries.Entries.first_from.Goals as goal

pub returns-then-place-len : goal.returns-then-place-len
returns-then-place-len c =
    let slots : List (Option Slot) = c.self.inside.slots.items in
    let over : length slots ≤ c.args.place = omega arith in
    rw (← c.self.view_is) (first_over c.args.place c.args.place slots over ∙ sym (first_skips c.args.place 0 c.args.place slots (omega arith)))

pub loop-p-init : goal.loop-p-init
loop-p-init c =
    let slots : List (Option Slot) = c.self.inside.slots.items in
    rw (← c.self.view_is) (sym (first_skips c.args.place 0 c.args.place slots (omega arith)))
