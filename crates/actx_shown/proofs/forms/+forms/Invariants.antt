-- What the loop keeps, and what each call goes down by: so many levels are left, and the calls of one level come in this
-- order.
use Rattle.std.proofs.Common.{◌≡◌, ◌++◌, ◌+◌, ◌*◌, drop}
use Rattle.actx_shown.specs.Forms as forms
use Rattle.actx_shown.proofs.forms.+forms.Given as goal

abbrev pub invariant-push_further-loop-item : goal.invariant-push_further-loop-item
invariant-push_further-loop-item l = l.out.items ++ forms.further_form (forms.form l.levels l.texts.texts l.objects) (drop l.item-index l.items) ≡ l.fn.out.items ++ forms.further_form (forms.form l.levels l.texts.texts l.objects) l.fn.items

abbrev pub decreases-push_container : goal.decreases-push_container
decreases-push_container l = 6 * l.levels

abbrev pub decreases-push_form : goal.decreases-push_form
decreases-push_form l = 6 * l.levels + 1

abbrev pub decreases-push_item : goal.decreases-push_item
decreases-push_item l = 6 * l.levels + 2

abbrev pub decreases-push_further : goal.decreases-push_further
decreases-push_further l = 6 * l.levels + 3

abbrev pub decreases-push_items : goal.decreases-push_items
decreases-push_items l = 6 * l.levels + 4

abbrev pub decreases-push_opened : goal.decreases-push_opened
decreases-push_opened l = 6 * l.levels + 5
