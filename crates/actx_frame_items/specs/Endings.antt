-- What the items that look at every completion do with one.
use Rattle.actx_want.specs.declared.completion.Completion.{Completion}
use Rattle.actx_want.specs.Loops.{body_ended, repeating, item_ended}
use Rattle.actx_want.specs.Patterns.{closed, or_close}
use Rattle.actx_want.specs.Tries.{catching, finishing}
use Rattle.actx_want.specs.Bodies.{eval, eval_caught}
use Rattle.actx_value.specs.declared.value.Value.{Value}
use Rattle.actx_code.specs.declared.item.Caught.{Caught}
use Rattle.actx_value.specs.declared.ids.ScopeId.{ScopeId}
use Rattle.actx_frame_items.specs.declared.items.ending.Ending.{Ending}
use Rattle.actx_frame_items.specs.declared.items.ending.Ending.TheVariants as endings
use Rattle.actx_frame_items.specs.Work.{Work}
use Rattle.actx_frame_items.specs.Patterns.{elements_left}
use Rattle.actx_frame_items.specs.Loops.{while_again, do_again, for_update, let_update, of_again}

-- what a catch clause does with a thrown value
unfoldable pub caught_work : Caught → ScopeId → Value → Work
caught_work clause p v = eval_caught clause p v

unfoldable pub ending_work : Ending → Completion → Work
ending_work (endings.While l) c = λ k. body_ended (while_again l k) k c
ending_work (endings.Do l) c = λ k. body_ended (eval l.test.value l.place (repeating (do_again l k) k)) k c
ending_work (endings.For l) c = λ k. body_ended (for_update l k) k c
ending_work (endings.Let l) c = λ k. body_ended (let_update l k) k c
ending_work (endings.Of l walk) c = λ k. item_ended walk (of_again l walk k) k c
ending_work (endings.OfTarget l q walk) c = λ k. or_close walk (eval l.body.value q (item_ended walk (of_again l walk k) k)) k c
ending_work (endings.OrClose e walk) c = λ k. or_close walk (elements_left e walk k) k c
ending_work (endings.Closed before) c = λ k. closed before k c
ending_work (endings.Catching clause p) c = λ k. catching (eval_caught clause.value) p k c
ending_work (endings.Finishing block p) c = λ k. finishing (eval block.value) p k c
