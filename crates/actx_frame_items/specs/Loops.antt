-- What the items of loops do with a value.
use Rattle.actx_value.specs.declared.value.Value.{Value}
use Rattle.std.specs.Prelude.{◌≡◌}
use Rattle.actx_value.specs.declared.request.Request.TheVariants as requests
use Rattle.actx_want.specs.declared.completion.Completion.TheVariants.{Normal}
use Rattle.actx_want.specs.Run.{Next', Turn, ask, before, loop}
use Rattle.actx_want.specs.Loops.{Once, tested, while_turn, repeating, do_turn, for_turn, updating, let_turn, let_started, let_declared, let_entered, item_entered, item_came, of_turn, of_walking, of_opening}
use Rattle.actx_want.specs.Bodies.{eval, eval_pattern}
use Rattle.actx_want.specs.Run.{Place, within}
use Rattle.actx_frame_items.specs.declared.items.walk.WhileLoop.{WhileLoop}
use Rattle.actx_frame_items.specs.declared.items.walk.ForLoop.{ForLoop}
use Rattle.actx_frame_items.specs.declared.items.walk.OfLoop.{OfLoop}
use Rattle.actx_frame_items.specs.declared.items.walk.LoopStep.{LoopStep}
use Rattle.actx_frame_items.specs.declared.items.walk.LoopStep.TheVariants as steps
use Rattle.actx_frame_items.specs.declared.items.walk.OfStep.{OfStep}
use Rattle.actx_frame_items.specs.declared.items.walk.OfStep.TheVariants as ofs
use Rattle.actx_frame_items.specs.Work.{Work}

-- ---- the turns of a loop

abbrev pub while_turns : WhileLoop → Next' → Turn Once
while_turns l k = while_turn (eval l.test.value) (eval l.body.value) l.place k

abbrev pub do_turns : WhileLoop → Next' → Turn Once
do_turns l k = do_turn (eval l.body.value) (eval l.test.value) l.place k

abbrev pub for_turns : ForLoop → Next' → Turn Once
for_turns l k = for_turn (eval l.test.value) (eval l.update.value) (eval l.body.value) l.place k

abbrev pub let_turns : ForLoop → Next' → Turn Place
let_turns l k = let_turn (eval l.test.value) (eval l.update.value) (eval l.body.value) k

abbrev pub of_turns : OfLoop → Value → Next' → Turn Once
of_turns l walk k = of_turn l.cells (eval_pattern l.target.value) (eval l.body.value) walk l.place k

-- ---- the loop again

abbrev pub while_again : WhileLoop → Work
while_again l = λ k. loop (while_turns l k) tt

abbrev pub do_again : WhileLoop → Work
do_again l = λ k. loop (do_turns l k) tt

abbrev pub for_again : ForLoop → Work
for_again l = λ k. loop (for_turns l k) tt

abbrev pub let_again : ForLoop → Work
let_again l = λ k. loop (let_turns l k) l.place

abbrev pub of_again : OfLoop → Value → Work
of_again l walk = λ k. loop (of_turns l walk k) tt

-- ---- after the body: the update, and the loop again

abbrev pub for_update : ForLoop → Work
for_update l = λ k. eval l.update.value l.place (before (for_again l k) k)

-- the update runs in the next copy of the scope
abbrev pub let_update : ForLoop → Work
let_update l = λ k. ask (requests.Fork l.place) (updating (eval l.update.value) (loop (let_turns l k)) l.place k)

unfoldable pub loop_work : LoopStep → Value → Work
loop_work (steps.WhileTurn l) v = λ k. while_turns l k (loop (while_turns l k)) tt (Normal v)
loop_work (steps.WhileTested l) v = λ k. tested (eval l.body.value) (while_again l k) l.place k (Normal v)
loop_work (steps.DoTurn l) v = λ k. do_turns l k (loop (do_turns l k)) tt (Normal v)
loop_work (steps.Repeating l) v = λ k. repeating (do_again l k) k (Normal v)
loop_work (steps.ForDue l) v = λ k. before (for_again l k) k (Normal v)
loop_work (steps.ForTurn l) v = λ k. for_turns l k (loop (for_turns l k)) tt (Normal v)
loop_work (steps.ForTested l) v = λ k. tested (eval l.body.value) (for_update l k) l.place k (Normal v)
loop_work (steps.LetEntered first l) v = λ k. let_entered (eval first.value) (eval l.test.value) (eval l.update.value) (eval l.body.value) l.place k (Normal v)
loop_work (steps.LetDeclared l) v = λ k. let_declared (eval l.test.value) (eval l.update.value) (eval l.body.value) l.place k (Normal v)
loop_work (steps.LetStarted l) v = λ k. let_started (eval l.test.value) (eval l.update.value) (eval l.body.value) l.place k (Normal v)
loop_work (steps.LetTurn l) v = λ k. let_turns l k (loop (let_turns l k)) l.place (Normal v)
loop_work (steps.LetTested l) v = λ k. tested (eval l.body.value) (let_update l k) l.place k (Normal v)
loop_work (steps.Updating l) v = λ k. updating (eval l.update.value) (loop (let_turns l k)) l.place k (Normal v)
loop_work (steps.LetUpdated l) v = λ k. before (let_again l k) k (Normal v)

unfoldable pub of_work : OfStep → Value → Work
of_work (ofs.Opening l) v = λ k. of_opening l.cells (eval_pattern l.target.value) (eval l.body.value) l.place k (Normal v)
of_work (ofs.Walking l) v = λ k. of_walking l.cells (eval_pattern l.target.value) (eval l.body.value) l.place k (Normal v)
of_work (ofs.Turn l walk) v = λ k. of_turns l walk k (loop (of_turns l walk k)) tt (Normal v)
of_work (ofs.ItemCame l walk) v = λ k. item_came l.cells (eval_pattern l.target.value) (eval l.body.value) walk (of_again l walk k) l.place k (Normal v)
of_work (ofs.ItemEntered l walk item) v = λ k. item_entered (eval_pattern l.target.value) (eval l.body.value) walk item (of_again l walk k) l.place k (Normal v)

-- the same loop in the scope that a request gave
pub record Moved (l m : ForLoop) (v : Value) : Type 0 where
  pub test : l.test ≡ m.test
  pub update : l.update ≡ m.update
  pub body : l.body ≡ m.body
  pub place : l.place ≡ within m.place v
