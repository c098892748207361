-- What a stack of items does with a completion, and what a piece of work leads to.
use Rattle.std.specs.Prelude.{◌≡◌, List, [], ◌∷◌, Result, Ok, Err}
use Rattle.std.specs.declared.alloc.AllocError.{AllocError}
use Rattle.actx_value.specs.declared.value.Value.{Value}
use Rattle.actx_want.specs.Run.{Run, Next', ask, asks, on_value}
use Rattle.actx_want.specs.Bodies.{eval, eval_pattern, eval_element, end_of}
use Rattle.actx_frame_items.specs.declared.items.Step.{Step}
use Rattle.actx_frame_items.specs.declared.items.Step.TheVariants as steps
use Rattle.actx_frame_items.specs.declared.items.Item.{Item}
use Rattle.actx_frame_items.specs.declared.items.Item.TheVariants as items
use Rattle.actx_frame_items.specs.declared.items.Control.{Control}
use Rattle.actx_frame_items.specs.declared.items.Control.TheVariants as controls
use Rattle.actx_frame_items.specs.declared.items.Next.{Next}
use Rattle.actx_frame_items.specs.declared.items.Next.TheVariants as nexts
use Rattle.actx_frame_items.specs.Work.{Work}
use Rattle.actx_frame_items.specs.Names.{name_work}
use Rattle.actx_frame_items.specs.Operators.{operator_work}
use Rattle.actx_frame_items.specs.Members.{keyed, member_work}
use Rattle.actx_frame_items.specs.Lists.{list_work, entry_work}
use Rattle.actx_frame_items.specs.Patterns.{pattern_work}
use Rattle.actx_frame_items.specs.Statements.{statement_work, class_work}
use Rattle.actx_frame_items.specs.Loops.{loop_work, of_work}
use Rattle.actx_frame_items.specs.Endings.{ending_work}

-- what is done with a value
unfoldable pub step_work : Step → Value → Work
step_work (steps.Name s) v = name_work s v
step_work (steps.Operator s) v = operator_work s v
step_work (steps.Member s) v = member_work s v
step_work (steps.List s) v = list_work s v
step_work (steps.Entry s) v = entry_work s v
step_work (steps.Pattern s) v = pattern_work s v
step_work (steps.Statement s) v = statement_work s v
step_work (steps.Class s) v = class_work s v
step_work (steps.Loop s) v = loop_work s v
step_work (steps.Of s) v = of_work s v

-- what an item does with a completion
unfoldable pub act : Item → Next' → Next'
act (items.Value s) k = on_value (λ v. step_work s v k) k
act (items.Ending e) k = λ c. ending_work e c k

-- what a stack does with a completion; the topmost item comes last
unfoldable pub stacked : Next' → List Item → Next'
stacked k [] = k
stacked k (i ∷ is) = stacked (act i k) is

-- what a frame's stack does with a completion
unfoldable pub kept : List Item → Next'
kept stack = stacked end_of stack

-- what is done next
unfoldable pub control_work : Control → Work
control_work (controls.Done c) = λ k. k c
control_work (controls.Ask r) = λ k. ask r k
control_work (controls.AskWith r list) = λ k. asks r list.items k
control_work (controls.Eval e p) = eval e.value p
control_work (controls.UseKey key p u) = keyed key p u
control_work (controls.Bind x p v) = eval_pattern x.value p v
control_work (controls.BindElement e p v) = eval_element e p v

-- the same, above items that go onto the stack
unfoldable pub next_work : Next → Work
next_work (nexts.Just c) = control_work c
next_work (nexts.Under i c) = λ k. control_work c (act i k)
next_work (nexts.UnderTwo i j c) = λ k. control_work c (act j (act i k))

-- a piece of work leads to what was to be done
unfoldable pub Leads : Result Next AllocError → Work → Type 0
Leads (Ok n) w = next_work n ≡ w
Leads (Err e) w = Unit {0}

-- the same, with what is kept on the stack
unfoldable pub Reaches : Result Control AllocError → Next' → Run → Type 0
Reaches (Ok c) k r = control_work c k ≡ r
Reaches (Err e) k r = Unit {0}
