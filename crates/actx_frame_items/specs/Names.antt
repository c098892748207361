-- What the items of names and changes do with a value.
use Rattle.actx_value.specs.declared.value.Value.{Value}
use Rattle.actx_value.specs.declared.request.Request.{Request}
use Rattle.actx_value.specs.declared.request.Request.TheVariants as requests
use Rattle.actx_want.specs.declared.completion.Completion.TheVariants.{Normal}
use Rattle.actx_want.specs.Run.{ask, keeping}
use Rattle.actx_want.specs.Names.{Access, storing, combining, right_of, deciding, storing_after, stepped_before, stepped_after, numbering}
use Rattle.actx_want.specs.Members.{member_of}
use Rattle.actx_want.specs.Bodies.{eval}
use Rattle.actx_frame_items.specs.declared.items.name.Spot.{Spot}
use Rattle.actx_frame_items.specs.declared.items.name.Spot.TheVariants as spots
use Rattle.actx_frame_items.specs.declared.items.name.NameStep.{NameStep}
use Rattle.actx_frame_items.specs.declared.items.name.NameStep.TheVariants as steps
use Rattle.actx_frame_items.specs.Work.{Work}

abbrev pub access : Spot → Access
access (spots.Name s hops slot) = record { read = λ k. ask (requests.Load s hops slot) k; write = λ v k. ask (requests.Store s hops slot v) k }
access (spots.Member o key) = member_of o key

-- what is asked where a spot is read and written
abbrev pub read_of : Spot → Request
read_of (spots.Name s hops slot) = requests.Load s hops slot
read_of (spots.Member o key) = requests.Get o key

abbrev pub write_of : Spot → Value → Request
write_of (spots.Name s hops slot) v = requests.Store s hops slot v
write_of (spots.Member o key) v = requests.Set o key v

unfoldable pub name_work : NameStep → Value → Work
name_work (steps.Storing a) v = λ k. storing (access a) k (Normal v)
name_work (steps.Keeping held) v = λ k. keeping held k (Normal v)
name_work (steps.Combining a op old) v = λ k. combining (access a) op old k (Normal v)
name_work (steps.RightOf a op e p) v = λ k. right_of (access a) op (eval e.value) p k (Normal v)
name_work (steps.Deciding a op e p) v = λ k. deciding (access a) op (eval e.value) p k (Normal v)
name_work (steps.StoringAfter a old) v = λ k. storing_after (access a) old k (Normal v)
name_work (steps.SteppedBefore a op) v = λ k. stepped_before (access a) op k (Normal v)
name_work (steps.SteppedAfter a op) v = λ k. stepped_after (access a) op k (Normal v)
name_work (steps.NumberingBefore a op) v = λ k. numbering (stepped_before (access a) op k) k (Normal v)
name_work (steps.NumberingAfter a op) v = λ k. numbering (stepped_after (access a) op k) k (Normal v)
