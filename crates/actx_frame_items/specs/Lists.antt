-- What the items of lists, calls and objects do with a value.
use Rattle.std.specs.Prelude.{List, [], map, drop}
use Rattle.actx_value.specs.declared.value.Value.{Value}
use Rattle.actx_value.specs.declared.request.Request.TheVariants as requests
use Rattle.actx_want.specs.declared.completion.Completion.TheVariants.{Normal}
use Rattle.actx_want.specs.Run.{Next', asks, before}
use Rattle.actx_want.specs.Lists.{WithList, Lister, coming, taking, collected, adding, opened, opening, listed, defining, copying, filled, filling}
use Rattle.actx_want.specs.Calls.{calling, making, this_bound, super_calling}
use Rattle.actx_want.specs.Bodies.{eval_argument, eval_entry}
use Rattle.actx_code.specs.declared.item.Argument.{Argument}
use Rattle.actx_value.specs.declared.ids.ScopeId.{ScopeId}
use Rattle.actx_frame_items.specs.declared.items.list.List.{List as List'}
use Rattle.actx_frame_items.specs.declared.items.list.ListEnd.{ListEnd}
use Rattle.actx_frame_items.specs.declared.items.list.ListEnd.TheVariants as ends
use Rattle.actx_frame_items.specs.declared.items.list.ListStep.{ListStep}
use Rattle.actx_frame_items.specs.declared.items.list.ListStep.TheVariants as steps
use Rattle.actx_frame_items.specs.declared.items.list.EntryStep.{EntryStep}
use Rattle.actx_frame_items.specs.declared.items.list.EntryStep.TheVariants as entries
use Rattle.actx_frame_items.specs.Work.{Work}
use Rattle.actx_frame_items.specs.Members.{following}

-- what is done with a list when it is whole
unfoldable pub finished : ListEnd → Next' → WithList
finished (ends.Call c receiver callee) k = calling (λ r w. following c r w k) receiver callee k
finished (ends.New f) k = λ list. asks (requests.New f) list k
finished (ends.Super f hops p) k = λ list. asks (requests.SuperCall f) list (this_bound hops p k)
finished ends.Array k = λ list. asks requests.Array list k

-- the same for this list
unfoldable pub whole : ListEnd → List Value → Work
whole e list = λ k. finished e k list

-- a list, from its first member on
unfoldable pub whole_list : List Argument → ScopeId → ListEnd → Work
whole_list ms p e = λ k. listed (map eval_argument ms) p [] (finished e k) k

-- the members from the present one on
abbrev pub members_left : List' → Lister
members_left l = listed (map eval_argument (drop l.at l.members.value.items)) l.place

-- these members behind all values of a walk
abbrev pub after_walk : List' → Next' → WithList
after_walk l k = λ all. members_left l all (finished l.end k) k

-- a list from its present member on
unfoldable pub listing : List' → Work
listing l = λ k. members_left l l.done.items (finished l.end k) k

unfoldable pub list_work : ListStep → Value → Work
list_work (steps.Adding l) v = λ k. adding (members_left l) l.done.items (finished l.end k) k (Normal v)
list_work (steps.Opening l) v = λ k. opening (members_left l) l.done.items (finished l.end k) k (Normal v)
list_work (steps.Opened l) v = λ k. opened (members_left l) l.done.items (finished l.end k) k (Normal v)
list_work (steps.Taking l walk) v = λ k. taking walk (after_walk l k) k (collected walk (after_walk l k) k) l.done.items (Normal v)
list_work (steps.Coming l walk) v = λ k. coming (collected walk (after_walk l k) k) (after_walk l k) l.done.items k (Normal v)
list_work (steps.Making ms p) v = λ k. making (map eval_argument ms.value.items) p k (Normal v)
list_work (steps.SuperCalling hops ms p) v = λ k. super_calling hops (map eval_argument ms.value.items) p k (Normal v)
list_work (steps.ThisBound hops p) v = λ k. this_bound hops p k (Normal v)

unfoldable pub entry_work : EntryStep → Value → Work
entry_work (entries.Filling es p) v = λ k. filling (map eval_entry es.value.items) p k (Normal v)
entry_work (entries.Filled es i p o) v = λ k. before (filled (map eval_entry (drop i es.value.items)) p o k) k (Normal v)
entry_work (entries.Defining o key) v = λ k. defining o key k (Normal v)
entry_work (entries.Copying o) v = λ k. copying o k (Normal v)
