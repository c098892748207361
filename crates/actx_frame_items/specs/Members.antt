-- What the items of keys, members and suffixes do with a value.
use Rattle.std.specs.Prelude.{map, drop, true}
use Rattle.actx_value.specs.declared.value.Value.{Value}
use Rattle.actx_value.specs.declared.value.Value.TheVariants as values
use Rattle.actx_value.specs.declared.request.Request.TheVariants as requests
use Rattle.actx_want.specs.declared.completion.Completion.TheVariants.{Normal}
use Rattle.actx_want.specs.Run.{Next', Place, ask, on_value}
use Rattle.actx_want.specs.Lists.{defining}
use Rattle.actx_want.specs.Members.{WithReceiver, keying, member_of, at_object, got, suffixed, giving, deleting}
use Rattle.actx_want.specs.Bodies.{eval, eval_key, eval_change, eval_suffix}
use Rattle.actx_code.specs.declared.member.Key.{Key}
use Rattle.actx_value.specs.declared.ids.ScopeId.{ScopeId}
use Rattle.actx_frame_items.specs.declared.items.member.Chain.{Chain}
use Rattle.actx_frame_items.specs.declared.items.member.ChainEnd.{ChainEnd}
use Rattle.actx_frame_items.specs.declared.items.member.ChainEnd.TheVariants as ends
use Rattle.actx_frame_items.specs.declared.items.member.KeyUse.{KeyUse}
use Rattle.actx_frame_items.specs.declared.items.member.KeyUse.TheVariants as uses
use Rattle.actx_frame_items.specs.declared.items.member.MemberStep.{MemberStep}
use Rattle.actx_frame_items.specs.declared.items.member.MemberStep.TheVariants as steps
use Rattle.actx_frame_items.specs.Work.{Work}

-- what is done at the end of a chain
unfoldable pub chain_done : ChainEnd → Place → Next' → WithReceiver
chain_done ends.Give p k = giving k
chain_done (ends.Delete optional key) p k = deleting optional (eval_key key) p k

-- what a chain gives where `?.` stops it
abbrev pub stop_value : ChainEnd → Value
stop_value ends.Give = values.Undefined
stop_value (ends.Delete optional key) = values.Bool true

-- a chain from its present suffix on, with a receiver and a value
unfoldable pub following : Chain → Value → Value → Work
following c receiver v = λ k. suffixed (map eval_suffix (drop c.at c.suffixes.value.items)) c.place (chain_done c.end c.place k) (k (Normal (stop_value c.end))) k receiver v

-- what is done at the end of a chain with its value
unfoldable pub chain_ended : ChainEnd → ScopeId → Value → Work
chain_ended e p v = λ k. chain_done e p k values.Undefined v

-- what is done with a key
unfoldable pub used : KeyUse → Value → Work
used (uses.Change o change p) name = λ k. eval_change change (member_of o name) p k
used (uses.Get c v) name = λ k. ask (requests.Get v name) (got (λ r w. following c r w k) v k)
used (uses.Delete v) name = λ k. ask (requests.Delete v name) k
used (uses.Pair e p o) name = λ k. eval e.value p (defining o name k)
used (uses.Method body s o) name = λ k. ask (requests.Method body s o) (defining o name k)

-- a key, and what is done with it
unfoldable pub keyed : Key → ScopeId → KeyUse → Work
keyed key p u = λ k. eval_key key p (λ name. used u name k) k

unfoldable pub member_work : MemberStep → Value → Work
member_work (steps.Keying u) v = λ k. keying (λ name. used u name k) k (Normal v)
member_work (steps.Keyed u) v = used u v
member_work (steps.AtObject key change p) v = λ k. at_object (eval_key key) (eval_change change) p k (Normal v)
member_work (steps.Following c receiver) v = following c receiver v
member_work (steps.SuperThis key home c) v = λ k. ask (requests.SuperGet home key v) (on_value (λ w. following c v w k) k)
member_work (steps.SuperHome hops key c) v = λ k. ask (requests.Load c.place hops 0) (on_value (λ this. ask (requests.SuperGet v key this) (on_value (λ w. following c this w k) k)) k)
