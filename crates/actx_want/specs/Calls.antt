-- Calls (ECMA-262 §13.3.5, §13.3.6, §13.3.7).
use Rattle.std.specs.Prelude.{ℕ, List, [], Bool, if◌then◌else◌}
use Rattle.actx_value.specs.declared.value.Value.{Value}
use Rattle.actx_value.specs.declared.value.Value.TheVariants as values
use Rattle.actx_value.specs.declared.request.Request.TheVariants as requests
use Rattle.actx_want.specs.Run.{Next', Place, Meaning, ask, asks, on_value, keeping}
use Rattle.actx_want.specs.Lists.{Listed, WithList, listed}
use Rattle.actx_want.specs.Members.{WithReceiver, Suffixed, stops}

-- ---- `( .. )` (EvaluateCall, §13.3.6.2)

-- what the call gave; it has no receiver
abbrev pub called : WithReceiver → Next' → Next'
called fin k = on_value (λ w. fin values.Undefined w) k

abbrev pub calling : WithReceiver → Value → Value → Next' → WithList
calling fin receiver v k list = asks (requests.Call v receiver) list (called fin k)

abbrev pub call : Bool → List Listed → Suffixed
call optional arguments p fin stop k receiver v =
    if stops optional v then stop else listed arguments p [] (calling fin receiver v k) k

-- ---- `new` (EvaluateNew, §13.3.5.1.1)

-- what is made of came
abbrev pub making : List Listed → Place → Next' → Next'
making arguments p k = on_value (λ f. listed arguments p [] (λ list. asks (requests.New f) list k) k) k

abbrev pub new : Meaning → List Listed → Meaning
new callee arguments p k = callee p (making arguments p k)

-- ---- `super( .. )` (§13.3.7.1)

-- the object came, and is `this` from now on (BindThisValue, §9.1.1.3.1)
abbrev pub this_bound : ℕ → Place → Next' → Next'
this_bound hops p k = on_value (λ v. ask (requests.Init p hops 0 v) (keeping v k)) k

-- the constructor came
abbrev pub super_calling : ℕ → List Listed → Place → Next' → Next'
super_calling hops arguments p k = on_value (λ f. listed arguments p [] (λ list. asks (requests.SuperCall f) list (this_bound hops p k)) k) k

abbrev pub super_call : ℕ → List Listed → Meaning
super_call hops arguments p k = ask (requests.Load p hops 1) (super_calling hops arguments p k)
