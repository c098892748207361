-- Requests for the arguments of the call whose body asks.
use Rattle.std.specs.Prelude.{ℕ, List, drop, slice_get, unwrap_or}
use Rattle.actx_value.specs.declared.value.Value.{Value}
use Rattle.actx_value.specs.declared.value.Value.TheVariants.{Undefined}
use Rattle.actx_request.specs.declared.home.Home.{Home}
use Rattle.actx_request.specs.Outcomes.{Stores, Outcome, gives}
use Rattle.actx_request.specs.Lists.{array_of}

-- Arg (IteratorBindingInitialization of a parameter, ECMA-262 §8.6.3): `undefined` past the last
abbrev pub argument : List Value → ℕ → Stores → Outcome
argument arguments i s = gives (unwrap_or (slice_get arguments i) Undefined) s

-- ArgsFrom (the same of a rest parameter, §8.6.3): those from this place on
abbrev pub arguments_from : Home → List Value → ℕ → Stores → Outcome
arguments_from home arguments i s = array_of home (drop i arguments) s
