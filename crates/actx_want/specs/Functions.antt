-- Functions, parameters, `yield` and `await` (ECMA-262 §10.2.11, §15).
use Rattle.std.specs.Prelude.{ℕ}
use Rattle.actx_text.specs.declared.body_id.BodyId.{BodyId}
use Rattle.actx_value.specs.declared.value.Value.{Value}
use Rattle.actx_value.specs.declared.request.Request.TheVariants as requests
use Rattle.actx_want.specs.Run.{Run, Next', Place, Meaning, ask, on_value}

-- a function or an arrow (§15.2.5, §15.3.4, §15.5.3, §15.8.3)
abbrev pub function : BodyId → Meaning
function body p k = ask (requests.Function body p) k

-- what is bound to a value
abbrev pub Binding : Type 0
Binding = Place → Value → Next' → Run

-- a value that is to be bound came
abbrev pub binding : Binding → Place → Next' → Next'
binding target p k = on_value (λ v. target p v k) k

-- a parameter (IteratorBindingInitialization of the arguments, §8.6.3)
abbrev pub parameter : ℕ → Binding → Meaning
parameter index target p k = ask (requests.Arg index) (binding target p k)

-- the parameter after `...`
abbrev pub rest_parameter : ℕ → Binding → Meaning
rest_parameter index target p k = ask (requests.ArgsFrom index) (binding target p k)

-- the start of a generator's body (EvaluateGeneratorBody, §15.5.2)
abbrev pub begin : Meaning
begin p k = ask requests.Begin k

-- `yield` (§15.5.5, GeneratorYield §27.5.3.7)
abbrev pub yielding : Next' → Next'
yielding k = on_value (λ v. ask (requests.Yield v) k) k

abbrev pub yielded : Meaning → Meaning
yielded e p k = e p (yielding k)

-- `await` (§15.8.5, Await §27.7.5.3)
abbrev pub awaiting : Next' → Next'
awaiting k = on_value (λ v. ask (requests.Await v) k) k

abbrev pub awaited : Meaning → Meaning
awaited e p k = e p (awaiting k)
