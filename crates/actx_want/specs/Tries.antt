-- `try` (ECMA-262 §14.15).
use Rattle.std.specs.Prelude.{ℕ, Option, Some, None}
use Rattle.actx_value.specs.declared.value.Value.{Value}
use Rattle.actx_value.specs.declared.request.Request.TheVariants as requests
use Rattle.actx_want.specs.declared.completion.Completion.{Completion}
use Rattle.actx_want.specs.declared.completion.Completion.TheVariants.{Normal, Break, Continue, Return, Throw}
use Rattle.actx_want.specs.Run.{Next', Place, Meaning, ask, on_value, before, within}
use Rattle.actx_want.specs.Functions.{Binding}

-- ---- catch clauses (CatchClauseEvaluation, §14.15.2), by what is done with the thrown value

abbrev pub unbound : Meaning → Binding
unbound block p v k = block p k

-- the scope of the clause came
abbrev pub catch_entered : Binding → Meaning → Value → Place → Next' → Next'
catch_entered target block v p k = on_value (λ s. target (within p s) v (before (block (within p s) k) k)) k

abbrev pub bound : ℕ → Binding → Meaning → Binding
bound cells target block p v k = ask (requests.Scope p cells) (catch_entered target block v p k)

-- a throw is caught, and every other completion passes
abbrev pub catching : Binding → Place → Next' → Next'
catching clause p k (Throw v) = clause p v k
catching clause p k (Normal v) = k (Normal v)
catching clause p k (Break n) = k (Break n)
catching clause p k (Continue n) = k (Continue n)
catching clause p k (Return v) = k (Return v)

abbrev pub caught : Option Binding → Place → Next' → Next'
caught None p k = k
caught (Some clause) p k = catching clause p k

-- ---- `finally` (§14.15.3)

-- the finally block ended: the completion before it goes on, unless its own is abrupt
abbrev pub settling : Completion → Next' → Next'
settling c k = on_value (λ _. k c) k

abbrev pub finishing : Meaning → Place → Next' → Next'
finishing block p k c = block p (settling c k)

abbrev pub finally_of : Option Meaning → Place → Next' → Next'
finally_of None p k = k
finally_of (Some block) p k = finishing block p k

-- the block; a throw of it goes to the clause, and the end of either to the finally block
abbrev pub try : Meaning → Option Binding → Option Meaning → Meaning
try block clause final p k = block p (caught clause p (finally_of final p k))
