-- Sequences, choices, declarations and scopes (ECMA-262 §14.2 to §14.6, §14.8 to §14.10, §14.14).
use Rattle.std.specs.Prelude.{ℕ, List, [], ◌∷◌, if◌then◌else◌}
use Rattle.actx_value.specs.declared.value.Value.{Value}
use Rattle.actx_value.specs.declared.value.Value.TheVariants as values
use Rattle.actx_value.specs.declared.request.Request.TheVariants as requests
use Rattle.actx_value.specs.Truth.{truth_of}
use Rattle.actx_code.specs.declared.item.Declared.{Declared}
use Rattle.actx_want.specs.declared.completion.Completion.TheVariants.{Normal, Return, Throw}
use Rattle.actx_want.specs.Run.{Run, Next', Place, Meaning, ask, on_value, before, keeping, within}

-- forms one after another; the value of the last is given (§13.16.1, §14.2.2)
unfoldable pub sequenced : List Meaning → Value → Meaning
sequenced [] v p k = k (Normal v)
sequenced (e ∷ es) v p k = e p (on_value (λ w. sequenced es w p k) k)

abbrev pub sequence : List Meaning → Meaning
sequence es = sequenced es values.Undefined

-- the test's value came (§13.14.1, §14.6.2)
abbrev pub choosing : Meaning → Meaning → Place → Next' → Next'
choosing chosen other p k = on_value (λ v. if truth_of v then chosen p k else other p k) k

abbrev pub if_else : Meaning → Meaning → Meaning → Meaning
if_else test chosen other p k = test p (choosing chosen other p k)

-- the first value of a cell came; it is given (§14.3.1.2)
abbrev pub initialising : ℕ → Place → Next' → Next'
initialising slot p k = on_value (λ v. ask (requests.Init p 0 slot v) (keeping v k)) k

abbrev pub init : ℕ → Meaning → Meaning
init slot e p k = e p (initialising slot p k)

-- ---- scopes (§14.2.2, BlockDeclarationInstantiation §14.2.3)

-- a function that the scope declares came
abbrev pub declaring : ℕ → Place → Run → Next' → Next'
declaring slot p next k = on_value (λ v. ask (requests.Init p 0 slot v) (before next k)) k

-- the functions that a scope declares, and then what comes next
unfoldable pub declared_of : List Declared → Place → Run → Next' → Run
declared_of [] p next k = next
declared_of (f ∷ fs) p next k = ask (requests.Function f.body p) (declaring f.slot p (declared_of fs p next k) k)

-- the scope came
abbrev pub entered : List Declared → Meaning → Place → Next' → Next'
entered fs body p k = on_value (λ s. declared_of fs (within p s) (body (within p s) k) k) k

abbrev pub block : ℕ → List Declared → Meaning → Meaning
block cells fs body p k = ask (requests.Scope p cells) (entered fs body p k)

-- ---- `return`, `throw`, `break`, `continue` (§14.8 to §14.10, §14.14)

abbrev pub returning : Next' → Next'
returning k = on_value (λ v. k (Return v)) k

abbrev pub returned : Meaning → Meaning
returned e p k = e p (returning k)

abbrev pub throwing : Next' → Next'
throwing k = on_value (λ v. k (Throw v)) k

abbrev pub thrown : Meaning → Meaning
thrown e p k = e p (throwing k)
